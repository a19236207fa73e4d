-- the lines of as many edges are written as were passed
use Rattle.std.proofs.Common.{take}
use Rattle.std.specs.Fmt.{IsPlainFormatter, HasWritten}
use Rattle.listing.specs.Listings.{edge_lines}
use Rattle.listing.specs.Names.{variable_names}
use Rattle.listing.proofs.ListingDisplay.fmt.Given as goal

abbrev pub invariant-loop-edge : goal.invariant-loop-edge
invariant-loop-edge g l =
    IsPlainFormatter l.initial.f → HasWritten g.W.Write.write_str_gives l.initial.f (edge_lines (variable_names l.variables) (take l.edge-index l.edge-items)) l.f
