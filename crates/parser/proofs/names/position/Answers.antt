use Rattle.std.proofs.Common.{rules}
use Rattle.std.proofs.lemmas.Iterator.{YieldsList-from_slice}
use Rattle.std.proofs.lemmas.Iterator.Search.{position_from_yields_List}
use borrow.Author.Tests.{tests}
use Rattle.lexer.specs.Words.{same}
use Rattle.parser.proofs.Naming.{looked_up}
use Rattle.parser.proofs.names.position.Goals as goal

pub returns : goal.returns
returns g c =
    looked_up g.T.Named.called c.args.name.now c.args.list.now c.position.result
    (position_from_yields_List (λ x. same c.args.name.now (g.T.Named.called x)) _ _ _ c.position.ensures.ran (YieldsList-from_slice _ c.iter.ensures.rest) (λ x b q k. search (rules, tests)))
