use Rattle.std.proofs.Common.{length}
use Rattle.lexer.specs.Reader.{Room}
use Rattle.lexer.proofs.Finding.{goes, goes_text, room_kept, words_stand}
use Rattle.lexer.proofs.reader.WordReader.next.Goals as goal

pub invariant_of-self : goal.invariant_of-self
invariant_of-self c =
    let room : Room c.args.self.now.place (length c.args.self.now.rest.now) = (c.args.self.now.lines, c.args.self.now.columns) in
    let k = room_kept (goes c.args.self.now.rest.now c.args.self.now.place c.part_of-n.result.0 c.placed-answer.result c.gap_length-skipped.result c.part_of-n.result.1
    c.place_behind-place.result c.place_behind-behind.result room c.gap_length-skipped.ensures.0 c.place_behind-place.ensures
    (c.part_of-n.ensures.finds c.place_behind-place.result) c.placed-answer.ensures c.place_behind-behind.ensures) room in
    record { lines = k.0; columns = k.1 }

pub returns : goal.returns
returns c =
    let g = goes c.args.self.now.rest.now c.args.self.now.place c.part_of-n.result.0 c.placed-answer.result c.gap_length-skipped.result c.part_of-n.result.1
    c.place_behind-place.result c.place_behind-behind.result (c.args.self.now.lines, c.args.self.now.columns) c.gap_length-skipped.ensures.0 c.place_behind-place.ensures
    (c.part_of-n.ensures.finds c.place_behind-place.result) c.placed-answer.ensures c.place_behind-behind.ensures in
    record { goes = g; words = goes_text g; laws = words_stand }
