-- Each arm tests what its form asks for; that of 2001 has no compounds.
use Rattle.std.proofs.Common.{rules, ◌≡◌, ap, ◌∙◌, length}
use Rattle.text.specs.Laws.Decides.{decides_both, decides_equal, decides_same}
use Rattle.structure.specs.Laws.Due.{of_edition}
use Rattle.message_writer.specs.Laws.Writer.{entry_at}
use Rattle.message_writer.specs.Laws.Shape.{seat_in_tells, shape_tells, alone_tells}
use Rattle.message_writer.proofs.is_shapely.Goals as goal

pub returns-in-Single : goal.returns-in-Single
returns-in-Single c =
    let m = c.args.message.now in
    let sixteen : length m.entries ≡ 16 = search rules in
    let here = decides_same (c.of_edition-here.ensures ∙ ap (of_edition c.args.edition) c.number_of.ensures)
    (seat_in_tells c.args.edition (entry_at m.entries 0)) in
    shape_tells sixteen c.in-Single.is
    (alone_tells (decides_both (decides_both (decides_equal m.count 1) here) (decides_equal m.bbb 0)))

pub returns-in-Pair : goal.returns-in-Pair
returns-in-Pair c =
    let m = c.args.message.now in
    let sixteen : length m.entries ≡ 16 = search rules in
    let two = decides_both (decides_equal m.count 2) c.may_pair-paired.ensures in
    shape_tells sixteen c.in-Pair.is (alone_tells (decides_both two (decides_equal m.bbb 0)))

pub returns-in-Current : goal.returns-in-Current
returns-in-Current c =
    let m = c.args.message.now in
    let sixteen : length m.entries ≡ 16 = search rules in
    rw c.in-Current.is (shape_tells sixteen c.in-Compound.is c.is_compound.ensures)
