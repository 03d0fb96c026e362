-- Each entry passed is of the edition's kinds, and the first that is not ends the search.
use Rattle.std.proofs.Common.{ℕ, ap, ◌∙◌}
use Rattle.text.specs.Laws.Decides.{decided, decided_not, decides_same, decides_no}
use Rattle.structure.specs.Laws.Due.{of_edition}
use Rattle.structure.specs.Laws.Kinds.{number_in}
use Rattle.message_writer.specs.Laws.Shape.{SeatIn, seat_in_tells}
use Rattle.message_writer.specs.Laws.Writer.{entry_at, up_to, within_at, within_number}
use Rattle.message_writer.proofs.are_of_edition.Goals as goal

pub returns-then-not-of_edition : goal.returns-then-not-of_edition
returns-then-not-of_edition c =
    let edition = c.args.edition in
    let i = c.loop-entry.entry-index in
    let h = c.loop-entry-test.true in
    let here = decides_same (c.of_edition.ensures ∙ ap (of_edition edition) (c.number_of.ensures ∙ ap number_in (within_at _ _ h)))
    (seat_in_tells edition (entry_at c.args.message.now.entries i)) in
    decides_no (λ g. decided_not here c.if-not-of_edition.true-raw (g i (within_number _ _ h)))

pub loop-entry-preserved : goal.loop-entry-preserved
loop-entry-preserved c =
    let edition = c.args.edition in
    let entries = c.args.message.now.entries in
    let loop = c.loop-entry in
    let here = decides_same (c.of_edition.ensures ∙ ap (of_edition edition) (c.number_of.ensures ∙ ap number_in (within_at _ _ c.loop-entry-test.true)))
    (seat_in_tells edition (entry_at entries loop.entry-index)) in
    up_to (λ (j : ℕ). SeatIn edition (entry_at entries j)) loop.entry-index loop.invariant (decided here c.if-not-of_edition.false-raw)
