-- What is counted so far is how many of the entries passed are 001s.
use Rattle.std.proofs.Common.{refl, sym, ap, ◌∙◌, arith, eqb}
use borrow.Author.Tests.{eqb-true, eqb-false}
use Rattle.structure.specs.Laws.Kinds.{number_in}
use Rattle.message.specs.Laws.Donations.{is_donation, is_other}
use Rattle.message_writer.specs.Laws.Writer.{entry_at, donations_next, within_at, within_entries}
use Rattle.message_writer.proofs.one_donation.Goals as goal
use Rattle.message_writer.proofs.one_donation.Goals.{then-is_donation, else-is_donation}

pub loop-entry-preserved : goal.loop-entry-preserved
loop-entry-preserved c =
    let entries = c.args.message.now.entries in
    let loop = c.loop-entry in
    let h = c.loop-entry-test.true in
    let x = entry_at entries loop.entry-index in
    let test = sym (c.is_donation.ensures ∙ ap (λ y. eqb (number_in y) 1) (within_at _ _ h)) in
    let more = donations_next entries loop.entry-index (within_entries _ _ h) in
    elim c.if-is_donation.branch [
      | then-is_donation w ↦
          (omega (arith, loop.invariant.0, is_donation x refl (eqb-true (number_in x) 1 (test ∙ w.if-is_donation.true))), omega arith)
      | else-is_donation w ↦
          (omega (arith, loop.invariant.0, is_other x refl (eqb-false (number_in x) 1 (test ∙ w.if-is_donation.false))), omega arith)
    ]
