-- Fourteen bytes that fit are accepted where nothing follows them.
use Rattle.std.proofs.Common.{refl}
use Rattle.keyboard.specs.Laws.Answers.{enters_accepted, enters_refused}
use Rattle.keyboard.specs.Laws.Reader.{answer_trailing, answer_complete, complete_digits}
use Rattle.keyboard.proofs.ended.Goals as goal

pub returns-then-entry-gt14 : goal.returns-then-entry-gt14
returns-then-entry-gt14 c = enters_refused (answer_trailing c.requires c.if-entry-gt14.true) c.refusal.ensures

pub donation-requires : goal.donation-requires
donation-requires c = complete_digits c.requires

pub returns : goal.returns
returns c =
    enters_accepted c.args.entry.now _
    (rw c.donation.ensures (answer_complete c.requires c.if-entry-gt14.false)) refl
