-- Each way of the scan gives the tree's answer.
use Rattle.keyboard.specs.Laws.Answers.{enters_refused}
use Rattle.keyboard.specs.Laws.Reader.{answer_short, answer_unfit}
use Rattle.keyboard.proofs.begun.Goals as goal

pub returns-in-Err-Short : goal.returns-in-Err-Short
returns-in-Err-Short c =
    enters_refused (answer_short c.requires (rw c.in-Err-Short.field-0-is at c.in-Err-Short.ensures)) c.refusal.ensures

pub returns-in-Err-Refused : goal.returns-in-Err-Refused
returns-in-Err-Refused c =
    enters_refused (answer_unfit c.requires (rw c.in-Err-Refused.field-0-is at c.in-Err-Refused.ensures)) c.refusal-in-Err-Refused.ensures
