-- The first byte, and then what follows it.
use Rattle.std.proofs.Common.{sym, ◌∙◌, arith}
use Rattle.keyboard.specs.Laws.Answers.{enters_refused}
use Rattle.keyboard.specs.Laws.Reader.{answer_none, answer_other}
use Rattle.keyboard.proofs.enter.Goals as goal

pub returns-then-entry-eq0 : goal.returns-then-entry-eq0
returns-then-entry-eq0 c = enters_refused (answer_none c.args.entry.now c.if-entry-eq0.true) c.refusal.ensures

pub returns-else-is_first_character : goal.returns-else-is_first_character
returns-else-is_first_character c =
    let other = sym c.is_first_character.ensures ∙ c.if-is_first_character.false in
    enters_refused (answer_other c.args.entry.now (omega arith) other) c.refusal-else-is_first_character.ensures
