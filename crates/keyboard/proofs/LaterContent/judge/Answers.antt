-- The last position is the check's, any other a digit's.
use Rattle.std.proofs.Common.{arith}
use Rattle.keyboard.specs.Laws.Reader.{judges_check}
use Rattle.keyboard.proofs.LaterContent.judge.Goals as goal

pub returns-in-12 : goal.returns-in-12
returns-in-12 c = judges_check (omega arith) c.is_check_character.ensures c.check_of.ensures c.verdict.ensures
