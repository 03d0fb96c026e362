-- Each part is what its digits stand for.
use Rattle.std.proofs.Common.{arith}
use Rattle.text.specs.Laws.Decimal.{digits_part}
use Rattle.flexible.proofs.day_of.Goals as goal

pub read_digits-requires-3 : goal.read_digits-requires-3
read_digits-requires-3 c = (digits_part c.requires 6 2 (omega arith) (omega arith), omega arith)
