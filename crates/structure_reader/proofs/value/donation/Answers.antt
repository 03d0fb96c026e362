-- Each part is the number of its digits.
use Rattle.std.proofs.Common.{arith}
use Rattle.text.specs.Laws.Decimal.{digits_part}
use Rattle.structure_reader.proofs.value.donation.Goals as goal

pub read_digits-requires : goal.read_digits-requires
read_digits-requires c = (digits_part c.requires 7 6 (omega arith) (omega arith), omega arith)

pub read_digits-requires-3 : goal.read_digits-requires-3
read_digits-requires-3 c = (digits_part c.requires 5 2 (omega arith) (omega arith), omega arith)
