-- The part from each value's first digit on is what its maker reads.
use Rattle.std.proofs.Common.{arith}
use Rattle.text.specs.Laws.Decimal.{digits_part, digits_tail}
use Rattle.structure_reader.proofs.value.flexible.Goals as goal

pub day_of-day-requires : goal.day_of-day-requires
day_of-day-requires c = digits_tail (digits_part c.requires 5 8 (omega arith) (omega arith))

pub from_digits-requires : goal.from_digits-requires
from_digits-requires c = digits_tail (digits_part c.requires 13 4 (omega arith) (omega arith))
