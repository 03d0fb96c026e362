-- One digit more than the power of ten that the number reaches.
use Rattle.lines.specs.Laws.Decimal.{fewest_by_power}
use Rattle.lines.proofs.count_digits.Goals as goal

pub returns : goal.returns
returns c = let power = c.ilog10.ensures in fewest_by_power c.max.ensures power.power_le power.next_power_gt power.bound
