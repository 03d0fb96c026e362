-- The code is the definition, and the years are few enough for it.
use Rattle.std.proofs.Common.{arith, rules}
use Rattle.minutes.specs.Laws.Count.{count_below}
use Rattle.minutes.proofs.minute_count.Goals as goal

pub returns : goal.returns
returns c = let below = count_below c.requires in (search rules, omega arith)
