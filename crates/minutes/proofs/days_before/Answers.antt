-- The quotients count the leap years.
use Rattle.std.proofs.Common.{arith}
use Rattle.minutes.specs.Laws.Count.{by_quotients, days_few}
use Rattle.minutes.proofs.days_before.Goals as goal

pub returns : goal.returns
returns c = let is = by_quotients c.args.year c.requires.first in (omega arith, omega (arith, days_few c.requires))
