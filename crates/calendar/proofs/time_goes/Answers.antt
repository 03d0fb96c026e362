-- Each way of the match is the rule of the position there.
use Rattle.std.proofs.Common.{◌≡◌, arith}
use Rattle.calendar.proofs.time_goes.Goals as goal

pub returns-in-2 : goal.returns-in-2
returns-in-2 c = let third : c.args.i ≡ 2 = omega arith in rw third c.is_between-in-2.ensures
