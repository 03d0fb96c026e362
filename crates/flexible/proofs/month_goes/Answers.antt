-- Each way of the match is the rule of the position there.
use Rattle.std.proofs.Common.{arith}
use Rattle.flexible.specs.Laws.Day.{month_fits}
use Rattle.flexible.proofs.month_goes.Goals as goal

pub last_day-requires : goal.last_day-requires
last_day-requires c =
    month_fits c.args.c.now c.args.i (omega arith) (omega arith) c.requires.0 c.requires.3

pub last_day-requires-in_default : goal.last_day-requires-in_default
last_day-requires-in_default c =
    month_fits c.args.c.now c.args.i (omega arith) (omega arith) c.requires.0 c.requires.3
