-- Each way of the match is the rule of the position there.
use Rattle.std.proofs.Common.{arith}
use Rattle.flexible.specs.Laws.Day.{any_later}
use Rattle.flexible.proofs.year_goes.Goals as goal

pub returns-in_default : goal.returns-in_default
returns-in_default c = let args = c.args in any_later args.c.now args.i args.b (omega arith) (omega arith)
