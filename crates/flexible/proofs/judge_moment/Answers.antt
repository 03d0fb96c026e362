-- The first eight bytes are judged as the day's, the others as the time's.
use Rattle.std.proofs.Common.{arith}
use Rattle.demand.specs.Laws.Joined.{front_fits, judges_back}
use Rattle.calendar.specs.Laws.Time.{time_positions}
use Rattle.flexible.specs.Laws.Day.{day_positions}
use Rattle.flexible.proofs.judge_moment.Goals as goal

pub judge_day-requires : goal.judge_day-requires
judge_day-requires c =
    (omega arith, omega arith, front_fits day_positions time_positions _ c.args.i (omega arith) c.requires.2)

pub returns-else-i-lt8 : goal.returns-else-i-lt8
returns-else-i-lt8 c = judges_back day_positions time_positions _ _ (omega arith) (omega arith) c.judge_time.ensures
