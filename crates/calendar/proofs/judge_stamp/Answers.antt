-- The first six bytes are judged as the date's, the others as the time's.
use Rattle.std.proofs.Common.{arith}
use Rattle.demand.specs.Laws.Joined.{front_fits, judges_back}
use Rattle.calendar.specs.Laws.Date.{date_positions}
use Rattle.calendar.specs.Laws.Time.{time_positions}
use Rattle.calendar.proofs.judge_stamp.Goals as goal

pub judge_date-requires : goal.judge_date-requires
judge_date-requires c =
    (omega arith, omega arith, front_fits date_positions time_positions _ c.args.i (omega arith) c.requires.2)

pub returns-else-i-lt6 : goal.returns-else-i-lt6
returns-else-i-lt6 c = judges_back date_positions time_positions _ _ (omega arith) (omega arith) c.judge_time.ensures
