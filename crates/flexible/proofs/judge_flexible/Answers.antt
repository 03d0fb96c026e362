-- The first four bytes are judged by themselves, the others as the day's and time's.
use Rattle.std.proofs.Common.{arith}
use Rattle.demand.specs.Laws.Joined.{back_fits, judges_back}
use Rattle.flexible.specs.Laws.DateType.{type_positions}
use Rattle.flexible.specs.Laws.Flexible.{moment_positions}
use Rattle.flexible.proofs.judge_flexible.Goals as goal

pub judge_moment-requires : goal.judge_moment-requires
judge_moment-requires c =
    (omega arith, omega arith, back_fits type_positions moment_positions _ c.args.i (omega arith) (omega arith) c.requires.2)

pub returns-else-i-lt4 : goal.returns-else-i-lt4
returns-else-i-lt4 c = judges_back type_positions moment_positions _ _ (omega arith) (omega arith) c.judge_moment.ensures
