-- The first moment that is refused is told, and where none is, the difference.
use Rattle.std.proofs.Common.{refl}
use Rattle.demand.specs.Laws.Numbered.{refuses}
use Rattle.minutes.specs.Laws.Answer.{is_lawful, refuses_now, refuses_expiry}
use Rattle.minutes.proofs.minutes_left.Goals as goal

pub returns-in-Err : goal.returns-in-Err
returns-in-Err c = refuses_now c.in-Err.ensures (refuses c.in-Err.refusal) c.refused.ensures

pub returns-in-Err-judge : goal.returns-in-Err-judge
returns-in-Err-judge c =
    refuses_expiry c.in_default.ensures refl c.moment_of-end.ensures c.in-Err-judge.ensures (refuses c.in-Err-judge.refusal)
    c.refused-in-Err-judge.ensures

pub minutes_from-requires : goal.minutes_from-requires
minutes_from-requires c = (is_lawful c.in_default.ensures refl, is_lawful c.in_default-judge.ensures refl)
