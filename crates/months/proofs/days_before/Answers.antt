-- The loop has summed the months it has passed.
use Rattle.std.proofs.Common.{arith}
use Rattle.months.specs.Laws.Ordinal.{days_most}
use Rattle.months.proofs.days_before.Goals as goal

pub overflow_add-days : goal.overflow_add-days
overflow_add-days c = omega (arith, days_most c.args.year c.loop-earlier.earlier)
