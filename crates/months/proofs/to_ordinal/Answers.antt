-- A lawful day's date is the days before its month and its own; an unlawful one is no day.
use Rattle.std.proofs.Common.{arith}
use Rattle.months.specs.Laws.Ordinal.{days_most}
use Rattle.months.proofs.to_ordinal.Goals as goal

pub overflow_add-result : goal.overflow_add-result
overflow_add-result c = let day = c.args.day in omega (arith, days_most day.year day.month)
