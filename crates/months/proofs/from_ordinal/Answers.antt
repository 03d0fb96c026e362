-- A lawful date is the day that the walk finds; no lawful day has an unlawful date.
use Rattle.std.proofs.Common.{rules}
use Rattle.months.specs.Laws.Ordinal.{told_day}
use Rattle.months.proofs.from_ordinal.Goals as goal

pub returns-then-is_lawful_date : goal.returns-then-is_lawful_date
returns-then-is_lawful_date c = search (told_day, rules)
