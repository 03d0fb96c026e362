-- What is left belongs to the month reached or to a later one.
use Rattle.months.specs.Laws.Ordinal.{Walked}
use Rattle.months.proofs.day_on.Given as goal

abbrev pub invariant-loop-month : goal.invariant-loop-month
invariant-loop-month l = Walked l.date l.month l.left
