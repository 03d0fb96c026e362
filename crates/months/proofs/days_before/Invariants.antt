-- The loop has summed the months it has passed.
use Rattle.months.specs.Laws.Ordinal.{Summed}
use Rattle.months.proofs.days_before.Given as goal

abbrev pub invariant-loop-earlier : goal.invariant-loop-earlier
invariant-loop-earlier l = Summed l.year l.month l.days l.earlier
