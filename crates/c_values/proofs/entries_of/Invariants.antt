-- What was passed is done.
use Rattle.c_values.specs.Values.{entry_meant}
use Rattle.c_values.specs.Laws.Values.{Filled}
use Rattle.c_values.proofs.entries_of.Given as goal

abbrev pub invariant-loop-i : goal.invariant-loop-i
invariant-loop-i l = Filled entry_meant l.fn.structures l.all l.i
