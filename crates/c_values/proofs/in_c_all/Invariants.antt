-- The entries passed are done, and the others are empty.
use Rattle.std.proofs.Common.{◌≡◌, map}
use Rattle.c_values.specs.Values.{entry_in_c}
use Rattle.c_values.specs.Laws.Values.{trim}
use Rattle.c_values.proofs.in_c_all.Given as goal

abbrev pub invariant-loop-i : goal.invariant-loop-i
invariant-loop-i l = l.all ≡ map entry_in_c (trim l.fn.message.entries l.i)
