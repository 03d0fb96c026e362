-- The loop keeps a sum that has the remainder of the bytes that it has passed.
use Rattle.std.proofs.Common.{take}
use Rattle.check37.specs.Laws.Worth.{Sums}
use Rattle.check37.proofs.remainder.Given as goal

abbrev pub invariant-loop-b : goal.invariant-loop-b
invariant-loop-b l = Sums (take l.b-index l.s) l.sum
