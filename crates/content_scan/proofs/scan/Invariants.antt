-- The bytes passed fit their positions; the first that does not, and the end, are what is told.
use Rattle.content_scan.specs.Laws.Scan.{Walked}
use Rattle.content_scan.proofs.scan.Given as goal

abbrev pub invariant-loop-i : goal.invariant-loop-i
invariant-loop-i g l = Walked g.C.Content.positions l.body l.end l.i
