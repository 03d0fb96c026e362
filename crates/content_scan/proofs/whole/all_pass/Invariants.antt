-- What is told so far is told of the bytes passed.
use Rattle.content_scan.specs.Laws.Passes.{Passes}
use Rattle.content_scan.proofs.whole.all_pass.Given as goal

abbrev pub invariant-loop-b : goal.invariant-loop-b
invariant-loop-b g l = Passes (λ b r. g.F.Fn.post l.test (b, tt) r) l.row l.b-index l.all
