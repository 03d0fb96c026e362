-- The bytes passed fit their positions; the first that does not, and the end, are what is told.
use Rattle.std.proofs.Common.{refl, arith, rules}
use Rattle.demand.specs.Laws.Content.{none}
use Rattle.content_scan.specs.Laws.Scan.{walked_on}
use Rattle.content_scan.proofs.scan.Goals as goal

pub loop-i-init : goal.loop-i-init
loop-i-init g c = record { whole = c.size-end.ensures; passed = search rules; inside = search rules; fits = none }

pub loop-i-preserved : goal.loop-i-preserved
loop-i-preserved g c =
    let within = c.size-end.ensures in
    walked_on c.loop-i.invariant (g.met.C.Content.tells c.loop-i.i (omega arith)) (omega arith) (omega arith) c.in_default.ensures refl
