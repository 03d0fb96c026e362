-- The loop keeps a sum that has the remainder of the bytes that it has passed.
use Rattle.std.proofs.Common.{◌≡◌, ◌≤◌, ◌%◌, arith}
use Rattle.check37.proofs.Passed.{one_passed}
use Rattle.check37.proofs.remainder.Goals as goal
use Rattle.check37.proofs.remainder.Goals.{then-sum-gt1000000, else-sum-gt1000000}

pub loop-b-preserved : goal.loop-b-preserved
loop-b-preserved c =
    let sum = c.if-sum-gt1000000.sum in
    let (low, same) : (sum ≤ 1000000) × (sum % 37 ≡ c.loop-b.sum % 37) =
    elim c.if-sum-gt1000000.branch [ then-sum-gt1000000 w ↦ (omega arith, omega arith) | else-sum-gt1000000 w ↦ (omega arith, omega arith) ] in
    rw c.worth.ensures (one_passed c.args.s.now c.loop-b.sum c.loop-b.b-index c.loop-b.invariant sum (omega arith) low same)
