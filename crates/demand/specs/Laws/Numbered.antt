-- No refusal has the number of what is accepted.
use Rattle.std.specs.Prelude.{◌≡◌}
use Rattle.std.proofs.Common.{arith}
use Rattle.demand.specs.Numbers.{ACCEPTED}
use Rattle.demand.specs.Numbered.{number_of}
use Rattle.demand.specs.declared.Refusal.{Refusal}

pub refuses : (r : Refusal) → number_of r ≡ ACCEPTED → ⊥
refuses Refusal.Short e = omega arith
refuses Refusal.Identifier e = omega arith
refuses Refusal.Nested e = omega arith
refuses Refusal.Character e = omega arith
refuses Refusal.Value e = omega arith
refuses Refusal.Trailing e = omega arith
refuses Refusal.Shape e = omega arith
refuses Refusal.Field e = omega arith
refuses Refusal.Room e = omega arith
refuses Refusal.Check e = omega arith
refuses Refusal.Day e = omega arith
refuses Refusal.Time e = omega arith
refuses Refusal.Repeat e = omega arith
refuses Refusal.Already e = omega arith
refuses Refusal.Full e = omega arith
refuses Refusal.Absent e = omega arith
refuses Refusal.Tag e = omega arith
refuses Refusal.Length e = omega arith
