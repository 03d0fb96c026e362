-- What a reading's contract says of the place, and of the whole.
use Rattle.std.specs.Prelude.{ℕ, ◌≡◌, Bool, true, false, cond, List, eqb, length}
use Rattle.std.proofs.Common.{arith}
use Rattle.std.proofs.Math.Seq.{take-length}
use Rattle.demand.specs.Demand.{accepted, refused, Acceptable, Place}
use Rattle.demand.specs.Laws.Tree.{begins_of}
use Rattle.text.specs.Decides.{Decides}
use Rattle.text.specs.Laws.Decides.{decides_yes, decides_no}
use Rattle.label.specs.declared.Edition.{Edition}
use Rattle.label.specs.declared.Message.{Message}
use Rattle.message.specs.declared.Reading.{Reading}
use Rattle.message.specs.Grammar.{Produces}
use Rattle.message.specs.Refusals.{RightReading}
use Rattle.message.specs.Reading.{Answers}
use Rattle.could_stand.specs.declared.Placed.{Placed}

pub record Places (ed : Edition) (s : List ℕ) (p : Placed) : Type 0 where
  pub place : Place (Produces ed) s p.place
  pub whole : Decides p.whole (Acceptable (Produces ed) s)

-- bytes that are a message have their end as the place
at_end : {ed : Edition} {m : Message} {s : List ℕ} {k : ℕ} → Produces ed m s → k ≡ length s → Place (Produces ed) s k
at_end {ed} {s = s} w e =
    record { within = omega arith; begins = rw (e, take-length s) (begins_of (Produces ed) w); longest = λ j l v. omega arith }

pub places : {ed : Edition} {s : List ℕ} (r : Reading) → Answers ed s r → Places ed s record { place = r.place; whole = eqb r.refusal 0 }
places {ed} {s} r a = by (eqb r.refusal 0) a.right
  where
    by : (t : Bool) → RightReading ed s (cond t (accepted r.message r.place) (refused r.refusal r.place))
        → Places ed s record { place = r.place; whole = t }
    by true x = record { place = at_end x.0 x.1; whole = decides_yes (r.message, x.0) }
    by false x = record { place = x.place; whole = decides_no x.not_acceptable }
