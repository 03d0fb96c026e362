-- Numbers stored one by one from an index on.
use Rattle.std.specs.Prelude.{ℕ, ◌+◌, ◌≤◌, ◌<◌, ◌≡◌, refl, List, ◌++◌, length, get_or, take, drop, set}
use Rattle.std.proofs.Common.{sym, ap, ◌∙◌, append_assoc, add-one, arith, length-set, take_all, drop-drop}
use Rattle.std.proofs.Math.Seq.{paste, paste-zero, paste-suc}
use Rattle.text.specs.Buffer.{laid_at}

-- i of the numbers s are stored
pub record Pasting (at : ℕ) (s before : List ℕ) (i : ℕ) (here : List ℕ) : Type 0 where
  pub room : at + length s ≤ length before
  pub done : i ≤ length s
  pub long : length here ≡ length before
  pub is : here ≡ paste before at s i

pub pasting_first : {at : ℕ} {s before : List ℕ} → at + length s ≤ length before → Pasting at s before 0 before
pasting_first {at} {s} {before} h = record { room = h; done = omega arith; long = refl; is = paste-zero before at s }

module _ {at : ℕ} {s before : List ℕ} {i : ℕ} {here : List ℕ} (p : Pasting at s before i here) where
  pub pasting_next : (d : ℕ) {v : ℕ} → i < length s → v ≡ get_or s i d → Pasting at s before (i + 1) (set here (at + i) v)
  pasting_next d {v} g e =
      let next = paste-suc before at s i d (omega (arith, p.room)) g in
      record { room = p.room; done = omega arith; long = length-set here (at + i) v ∙ p.long; is = rw (p.is, e, add-one i) next }

  pub pasting_all : length s ≤ i → here ≡ laid_at at s before
  pasting_all h =
      let all : take i s ≡ s = take_all i s h in
      let same : i ≡ length s = omega (arith, p.done) in
      p.is ∙ rw all (append_assoc (take at before) s (drop (at + i) before))
      ∙ ap (λ (k : List ℕ). take at before ++ (s ++ k)) (ap (λ (n : ℕ). drop (at + n) before) same ∙ sym (drop-drop (length s) at before))
