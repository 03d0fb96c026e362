-- The difference of two natural numbers as an integer.
use Rattle.std.specs.Prelude.{ℕ, zero, suc, ◌+◌, ◌-◌, ◌≤◌, ◌<◌, ◌≡◌, pos, negsuc, neg_ℤ, ◌+ℤ◌, ◌-ℤ◌, ◌<ℤ◌}
use Rattle.std.proofs.Common.{sym, ap, ◌∙◌, ⊎_elim, arith, lt→ltb, lt-ltb, le-ltb, SFits, to_z, of_z}
use Rattle.std.proofs.Math.IntN.{neg_ℤ-neg_ℤ, neg_ℤ-+ℤ, +ℤ_comm, +ℤ_assoc, -ℤ-+ℤ_cancel, suc_ℤ-+ℤ, +ℤ_one}
use Rattle.std.specs.Int.Signed.{lt_z_yes, <ℤ_irrefl}
use Rattle.std.specs.Int.{w32}
use Rattle.std.proofs.lemmas.Int.{to_z_pos, to_z-of_z}
use Rattle.text.specs.Laws.Choice.{by_less}

-- 0 or over, and under 0
over : (a b : ℕ) → b ≤ a → pos a -ℤ pos b ≡ pos (a - b)
over a zero h = let e : a + 0 ≡ a - 0 = omega arith in ap pos e
over a (suc b) h = rw (le-ltb a (suc b) h)

under : (a b : ℕ) → a < b → pos a -ℤ pos b ≡ negsuc (b - suc a)
under a zero h = absurd (omega arith)
under a (suc b) h = rw (lt-ltb a (suc b) h)

pub over_zero : (a b : ℕ) → b < a → pos 0 <ℤ (pos a -ℤ pos b)
over_zero a b h = rw (over a b (omega arith)) (lt_z_yes (lt→ltb 0 (a - b) (omega arith)))

pub under_zero : (a b : ℕ) → a < b → (pos a -ℤ pos b) <ℤ pos 0
under_zero a b h = rw (under a b h) (lt_z_yes tt)

pub no_difference : (a : ℕ) → pos a -ℤ pos a ≡ pos 0
no_difference a = let e : a - a ≡ 0 = omega arith in over a a (omega arith) ∙ ap pos e

pub same_number : (a b : ℕ) → pos a -ℤ pos b ≡ pos 0 → a ≡ b
same_number a b e =
    ⊎_elim (λ l. absurd (<ℤ_irrefl (rw e at (under_zero a b l.0))))
    (λ l. ⊎_elim (λ k. absurd (<ℤ_irrefl (rw e at (over_zero a b k.0)))) (λ k. omega arith) (by_less a a b a))
    (by_less a a a b)

pub turned : (a b : ℕ) → pos b -ℤ pos a ≡ neg_ℤ (pos a -ℤ pos b)
turned a b = sym (neg_ℤ-+ℤ (pos a) (neg_ℤ (pos b)) ∙ ap (neg_ℤ (pos a) +ℤ◌) (neg_ℤ-neg_ℤ (pos b)) ∙ +ℤ_comm (neg_ℤ (pos a)) (pos b))

pub through : (a b c : ℕ) → (pos b -ℤ pos a) +ℤ (pos c -ℤ pos b) ≡ pos c -ℤ pos a
through a b c =
    +ℤ_comm (pos b -ℤ pos a) (pos c -ℤ pos b)
    ∙ sym (+ℤ_assoc (pos c -ℤ pos b) (pos b) (neg_ℤ (pos a)))
    ∙ ap (◌-ℤ pos a) (-ℤ-+ℤ_cancel (pos c) (pos b))

pub one_more : (a b : ℕ) → pos (a + 1) -ℤ pos b ≡ (pos a -ℤ pos b) +ℤ pos 1
one_more a b = let e : a + 1 ≡ suc a = omega arith in rw e (suc_ℤ-+ℤ (pos a) (neg_ℤ (pos b)) ∙ sym (+ℤ_one (pos a -ℤ pos b)))

-- two numbers below 530 million, subtracted in an i32: nothing is lost
module _ {a b : ℕ} (h : a < 530000000) (g : b < 530000000) where
  fits : SFits w32 (pos a -ℤ pos b)
  fits =
      ⊎_elim (λ l. rw (under a b l.0) record { sfits = omega arith }) (λ l. rw (over a b l.0) record { sfits = omega arith }) (by_less a a a b)

  pub subtracts : SFits w32 (to_z w32 a -ℤ to_z w32 b)
  subtracts = rw (to_z_pos w32 a (omega arith), to_z_pos w32 b (omega arith)) fits

  pub subtracted : {c d : ℕ} → a ≡ c → b ≡ d → to_z w32 (of_z w32 (to_z w32 a -ℤ to_z w32 b)) ≡ pos c -ℤ pos d
  subtracted e f = rw (to_z_pos w32 a (omega arith), to_z_pos w32 b (omega arith), ← e, ← f) (to_z-of_z w32 (pos a -ℤ pos b) fits)
