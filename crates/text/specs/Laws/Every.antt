-- A test of every number below another: what one computed test says of each.
use Rattle.std.specs.Prelude.{ℕ, zero, suc, ◌<◌, ◌≡◌, refl, Bool, true, false, ◌&&◌}
use Rattle.std.proofs.Common.{sym, true≢false, ⊎_elim, not-suc-le-zero, le_of_suc-le-suc, eq-or-lt_of_le}
use Rattle.std.specs.Bool.{beq}
use Rattle.text.specs.Laws.Bytes.{both}

abbrev pub every : (ℕ → Bool) → ℕ → Bool
every f zero = true
every f (suc n) = f n && every f n

pub every_at : (f : ℕ → Bool) (n k : ℕ) → every f n ≡ true → k < n → f k ≡ true
every_at f zero k t l = absurd (not-suc-le-zero l)
every_at f (suc n) k t l =
    let (here, rest) = both (f n) (every f n) t in
    ⊎_elim (λ e. rw e here) (every_at f n k rest) (eq-or-lt_of_le (le_of_suc-le-suc l))

-- two tests that agree below a number
abbrev pub agree : (ℕ → Bool) → (ℕ → Bool) → ℕ → Bool
agree f g k = beq (f k) (g k)

pub agree_at : (f g : ℕ → Bool) (n k : ℕ) → every (agree f g) n ≡ true → k < n → f k ≡ g k
agree_at f g n k t l = alike (f k) (g k) (every_at (agree f g) n k t l)
  where
    alike : (x y : Bool) → beq x y ≡ true → x ≡ y
    alike true true e = refl
    alike true false e = absurd (true≢false (sym e))
    alike false true e = absurd (true≢false (sym e))
    alike false false e = refl
