-- A row of bytes tested one by one: true if each passes the test, and false only if one does not.
use Rattle.std.specs.Prelude.{ℕ, ◌+◌, ◌<◌, ◌≡◌, Bool, true, false, ◌&&◌, List, get_or}
use Rattle.std.proofs.Common.{sym, arith, below_more}

-- what a test answers of the first n bytes of a row, by what it may answer of one
pub record Passes (answers : ℕ → Bool → Type 0) (row : List ℕ) (n : ℕ) (r : Bool) : Type 0 where
  pub each : r ≡ true → (i : ℕ) → i < n → answers (get_or row i 0) true
  pub one : r ≡ false → (i : ℕ) × (i < n) × answers (get_or row i 0) false

-- true and false are two
apart : {T : Type 0} → true ≡ false → T
apart e = let z : ◌≡◌ {A = ℕ} 0 1 = cc in absurd (omega arith)

pub none_tested : {answers : ℕ → Bool → Type 0} {row : List ℕ} → Passes answers row 0 true
none_tested = record { each = λ e i l. absurd (omega (arith, l)); one = λ e. apart e }

-- one byte more
pub one_tested : {answers : ℕ → Bool → Type 0} {row : List ℕ} {n : ℕ} (r t : Bool) → Passes answers row n r → answers (get_or row n 0) t
    → Passes answers row (n + 1) (r && t)
one_tested {answers} {row} true true x h = record { each = λ e. below_more (λ i. answers (get_or row i 0) true) _ (x.each e) h; one = λ e. apart e }
one_tested {n = n} true false x h = record { each = λ e. apart (sym e); one = λ e. (n, omega arith, h) }
one_tested false t x h = record { each = λ e. apart (sym e); one = λ e. let (i, l, bad) = x.one e in (i, omega (arith, l), bad) }
