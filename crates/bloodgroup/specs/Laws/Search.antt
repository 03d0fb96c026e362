-- A search of the table for a number: what its loops keep, what it finds, and the search that antt computes.
use Rattle.std.specs.Prelude.{ℕ, zero, suc, ◌+◌, ◌*◌, ◌/◌, ◌%◌, ◌≤◌, ◌<◌, ◌≡◌, refl, cond, ◌&&◌, [], ◌∷◌, eqb, ltb, Option, Some, None}
use Rattle.std.proofs.Common.{sym, ◌∙◌, arith, below_more}
use Rattle.text.specs.Bytes.{digit}
use Rattle.text.specs.Decimal.{number}
use Rattle.bloodgroup.specs.Table.{rows, code_number}

-- no column of the row before this one has n
pub record NoneBefore (row n column : ℕ) : Type 0 where
  pub none : (k : ℕ) → k < column → code_number row k ≡ n → ⊥

-- the first column of n in a row
pub data FindsColumn (row n : ℕ) (r : Option ℕ) : Type 0 where
  there : {column : ℕ} → column < 8 → NoneBefore row n column → code_number row column ≡ n → r ≡ Some column → FindsColumn row n r
  nowhere : NoneBefore row n 8 → r ≡ None → FindsColumn row n r

-- no row above this one has n
pub record NoneAbove (n row : ℕ) : Type 0 where
  pub none : (k : ℕ) → k < row → (j : ℕ) → j < 8 → code_number k j ≡ n → ⊥

-- what a search of the table for n gives
pub data Finds (n : ℕ) (r : Option (ℕ × ℕ)) : Type 0 where
  found : {row column : ℕ} → row < rows → column < 8 → code_number row column ≡ n → r ≡ Some (row, column) → Finds n r
  nowhere : NoneAbove n rows → r ≡ None → Finds n r

pub not_there : {row n column m : ℕ} → NoneBefore row n column → m ≡ code_number row column → (m ≡ n → ⊥) → NoneBefore row n (column + 1)
not_there x e h = record { none = below_more _ _ x.none (λ i. h (e ∙ i)) }

pub in_column : {row n column m : ℕ} → column < 8 → NoneBefore row n column → m ≡ code_number row column → m ≡ n → FindsColumn row n (Some column)
in_column l x e h = there l x (sym e ∙ h) refl

pub no_column : {row n column : ℕ} → NoneBefore row n column → 8 ≤ column → FindsColumn row n None
no_column x l = nowhere record { none = λ k h. x.none k (omega arith) } refl

module _ {row n : ℕ} where
  pub not_in_row : NoneAbove n row → FindsColumn row n None → NoneAbove n (row + 1)
  not_in_row x (there l before e is) = let z : ◌≡◌ {A = ℕ} 0 1 = cc in absurd (omega arith)
  not_in_row x (nowhere f is) = record { none = below_more _ _ x.none f.none }

  pub in_row : {column : ℕ} → row < rows → FindsColumn row n (Some column) → Finds n (Some (row, column))
  in_row {column} g (there {column = k} l before e is) = let same : column ≡ k = cc in rw same (found g l e refl)
  in_row g (nowhere f is) = let z : ◌≡◌ {A = ℕ} 0 1 = cc in absurd (omega arith)

pub in_no_row : {n row : ℕ} → NoneAbove n row → rows ≤ row → Finds n None
in_no_row x l = nowhere record { none = λ k h. x.none k (omega arith) } refl

-- as many places as the table has
abbrev pub cells : ℕ
cells = rows * 8

-- the code numbers, row after row
abbrev pub code_along : ℕ → ℕ
code_along k = code_number (k / 8) (k % 8)

-- the last place before k that has n, as many as there are where none has
abbrev pub place : ℕ → ℕ → ℕ
place n zero = cells
place n (suc k) = cond (eqb (code_along k) n) k (place n k)

-- the row and column of a place
abbrev pub group_at : ℕ → Option (ℕ × ℕ)
group_at p = cond (ltb p cells) (Some (p / 8, p % 8)) None

abbrev pub group_of : ℕ → ℕ → Option (ℕ × ℕ)
group_of gg0 gg1 = cond (digit gg0 && digit gg1) (group_at (place (number (gg0 ∷ gg1 ∷ [])) cells)) None
