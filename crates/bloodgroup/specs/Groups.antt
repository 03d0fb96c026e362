-- 01, "Blood group codes": looked up by row and column, and searched back.
use Rattle.std.specs.Prelude.{ℕ, ◌<◌, ◌≡◌, cond, ◌&&◌, [], ◌∷◌, ltb, Option, Some, None}
use Rattle.text.specs.Decimal.{digits}
use Rattle.bloodgroup.specs.Table.{rows, code_number}

-- "row and column give the code back; a row or column outside the table" gives no code
abbrev pub code_at : ℕ → ℕ → Option ℕ
code_at row column = cond (ltb row rows && ltb column 8) (Some (code_number row column)) None

-- "a gg of two digits in this table": they write the code number at row and column
pub record Stands (gg0 gg1 row column : ℕ) : Type 0 where
  pub row_within : row < rows
  pub column_within : column < 8
  pub code : gg0 ∷ gg1 ∷ [] ≡ digits 2 (code_number row column)

-- it "gives its row and column, both counted from 0; any other gg is" uninterpreted
pub data Means (gg0 gg1 : ℕ) (r : Option (ℕ × ℕ)) : Type 0 where
  in_table : {row column : ℕ} → Stands gg0 gg1 row column → r ≡ Some (row, column) → Means gg0 gg1 r
  any_other : ((row column : ℕ) → Stands gg0 gg1 row column → ⊥) → r ≡ None → Means gg0 gg1 r
