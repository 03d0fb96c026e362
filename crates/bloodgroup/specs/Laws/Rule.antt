-- W-205's rule, which the code goes by, agrees with the table: each row is eight neighbouring numbers, and the default is the fifth.
use Rattle.std.specs.Prelude.{ℕ, ◌+◌, ◌-◌, ◌*◌, ◌/◌, ◌%◌, ◌<◌, ◌≡◌, refl, Bool, true, cond, [], ◌∷◌, eqb, ltb, get_or}
use Rattle.std.proofs.Common.{arith, eqb-true}
use Rattle.text.specs.Laws.Every.{every, every_at}
use Rattle.bloodgroup.specs.Table.{rows, code_number}
use Rattle.bloodgroup.specs.Laws.Search.{cells, code_along}

-- the lowest number of each row
abbrev pub lowest : ℕ → ℕ
lowest row = get_or (91 ∷ 47 ∷ 2 ∷ 58 ∷ 13 ∷ 69 ∷ 24 ∷ 80 ∷ []) row 0

-- how far above it a column's number is: the first column's is the fifth of the eight, and the others keep their order
abbrev pub offset : ℕ → ℕ
offset column = cond (ltb column 1) 4 (cond (ltb column 5) (column - 1) column)

abbrev agrees : ℕ → Bool
agrees k = eqb (lowest (k / 8) + offset (k % 8)) (code_along k)

-- the test
tested : every agrees cells ≡ true
tested = refl

pub rule_is : (row column : ℕ) → row < rows → column < 8 → lowest row + offset column ≡ code_number row column
rule_is row column g h =
    let down : (row * 8 + column) / 8 ≡ row = omega arith in
    let along : (row * 8 + column) % 8 ≡ column = omega arith in
    eqb-true _ _ (rw (down, along) at (every_at agrees cells (row * 8 + column) tested (omega arith)))
