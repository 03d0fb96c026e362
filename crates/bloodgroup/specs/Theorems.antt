-- What follows from the table and its rules: one meaning for every gg, and look-up and search are inverse.
use Rattle.std.specs.Prelude.{ℕ, ◌≡◌, refl, [], ◌∷◌, Option, Some}
use Rattle.text.specs.Decimal.{digits}
use Rattle.bloodgroup.specs.Table.{code_number}
use Rattle.bloodgroup.specs.Groups.{code_at, Means, in_table}
use Rattle.bloodgroup.specs.Laws.Search.{group_of}
use Rattle.bloodgroup.specs.Laws.Groups as groups

-- every gg means something
pub some_group : (gg0 gg1 : ℕ) → (r : Option (ℕ × ℕ)) × Means gg0 gg1 r
some_group gg0 gg1 = (group_of gg0 gg1, groups.group_means gg0 gg1)

-- and only one thing: `group_of`'s contract leaves one answer
pub one_group : (gg0 gg1 : ℕ) (q r : Option (ℕ × ℕ)) → Means gg0 gg1 q → Means gg0 gg1 r → q ≡ r
one_group gg0 gg1 q r x y = groups.one_group x y

-- the two digits of the code at a row and a column mean that row and column
pub code_group : (row column n gg0 gg1 : ℕ) (r : Option (ℕ × ℕ)) → code_at row column ≡ Some n → gg0 ∷ gg1 ∷ [] ≡ digits 2 n → Means gg0 gg1 r
    → r ≡ Some (row, column)
code_group row column n gg0 gg1 r e d m = groups.one_group m (in_table (groups.code_is row column n e d) refl)

-- the row and column that a gg means give back the code whose two digits it is
pub group_code : (gg0 gg1 row column : ℕ) → Means gg0 gg1 (Some (row, column))
    → (n : ℕ) × (code_at row column ≡ Some n) × (gg0 ∷ gg1 ∷ [] ≡ digits 2 n)
group_code gg0 gg1 row column m = let s = groups.stands_there m in (code_number row column, groups.code_stands row column s, s.code)
