-- The table's rule, by one test that antt computes: each code is below 100 and is found where it stands.
use Rattle.std.specs.Prelude.{ℕ, zero, suc, ◌+◌, ◌*◌, ◌/◌, ◌%◌, ◌<◌, ◌≡◌, refl, Bool, true, ◌&&◌, eqb, ltb}
use Rattle.std.proofs.Common.{⊎_elim, arith, eqb-true, ltb-true}
use Rattle.text.specs.Laws.Bytes.{both}
use Rattle.text.specs.Laws.Choice.{by_equal}
use Rattle.text.specs.Laws.Every.{every, every_at}
use Rattle.bloodgroup.specs.Table.{rows, code_number}
use Rattle.bloodgroup.specs.Laws.Search.{cells, code_along, place}

pub place_right : (n k : ℕ) → place n k < cells → code_along (place n k) ≡ n
place_right n zero h = absurd (omega arith)
place_right n (suc k) h =
    ⊎_elim (λ w. rw w.1 w.0) (λ w. rw w.1 (place_right n k (rw w.1 at h))) (by_equal k (place n k) (code_along k) n)

abbrev found_back : ℕ → Bool
found_back k = ltb (code_along k) 100 && eqb (place (code_along k) cells) k

-- the test
tested : every found_back cells ≡ true
tested = refl

-- the rule at each entry
module _ (row column : ℕ) (g : row < rows) (h : column < 8) where
  entry_tested : (ltb (code_number row column) 100 ≡ true) × (eqb (place (code_number row column) cells) (row * 8 + column) ≡ true)
  entry_tested =
      let down : (row * 8 + column) / 8 ≡ row = omega arith in
      let along : (row * 8 + column) % 8 ≡ column = omega arith in
      both _ _ (rw (down, along) at (every_at found_back cells (row * 8 + column) tested (omega arith)))

  pub below_hundred : code_number row column < 100
  below_hundred = ltb-true _ _ entry_tested.0

  pub found_there : place (code_number row column) cells ≡ row * 8 + column
  found_there = eqb-true _ _ entry_tested.1
