-- What a gg means, from what a search of the table finds.
use Rattle.std.specs.Prelude.{ℕ, zero, suc, ◌+◌, ◌*◌, ◌/◌, ◌%◌, ◌^◌, ◌≤◌, ◌<◌, ◌≡◌, refl, Bool, true, false, ◌&&◌, [], ◌∷◌, ltb, get_or, Option, Some, None}
use Rattle.std.proofs.Common.{sym, ap, ap₂, ◌∙◌, true≢false, ⊎_elim, arith, lt-ltb, le-ltb, ltb-true}
use Rattle.std.proofs.Math.Bool.{and-false}
use Rattle.text.specs.Bytes.{digit}
use Rattle.text.specs.Decimal.{digits, number, DigitsAt}
use Rattle.text.specs.Laws.Bytes.{both, in_range, range_in}
use Rattle.text.specs.Laws.Choice.{by_test, by_less}
use Rattle.text.specs.Laws.Decimal.{number_digits}
use Rattle.bloodgroup.specs.Table.{rows, code_number}
use Rattle.bloodgroup.specs.Groups.{code_at, Stands, Means, in_table, any_other}
use Rattle.bloodgroup.specs.Laws.Search.{Finds, found, nowhere, cells, place, group_at, group_of}
use Rattle.bloodgroup.specs.Laws.Table.{place_right, below_hundred, found_there}

-- two bytes that are digits
pub both_digits : (a b : ℕ) → digit a ≡ true → digit b ≡ true → DigitsAt (a ∷ b ∷ []) 0 2
both_digits a b x y = record { inside = omega arith; all = at }
  where
    at : (j : ℕ) → j < 2 → digit (get_or (a ∷ b ∷ []) (0 + j) 0) ≡ true
    at zero l = x
    at (suc zero) l = y
    at (suc (suc j)) l = absurd (omega arith)

-- the code at a place of the table, and outside it
module _ (row column : ℕ) where
  pub code_inside : {n : ℕ} → row < rows → ltb column 8 ≡ true → n ≡ code_number row column → Some n ≡ code_at row column
  code_inside g h e = rw (lt-ltb row rows g, h, e)

  pub code_stands : {gg0 gg1 : ℕ} → Stands gg0 gg1 row column → code_at row column ≡ Some (code_number row column)
  code_stands s = rw (lt-ltb row rows s.row_within, lt-ltb column 8 s.column_within)

  pub code_under : rows ≤ row → None ≡ code_at row column
  code_under g = rw (le-ltb row rows g)

  pub code_beside : ltb column 8 ≡ false → None ≡ code_at row column
  code_beside h = rw (h, and-false)

  pub code_is : (n : ℕ) {gg0 gg1 : ℕ} → code_at row column ≡ Some n → gg0 ∷ gg1 ∷ [] ≡ digits 2 n → Stands gg0 gg1 row column
  code_is n e d =
      ⊎_elim
      (λ w.
      let (g, h) = both _ _ w.0 in
      let same : n ≡ code_number row column = cc in
      record { row_within = ltb-true row rows g; column_within = ltb-true column 8 h; code = d ∙ rw same })
      (λ w. let z : ◌≡◌ {A = ℕ} 0 1 = cc in absurd (omega arith))
      (by_test (Some (code_number row column)) None (ltb row rows && ltb column 8))

-- two digits write their number
two_digits : {a b : ℕ} → digit a ≡ true → digit b ≡ true → a ∷ b ∷ [] ≡ digits 2 (number (a ∷ b ∷ []))
two_digits {a} {b} x y =
    let n = number (a ∷ b ∷ []) in
    let (lo, hi) = in_range "0" "9" a x in
    let (lo', hi') = in_range "0" "9" b y in
    let tens : a ≡ 48 + n / 10 ^ 1 % 10 = omega arith in
    let ones : b ≡ 48 + n / 10 ^ 0 % 10 = omega arith in
    ap₂ ◌∷◌ tens (ap (◌∷ []) ones)

module _ {gg0 gg1 row column : ℕ} (s : Stands gg0 gg1 row column) where
  stands_digits : (digit gg0 ≡ true) × (digit gg1 ≡ true)
  stands_digits =
      let n = code_number row column in
      let tens : gg0 ≡ 48 + n / 10 ^ 1 % 10 = cc s.code in
      let ones : gg1 ≡ 48 + n / 10 ^ 0 % 10 = cc s.code in
      (range_in "0" "9" gg0 (omega arith) (omega arith), range_in "0" "9" gg1 (omega arith) (omega arith))

  stands_number : code_number row column ≡ number (gg0 ∷ gg1 ∷ [])
  stands_number = sym (number_digits 2 (code_number row column) (below_hundred row column s.row_within s.column_within)) ∙ ap number (sym s.code)

  stands_found : group_at (place (number (gg0 ∷ gg1 ∷ [])) cells) ≡ Some (row, column)
  stands_found =
      let there = found_there row column s.row_within s.column_within in
      let at : place (number (gg0 ∷ gg1 ∷ [])) cells ≡ row * 8 + column = rw stands_number at there in
      let down : (row * 8 + column) / 8 ≡ row = omega arith in
      let along : (row * 8 + column) % 8 ≡ column = omega arith in
      rw (at, lt-ltb (row * 8 + column) cells (omega arith), down, along)

module _ {gg0 gg1 : ℕ} where
  pub finds_means : {t u : Bool} {n : ℕ} {r : Option (ℕ × ℕ)} → t ≡ digit gg0 → t ≡ true → u ≡ digit gg1 → u ≡ true
      → n ≡ number (gg0 ∷ gg1 ∷ []) → Finds n r → Means gg0 gg1 r
  finds_means a x b y e (found g h i q) =
      in_table record { row_within = g; column_within = h; code = two_digits (sym a ∙ x) (sym b ∙ y) ∙ ap (digits 2) (sym e ∙ sym i) } q
  finds_means a x b y e (nowhere f q) =
      any_other (λ row column s. f.none row s.row_within column s.column_within (stands_number s ∙ sym e)) q

  pub no_digits : (digit gg0 && digit gg1) ≡ false → Means gg0 gg1 None
  no_digits e = any_other (λ row column s. let (x, y) = stands_digits s in true≢false (sym (ap₂ ◌&&◌ x y) ∙ e)) refl

  pub one_group : {q r : Option (ℕ × ℕ)} → Means gg0 gg1 q → Means gg0 gg1 r → q ≡ r
  one_group (in_table s e) (in_table t f) = e ∙ sym (stands_found s) ∙ stands_found t ∙ sym f
  one_group (in_table s e) (any_other n f) = absurd (n _ _ s)
  one_group (any_other n e) (in_table t f) = absurd (n _ _ t)
  one_group (any_other n e) (any_other m f) = e ∙ sym f

search_finds : (n : ℕ) → Finds n (group_at (place n cells))
search_finds n =
    let p = place n cells in
    ⊎_elim
    (λ w. found (omega (arith, w.0)) (omega arith) (place_right n cells w.0) w.1)
    (λ w. nowhere record { none = λ row g column h e. absurd (omega (arith, w.0, rw e at (found_there row column g h))) } w.1)
    (by_less (Some (p / 8, p % 8)) None p cells)

pub group_means : (gg0 gg1 : ℕ) → Means gg0 gg1 (group_of gg0 gg1)
group_means gg0 gg1 =
    let n = number (gg0 ∷ gg1 ∷ []) in
    ⊎_elim
    (λ w. let (x, y) = both _ _ w.0 in rw w.1 (finds_means refl x refl y refl (search_finds n)))
    (λ w. rw w.1 (no_digits w.0))
    (by_test (group_at (place n cells)) None (digit gg0 && digit gg1))

-- what means a place of the table stands there
pub stands_there : {gg0 gg1 row column : ℕ} → Means gg0 gg1 (Some (row, column)) → Stands gg0 gg1 row column
stands_there {row = row} {column = column} (in_table {row = i} {column = j} s e) =
    let same : ◌≡◌ {A = ℕ × ℕ} (row, column) (i, j) = cc in
    let down : row ≡ i = ap (λ (p : ℕ × ℕ). p.0) same in
    let along : column ≡ j = ap (λ (p : ℕ × ℕ). p.1) same in
    rw (down, along) s
stands_there (any_other n e) = let z : ◌≡◌ {A = ℕ} 0 1 = cc in absurd (omega arith)
