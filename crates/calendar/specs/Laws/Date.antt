-- The date's content: lawful next digits, and its laws in and out. The forms with and without time both rest on these.
use Rattle.std.specs.Prelude.{ℕ, zero, suc, ◌+◌, ◌-◌, ◌*◌, ◌/◌, ◌%◌, ◌≤◌, ◌<◌, ◌≡◌, refl, Bool, true, false, cond, List, [], ◌∷◌, ◌++◌, eqb, length, get_or}
use Rattle.std.specs.Prelude.{take, drop, replicate}
use Rattle.std.proofs.Common.{sym, ap, ap₂, ◌∙◌, subst, ⊎_elim, not-suc-le-zero, le_of_suc-le-suc, arith, take-take}
use borrow.Author.Tests.{eq-eqb, ne_eqb, lt-ltb, le-ltb}
use Rattle.demand.specs.Each.{Each}
use Rattle.demand.specs.Numbers.{VALUE, DAY}
use Rattle.demand.specs.Laws.Content.{Position, Fits, none, more, Opens, nowhere, free_fit, fits_join, part_within}
use Rattle.text.specs.Bytes.{byte}
use Rattle.text.specs.Decimal.{digits, number}
use Rattle.text.specs.Laws.Choice.{by_equal, by_less, either_way}
use Rattle.text.specs.Laws.Decimal.{number_digits, digit_position, digits_in, digits_out, digit_from, within, DigitSets, digit_set, Bounded, bounded}
use Rattle.text.specs.Laws.Decimal.{bounds_in, bounds_out}
use Rattle.calendar.specs.declared.Date.{Date}
use Rattle.calendar.specs.Calendar.{year_of, century_of, leap, leap_day, FIRST_YEAR, LAST_YEAR, LawfulDate, date_text, year_named, date_of}

pub leap_day≤ : (y : ℕ) → leap_day y ≤ 1
unfolding leap_day
leap_day≤ y = at_most (leap y)
  where
    at_most : (t : Bool) → cond {A = ℕ} t 1 0 ≤ 1
    at_most true = omega arith
    at_most false = omega arith

-- the c of a year is a digit, and with the year's last two digits it names the year
pub year_back : (y : ℕ) → FIRST_YEAR ≤ y → y ≤ LAST_YEAR → (century_of y ≤ 9) × (year_of (century_of y) (y % 100) ≡ y)
unfolding century_of
year_back y f l =
    ⊎_elim
    (λ c. rw c.1 (omega arith, omega arith))
    (λ c. rw (c.1, ne_eqb ((y - 2000) / 100) 9 (λ e. omega arith)) (omega arith, omega arith))
    (by_less 9 ((y - 2000) / 100) y 2000)

-- the day's first two digits as one number, and the year, of the bytes before
abbrev pub tens : List ℕ → ℕ
tens p = number (take 2 (drop 3 p))

-- the lawful next digits of a day: at most 3; after 3 at most 6; after 00 at least 1, after 36 at most 5 or, in a leap year, 6
abbrev pub day_second : List ℕ → ℕ
day_second p = cond (eqb (get_or p 3 0) (byte "3")) (byte "6") (byte "9")

abbrev pub day_third_low : List ℕ → ℕ
day_third_low p = cond (eqb (tens p) 0) (byte "1") (byte "0")

abbrev pub day_third : List ℕ → ℕ
day_third p = cond (eqb (tens p) 36) (byte "5" + leap_day (year_named p)) (byte "9")

abbrev pub day_positions : List Position
day_positions =
    digit_from (λ p. byte "0") (λ p. byte "3") DAY
    ∷ digit_from (λ p. byte "0") day_second DAY
    ∷ digit_from day_third_low day_third DAY
    ∷ []

abbrev pub date_positions : List Position
date_positions = replicate 1 (digit_position VALUE) ++ (replicate 2 (digit_position VALUE) ++ day_positions)

-- three day digits, each between its bounds, are a day of a year with l leap days, and back
module _ (l a b c : ℕ) (small : l ≤ 1) where
  abbrev two : ℕ
  two = number (a ∷ b ∷ [])

  abbrev Between : Type 0
  Between = Bounded 48 51 a × Bounded 48 (cond (eqb a 51) 54 57) b × Bounded (cond (eqb two 0) 49 48) (cond (eqb two 36) (53 + l) 57) c

  day_in : Between → (1 ≤ number (a ∷ b ∷ c ∷ [])) × (number (a ∷ b ∷ c ∷ []) ≤ 365 + l)
  day_in (x, y, z) =
      ⊎_elim
      (λ u. ⊎_elim (λ v. omega arith) (λ v. ⊎_elim (λ w. omega arith) (λ w. omega arith) (by_equal {A = ℕ} (53 + l) 57 two 36))
      (by_equal {A = ℕ} 49 48 two 0))
      (λ u. ⊎_elim (λ v. omega arith) (λ v. omega arith) (by_equal {A = ℕ} 49 48 two 0))
      (by_equal {A = ℕ} 54 57 a 51)

day_out : (l x y z : ℕ) (small : l ≤ 1) → x ≤ 9 → y ≤ 9 → z ≤ 9 → 1 ≤ 100 * x + 10 * y + z → 100 * x + 10 * y + z ≤ 365 + l
    → Between l (48 + x) (48 + y) (48 + z) small
day_out l x y z small f g h lo hi =
    let t = two l (48 + x) (48 + y) (48 + z) small in (
      bounded (omega arith) (omega arith) (omega arith) (omega arith),
      bounded (omega arith) (omega arith) (omega arith)
          (⊎_elim (λ c. rw c.1 (omega arith)) (λ c. rw c.1 (omega arith)) (by_equal {A = ℕ} 54 57 (48 + x) 51)),
      bounded (omega arith) (omega arith) (⊎_elim (λ c. rw c.1 (omega arith)) (λ c. rw c.1 (omega arith)) (by_equal {A = ℕ} 49 48 t 0))
          (⊎_elim (λ c. rw c.1 (omega arith)) (λ c. rw c.1 (omega arith)) (by_equal {A = ℕ} (53 + l) 57 t 36)),
    )

-- a day's three digits
day_digits : (n : ℕ) → n ≤ 366
    → (n / 100 % 10 ≤ 9) × (n / 10 % 10 ≤ 9) × (n / 1 % 10 ≤ 9) × (100 * (n / 100 % 10) + 10 * (n / 10 % 10) + n / 1 % 10 ≡ n)
day_digits n h = let e = number_digits 3 n (omega arith) in (omega arith, omega arith, omega arith, omega arith)

pub date_opens : Each Opens date_positions
date_opens =
    let free : Opens (digit_position VALUE) = λ p. (48, free_fit refl) in
    let tens : Opens (digit_from (λ p. byte "0") day_second DAY) = λ p. (48, bounds_out _ day_second (second p)) in
    let ones : Opens (digit_from day_third_low day_third DAY) = λ p. (49, bounds_out day_third_low day_third (third p)) in
    (free, (free, (free, ((λ p. (48, record { inside = refl; lawful = refl })), (tens, (ones, tt))))))
  where
    second : (p : List ℕ) → Bounded 48 (day_second p) 48
    second p =
        bounded (omega arith) (omega arith) (omega arith) (either_way {A = ℕ} 54 57 (48 ≤◌) (eqb (get_or p 3 0) 51) (omega arith) (omega arith))

    third : (p : List ℕ) → Bounded (day_third_low p) (day_third p) 49
    third p =
        bounded (omega arith) (omega arith) (either_way {A = ℕ} 49 48 (◌≤ 49) (eqb (tens p) 0) (omega arith) (omega arith))
        (either_way {A = ℕ} (53 + leap_day (year_named p)) 57 (49 ≤◌) (eqb (tens p) 36) (omega arith) (omega arith))

-- cyy names a year in range, whose c and last two digits are those
pub year_forth : (c yy : ℕ) → c ≤ 9 → yy ≤ 99
    → (FIRST_YEAR ≤ year_of c yy) × (year_of c yy ≤ LAST_YEAR) × (century_of (year_of c yy) ≡ c) × (year_of c yy % 100 ≡ yy)
unfolding century_of
year_forth c yy h g =
    ⊎_elim
    (λ u. rw u.1 (omega arith, omega arith, rw (lt-ltb (1900 + yy) 2000 (omega arith)) (omega arith), omega arith))
    (λ u. rw u.1 (omega arith, omega arith, rw (le-ltb (2000 + 100 * c + yy) 2000 (omega arith)) (omega arith), omega arith))
    (by_equal (1900 + yy) (2000 + 100 * c + yy) c 9)

-- the year and the date that a content's front stands for
pub year_front : (c : List ℕ) (k : ℕ) → 3 ≤ k → 1 ≤ length c → year_named (take k c) ≡ year_named c
year_front c k h l = ap₂ (λ (x y : List ℕ). year_of (number x) (number y)) (take-take 1 k c (omega arith)) (part_within c 1 2 k h l)

pub date_front : (c : List ℕ) → 6 ≤ length c → date_of (take 6 c) ≡ date_of c
date_front c l =
    let year = year_front c 6 (omega arith) (omega arith) in
    let day = ap number (part_within c 3 3 6 (omega arith) (omega arith)) in
    λ i. record { year = year i; day = day i }

-- six digits are the writing of the date that they stand for
pub date_written : {p c : List ℕ} → Fits (replicate 6 (digit_position VALUE)) p c → c ≡ date_text (date_of c)
date_written (more {b = b0} f0 (more {b = b1} f1 (more {b = b2} f2 (more f3 (more f4 (more f5 none)))))) =
    let (cs, ce) = digits_in 1 VALUE (more f0 none) in
    let (ys, ye) = digits_in 2 VALUE (more f1 (more f2 none)) in
    let (early, late, cb, yb) = year_forth (number (b0 ∷ [])) (number (b1 ∷ b2 ∷ [])) (omega arith) (omega arith) in
    let de = (digits_in 3 VALUE (more f3 (more f4 (more f5 none)))).1 in
    ap₂ ◌++◌ (ce ∙ ap (digits 1) (sym cb)) (ap₂ ◌++◌ (ye ∙ ap (digits 2) (sym yb)) de)

pub date_in : {c : List ℕ} → Fits date_positions [] c → (d : Date) × LawfulDate d × (c ≡ date_text d)
date_in (more {b = b0} f0 (more {b = b1} f1 (more {b = b2} f2 (more {b = b3} f3 (more {b = b4} f4 (more {b = b5} f5 none)))))) =
    let cs = (digits_in 1 VALUE (more {p = []} f0 none)).0 in
    let ys = (digits_in 2 VALUE (more f1 (more f2 none))).0 in
    let c = number (b0 ∷ []) in
    let yy = number (b1 ∷ b2 ∷ []) in
    let (early, late, cb, yb) = year_forth c yy (omega arith) (omega arith) in
    let (lo, hi) =
    day_in (leap_day (year_of c yy)) b3 b4 b5 (leap_day≤ (year_of c yy)) (bounds_in _ _ f3, bounds_in _ day_second f4, bounds_in day_third_low day_third f5)
    in (
      date_of (b0 ∷ b1 ∷ b2 ∷ b3 ∷ b4 ∷ b5 ∷ []),
      record { first_year = early; last_year = late; first_day = lo; last_day = hi },
      date_written {p = []} (more f0 (more f1 (more f2 (more (free_fit f3.inside) (more (free_fit f4.inside) (more (free_fit f5.inside) none)))))),
    )

-- the year that a date's own text names
year_written : (d : Date) → LawfulDate d → year_of (number (digits 1 (century_of d.year))) (number (digits 2 (d.year % 100))) ≡ d.year
year_written d h =
    let (small, back) = year_back d.year h.first_year h.last_year in
    ap₂ year_of (number_digits 1 (century_of d.year) (omega arith)) (number_digits 2 (d.year % 100) (omega arith)) ∙ back

pub date_out : (d : Date) → LawfulDate d → Fits date_positions [] (date_text d)
date_out d h =
    let l = leap_day (year_of (number (digits 1 (century_of d.year))) (number (digits 2 (d.year % 100)))) in
    let e : l ≡ leap_day d.year = ap leap_day (year_written d h) in
    let s : leap_day d.year ≤ 1 = leap_day≤ d.year in
    let top : d.day ≤ 365 + leap_day d.year = h.last_day in
    let (x, y, z, is) = day_digits d.day (omega arith) in
    let (f, g, k) = day_out l (d.day / 100 % 10) (d.day / 10 % 10) (d.day / 1 % 10) (omega arith) x y z (rw is h.first_day) (rw is (omega arith)) in
    fits_join (digits_out 1 VALUE [] (century_of d.year))
    (fits_join (digits_out 2 VALUE (digits 1 (century_of d.year)) (d.year % 100))
    (more (bounds_out _ _ f) (more (bounds_out _ day_second g) (more (bounds_out day_third_low day_third k) none))))

-- six digits that stand for a lawful date fit
pub date_fits : {p c : List ℕ} → Fits (replicate 6 (digit_position VALUE)) p c → LawfulDate (date_of c) → Fits date_positions [] c
date_fits {c = c} fs h = subst (Fits date_positions []) (sym (date_written fs)) (date_out (date_of c) h)

pub date_back : (d : Date) (s : List ℕ) → LawfulDate d → date_of (date_text d ++ s) ≡ d
date_back d s h =
    let l = leap_day≤ d.year in
    let top : d.day ≤ 365 + leap_day d.year = h.last_day in
    let y = year_written d h in
    let n = number_digits 3 d.day (omega arith) in
    λ i. record { year = y i; day = n i }

-- the leap rule by its tests
module _ (y : ℕ) where
  pub no_fourth : (y % 4 ≡ 0 → ⊥) → 0 ≡ leap_day y
  unfolding leap_day
  no_fourth h = rw (ne_eqb (y % 4) 0 h)

  pub no_century : y % 4 ≡ 0 → (y % 100 ≡ 0 → ⊥) → 1 ≡ leap_day y
  unfolding leap_day
  no_century h g = rw (eq-eqb (y % 4) 0 h, ne_eqb (y % 100) 0 g)

  pub fourth_century : y % 4 ≡ 0 → y % 100 ≡ 0 → y % 400 ≡ 0 → 1 ≡ leap_day y
  unfolding leap_day
  fourth_century h g k = rw (eq-eqb (y % 4) 0 h, eq-eqb (y % 100) 0 g, eq-eqb (y % 400) 0 k)

  pub other_century : y % 4 ≡ 0 → y % 100 ≡ 0 → (y % 400 ≡ 0 → ⊥) → 0 ≡ leap_day y
  unfolding leap_day
  other_century h g k = rw (eq-eqb (y % 4) 0 h, eq-eqb (y % 100) 0 g, ne_eqb (y % 400) 0 k)

-- the bounds of a day's third digit by the two before it
module _ (t l b : ℕ) where
  abbrev pub third : Bool
  third = within (cond (eqb t 0) 49 48) (cond (eqb t 36) (53 + l) 57) b

pub date_digits : DigitSets date_positions
date_digits = (digit_set, (digit_set, (digit_set, (digit_set, (digit_set, (digit_set, tt))))))

-- the rule of each position of a date, by what stands before it
date_free : (i : ℕ) → i < 3 → get_or date_positions i nowhere ≡ digit_position VALUE
date_free zero h = refl
date_free (suc zero) h = refl
date_free (suc (suc zero)) h = refl
date_free (suc (suc (suc i))) h = absurd (not-suc-le-zero (le_of_suc-le-suc (le_of_suc-le-suc (le_of_suc-le-suc h))))

module _ (c : List ℕ) (i b : ℕ) where
  abbrev date_goes : Bool
  date_goes = (get_or date_positions i nowhere).rule (take i c) b

  pub goes_fifth : i ≡ 5 → i ≤ length c → date_goes ≡ third (tens c) (leap_day (year_named c)) b
  goes_fifth e h =
      rw e (ap₂ (λ (t y : ℕ). third t (leap_day y) b) (ap number (part_within c 3 2 5 (omega arith) (omega arith)))
      (year_front c 5 (omega arith) (omega arith)))

  pub goes_else : i < 6 → (i ≡ 3 → ⊥) → (i ≡ 4 → ⊥) → (i ≡ 5 → ⊥) → date_goes ≡ true
  goes_else l f g h = rw (date_free i (omega arith))
