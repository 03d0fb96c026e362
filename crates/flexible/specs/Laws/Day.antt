-- The content yyyymmdd: lawful next digits, and its laws in and out, over the last day of a month and not month by month.
use Rattle.std.specs.Prelude.{ℕ, zero, suc, ◌+◌, ◌-◌, ◌/◌, ◌%◌, ◌≤◌, ◌<◌, ◌≡◌, refl, Bool, true, false, cond, List, [], ◌∷◌, ◌++◌, ◌≢◌, eqb, length, get_or}
use Rattle.std.specs.Prelude.{take, drop, replicate}
use Rattle.std.proofs.Common.{sym, ap, ap₂, ◌∙◌, subst, ⊎_elim, arith, eq-eqb, ne_eqb, take-take}
use Rattle.demand.specs.Each.{Each}
use Rattle.demand.specs.Numbers.{VALUE, DAY}
use Rattle.demand.specs.Laws.Content.{Position, Fit, Fits, none, more, Opens, free_fit, part_within, nowhere}
use Rattle.text.specs.Bytes.{byte}
use Rattle.text.specs.Decimal.{digits, number, DigitsAt}
use Rattle.text.specs.Laws.Bytes.{in_range, range_in}
use Rattle.text.specs.Laws.Choice.{by_equal, either_way}
use Rattle.text.specs.Laws.Decimal.{number_digits, digits_in, digit_position, digit_from, DigitSets, digit_set, Bounded, bounded, bounds_in, bounds_out}
use Rattle.text.specs.Laws.Decimal.{digits_part, fitting_digits}
use Rattle.months.specs.declared.Day.{Day}
use Rattle.months.specs.Months.{days_in, LawfulDay}
use Rattle.months.specs.Laws.Month.{month_bounds, has_days}
use Rattle.flexible.specs.Flexible.{day_text}

-- the day that yyyymmdd stands for
abbrev pub day_of : List ℕ → Day
day_of c = record { year = number (take 4 c); month = number (take 2 (drop 4 c)); day = number (take 2 (drop 6 c)) }

-- the last day of a month; 28 of what is no month, so that some digit goes on whatever stands before
abbrev pub last_of : ℕ → ℕ → ℕ
last_of y m = 28 + (days_in y m - 28)

abbrev pub last_at : List ℕ → ℕ
last_at p = last_of (number (take 4 p)) (number (take 2 (drop 4 p)))

-- the two digits behind a year name a month
abbrev pub MonthAt : List ℕ → Type 0
MonthAt c = (1 ≤ number (take 2 (drop 4 c))) × (number (take 2 (drop 4 c)) ≤ 12)

-- a year's second digit: after 1 only 9, after 2 at most 8
abbrev pub year_low : List ℕ → ℕ
year_low p = cond (eqb (get_or p 0 0) (byte "1")) (byte "9") (byte "0")

abbrev pub year_high : List ℕ → ℕ
year_high p = cond (eqb (get_or p 0 0) (byte "1")) (byte "9") (byte "8")

-- a month's second digit: after 0 at least 1, after 1 at most 2
abbrev pub month_low : List ℕ → ℕ
month_low p = cond (eqb (get_or p 4 0) (byte "0")) (byte "1") (byte "0")

abbrev pub month_high : List ℕ → ℕ
month_high p = cond (eqb (get_or p 4 0) (byte "0")) (byte "9") (byte "2")

-- a day's first digit: at most the last day's; its second: after 0 at least 1, after the last day's first at most its second
abbrev pub tens_high : List ℕ → ℕ
tens_high p = byte "0" + last_at p / 10

abbrev pub ones_low : List ℕ → ℕ
ones_low p = cond (eqb (get_or p 6 0) (byte "0")) (byte "1") (byte "0")

abbrev pub ones_high : List ℕ → ℕ
ones_high p = cond (eqb (get_or p 6 0) (tens_high p)) (byte "0" + last_at p % 10) (byte "9")

abbrev pub day_positions : List Position
day_positions =
    digit_from (λ p. byte "1") (λ p. byte "2") VALUE
    ∷ digit_from year_low year_high VALUE
    ∷ digit_position VALUE
    ∷ digit_position VALUE
    ∷ digit_from (λ p. byte "0") (λ p. byte "1") DAY
    ∷ digit_from month_low month_high DAY
    ∷ digit_from (λ p. byte "0") tens_high DAY
    ∷ digit_from ones_low ones_high DAY
    ∷ []

-- a year's last two digits may be any
pub any_later : (s : List ℕ) (i b : ℕ) → 2 ≤ i → i < 4 → true ≡ (get_or day_positions i nowhere).rule (take i s) b
any_later s zero b l h = absurd (omega arith)
any_later s (suc zero) b l h = absurd (omega arith)
any_later s (suc (suc zero)) b l h = refl
any_later s (suc (suc (suc zero))) b l h = refl
any_later s (suc (suc (suc (suc i)))) b l h = absurd (omega arith)

pub day_digits : DigitSets day_positions
day_digits = (digit_set, (digit_set, (digit_set, (digit_set, (digit_set, (digit_set, (digit_set, (digit_set, tt))))))))

-- two or four digits, each between its bounds, are a number between bounds, and back
year_in : (a b c d : ℕ) → Bounded 49 50 a → Bounded (cond (eqb a 49) 57 48) (cond (eqb a 49) 57 56) b → Bounded 48 57 c → Bounded 48 57 d
    → (1900 ≤ number (a ∷ b ∷ c ∷ d ∷ [])) × (number (a ∷ b ∷ c ∷ d ∷ []) ≤ 2899)
year_in a b c d x y z w =
    ⊎_elim
    (λ u. ⊎_elim (λ v. (omega arith, omega arith)) (λ v. absurd (v.0 u.0)) (by_equal {A = ℕ} 57 56 a 49))
    (λ u. ⊎_elim (λ v. absurd (u.0 v.0)) (λ v. (omega arith, omega arith)) (by_equal {A = ℕ} 57 56 a 49))
    (by_equal {A = ℕ} 57 48 a 49)

month_in : (a b : ℕ) → Bounded 48 49 a → Bounded (cond (eqb a 48) 49 48) (cond (eqb a 48) 57 50) b
    → (1 ≤ number (a ∷ b ∷ [])) × (number (a ∷ b ∷ []) ≤ 12)
month_in a b x y =
    ⊎_elim
    (λ u. ⊎_elim (λ v. (omega arith, omega arith)) (λ v. absurd (v.0 u.0)) (by_equal {A = ℕ} 57 50 a 48))
    (λ u. ⊎_elim (λ v. absurd (u.0 v.0)) (λ v. (omega arith, omega arith)) (by_equal {A = ℕ} 57 50 a 48))
    (by_equal {A = ℕ} 49 48 a 48)

day_in_month : (n a b : ℕ) → 28 ≤ n → n ≤ 31 → Bounded 48 (48 + n / 10) a
    → Bounded (cond (eqb a 48) 49 48) (cond (eqb a (48 + n / 10)) (48 + n % 10) 57) b
    → (1 ≤ number (a ∷ b ∷ [])) × (number (a ∷ b ∷ []) ≤ n)
day_in_month n a b lo hi x y =
    ⊎_elim (λ u. ⊎_elim (λ v. (omega arith, omega arith)) (λ v. (omega arith, omega arith)) (by_equal {A = ℕ} (48 + n % 10) 57 a (48 + n / 10)))
    (λ u. ⊎_elim (λ v. (omega arith, omega arith)) (λ v. (omega arith, omega arith)) (by_equal {A = ℕ} (48 + n % 10) 57 a (48 + n / 10)))
    (by_equal {A = ℕ} 49 48 a 48)

-- a choice by a test is one of two numbers, each of which serves
either : (u v x k : ℕ) (P : ℕ → Type 0) → (x ≡ k → P u) → (x ≢ k → P v) → P (cond (eqb x k) u v)
either u v x k P f g = ⊎_elim (λ c. rw c.1 (f c.0)) (λ c. rw c.1 (g c.0)) (by_equal {A = ℕ} u v x k)

year_out : (y : ℕ) → 1900 ≤ y → y ≤ 2899
    → Bounded 49 50 (48 + y / 1000 % 10) × Bounded (cond (eqb (48 + y / 1000 % 10) 49) 57 48) (cond (eqb (48 + y / 1000 % 10) 49) 57 56) (48 + y / 100 % 10)
year_out y lo hi =
    let a = 48 + y / 1000 % 10 in
    let b = 48 + y / 100 % 10 in (
      bounded (omega arith) (omega arith) (omega arith) (omega arith),
      bounded (omega arith) (omega arith) (either 57 48 a 49 (◌≤ b) (λ e. omega arith) (λ e. omega arith))
          (either 57 56 a 49 (b ≤◌) (λ e. omega arith) (λ e. omega arith)),
    )

month_out : (m : ℕ) → 1 ≤ m → m ≤ 12
    → Bounded 48 49 (48 + m / 10 % 10) × Bounded (cond (eqb (48 + m / 10 % 10) 48) 49 48) (cond (eqb (48 + m / 10 % 10) 48) 57 50) (48 + m / 1 % 10)
month_out m lo hi =
    let a = 48 + m / 10 % 10 in
    let b = 48 + m / 1 % 10 in
    let back = number_digits 2 m (omega arith) in (
      bounded (omega arith) (omega arith) (omega arith) (omega arith),
      bounded (omega arith) (omega arith) (either 49 48 a 48 (◌≤ b) (λ e. omega arith) (λ e. omega arith))
          (either 57 50 a 48 (b ≤◌) (λ e. omega arith) (λ e. omega arith)),
    )

day_out_month : (n d : ℕ) → 28 ≤ n → n ≤ 31 → 1 ≤ d → d ≤ n
    → Bounded 48 (48 + n / 10) (48 + d / 10 % 10)
    × Bounded (cond (eqb (48 + d / 10 % 10) 48) 49 48) (cond (eqb (48 + d / 10 % 10) (48 + n / 10)) (48 + n % 10) 57) (48 + d / 1 % 10)
day_out_month n d lo hi first last =
    let a = 48 + d / 10 % 10 in
    let b = 48 + d / 1 % 10 in
    let back = number_digits 2 d (omega arith) in (
      bounded (omega arith) (omega arith) (omega arith) (omega arith),
      bounded (omega arith) (omega arith) (either 49 48 a 48 (◌≤ b) (λ e. omega arith) (λ e. omega arith))
          (either (48 + n % 10) 57 a (48 + n / 10) (b ≤◌) (λ e. omega arith) (λ e. omega arith)),
    )

-- some digit goes on at each position, whatever stands before it
year_goes : (t : Bool) → Bounded (cond t 57 48) (cond t 57 56) (cond t 57 48)
year_goes true = bounded (omega arith) (omega arith) (omega arith) (omega arith)
year_goes false = bounded (omega arith) (omega arith) (omega arith) (omega arith)

month_goes : (t : Bool) → Bounded (cond t 49 48) (cond t 57 50) 49
month_goes true = bounded (omega arith) (omega arith) (omega arith) (omega arith)
month_goes false = bounded (omega arith) (omega arith) (omega arith) (omega arith)

tens_goes : (n : ℕ) → Bounded 48 (48 + n / 10) 48
tens_goes n = bounded (omega arith) (omega arith) (omega arith) (omega arith)

ones_goes : (n a : ℕ) → 28 ≤ n
    → Bounded (cond (eqb a 48) 49 48) (cond (eqb a (48 + n / 10)) (48 + n % 10) 57) (cond (eqb a (48 + n / 10)) 48 49)
ones_goes n a h =
    ⊎_elim
    (λ u. rw (eq-eqb a (48 + n / 10) u.0, ne_eqb a 48 (λ e. omega arith)) (bounded (omega arith) (omega arith) (omega arith) (omega arith)))
    (λ u. rw (ne_eqb a (48 + n / 10) u.0)
    (bounded (omega arith) (omega arith) (either_way {A = ℕ} 49 48 (◌≤ 49) (eqb a 48) (omega arith) (omega arith)) (omega arith)))
    (by_equal {A = ℕ} 0 0 a (48 + n / 10))

pub day_opens : Each Opens day_positions
day_opens = (one, (year, (any, (any, (zero_fits, (month, (tens, (ones, tt))))))))
  where
    one : {n : ℕ} → Opens (digit_from (λ p. 49) (λ p. 50) n)
    one p = (49, record { inside = refl; lawful = refl })

    year : {n : ℕ} → Opens (digit_from year_low year_high n)
    year p = (_, bounds_out year_low year_high {p = p} (year_goes (eqb (get_or p 0 0) 49)))

    any : {n : ℕ} → Opens (digit_position n)
    any p = (48, free_fit refl)

    zero_fits : {n : ℕ} → Opens (digit_from (λ p. 48) (λ p. 49) n)
    zero_fits p = (48, record { inside = refl; lawful = refl })

    month : {n : ℕ} → Opens (digit_from month_low month_high n)
    month p = (49, bounds_out month_low month_high {p = p} (month_goes (eqb (get_or p 4 0) 48)))

    tens : {n : ℕ} → Opens (digit_from (λ p. 48) tens_high n)
    tens p = (48, bounds_out (λ p. 48) tens_high {p = p} (tens_goes (last_at p)))

    ones : {n : ℕ} → Opens (digit_from ones_low ones_high n)
    ones p = (_, bounds_out ones_low ones_high {p = p} (ones_goes (last_at p) (get_or p 6 0) (omega arith)))

-- eight digits are the writing of the day that they stand for
pub day_written : {p c : List ℕ} → Fits (replicate 8 (digit_position VALUE)) p c → c ≡ day_text (day_of c)
day_written (more f0 (more f1 (more f2 (more f3 (more f4 (more f5 (more f6 (more f7 none)))))))) =
    ap₂ ◌++◌ (digits_in 4 VALUE (more f0 (more f1 (more f2 (more f3 none))))).1
    (ap₂ ◌++◌ (digits_in 2 VALUE (more f4 (more f5 none))).1 (digits_in 2 VALUE (more f6 (more f7 none))).1)

-- a month's last day is the one that its digits are held to
last_is : (y m : ℕ) → 1 ≤ m → m ≤ 12 → (last_of y m ≡ days_in y m) × (28 ≤ last_of y m) × (last_of y m ≤ 31)
last_is y m lo hi = let (least, most) = month_bounds y m lo hi in (omega (arith, least), omega arith, omega (arith, most))

pub day_in : {c : List ℕ} → Fits day_positions [] c → LawfulDay (day_of c) × (c ≡ day_text (day_of c))
day_in (more {b = b0} f0 (more {b = b1} f1 (more {b = b2} f2 (more {b = b3} f3 (more {b = b4} f4 (more {b = b5} f5
    (more {b = b6} f6 (more {b = b7} f7 none)))))))) =
    let y = number (b0 ∷ b1 ∷ b2 ∷ b3 ∷ []) in
    let m = number (b4 ∷ b5 ∷ []) in
    let ten : Bounded 48 57 b2 = digit_bounded f2 in
    let unit : Bounded 48 57 b3 = digit_bounded f3 in
    let (early, late) = year_in b0 b1 b2 b3 (bounds_in _ _ f0) (bounds_in year_low year_high f1) ten unit in
    let (least, most) = month_in b4 b5 (bounds_in _ _ f4) (bounds_in month_low month_high f5) in
    let (is, lo, hi) = last_is y m least most in
    let (first, last) = day_in_month (last_of y m) b6 b7 lo hi (bounds_in _ tens_high f6) (bounds_in ones_low ones_high f7) in (
      record { first_year = early; last_year = late; first_day = first; last_day = rw is at last },
      day_written {p = []} (more (free_fit f0.inside) (more (free_fit f1.inside) (more f2 (more f3
          (more (free_fit f4.inside) (more (free_fit f5.inside) (more (free_fit f6.inside) (more (free_fit f7.inside) none)))))))),
    )
  where
    digit_bounded : {p : List ℕ} {b : ℕ} → Fit (digit_position VALUE) p b → Bounded 48 57 b
    digit_bounded {b = b} f = let (lo, hi) = in_range "0" "9" b f.inside in bounded lo hi lo hi

pub day_out : (d : Day) → LawfulDay d → Fits day_positions [] (day_text d)
day_out d h =
    let y = d.year in
    let m = d.month in
    let (least, most) = has_days y m (omega (arith, h.first_day, h.last_day)) in
    let (is, lo, hi) = last_is y m least most in
    let ys : number (digits 4 y) ≡ y = number_digits 4 y (omega (arith, h.last_year)) in
    let ms : number (digits 2 m) ≡ m = number_digits 2 m (omega arith) in
    let n = last_of (number (digits 4 y)) (number (digits 2 m)) in
    let same : n ≡ last_of y m = ap₂ last_of ys ms in
    let (x, x2) = year_out y h.first_year h.last_year in
    let (u, u2) = month_out m least most in
    let (v, v2) = day_out_month n d.day (rw same lo) (rw same hi) h.first_day (rw (same, is) h.last_day) in
    more (bounds_out _ _ x) (more (bounds_out year_low year_high x2) (more (digit_fits (y / 10 % 10) (omega arith))
    (more (digit_fits (y / 1 % 10) (omega arith))
    (more (bounds_out _ _ u) (more (bounds_out month_low month_high u2) (more (bounds_out _ tens_high v) (more (bounds_out ones_low ones_high v2) none)))))))
  where
    digit_fits : (n : ℕ) {p : List ℕ} → n ≤ 9 → Fit (digit_position VALUE) p (48 + n)
    digit_fits n l = free_fit (range_in "0" "9" (48 + n) (omega arith) (omega arith))

-- eight digits that stand for a lawful day fit
pub day_fits : {p c : List ℕ} → Fits (replicate 8 (digit_position VALUE)) p c → LawfulDay (day_of c) → Fits day_positions [] c
day_fits {c = c} fs h = subst (Fits day_positions []) (sym (day_written fs)) (day_out (day_of c) h)

pub day_back : (d : Day) (s : List ℕ) → LawfulDay d → day_of (day_text d ++ s) ≡ d
day_back d s h =
    let (least, most) = has_days d.year d.month (omega (arith, h.first_day, h.last_day)) in
    let (few, many) = month_bounds d.year d.month least most in
    let year = number_digits 4 d.year (omega (arith, h.last_year)) in
    let month = number_digits 2 d.month (omega arith) in
    let day = number_digits 2 d.day (omega (arith, h.last_day)) in
    λ i. record { year = year i; month = month i; day = day i }

-- the day that a content's front stands for
pub day_front : (c : List ℕ) → 8 ≤ length c → day_of (take 8 c) ≡ day_of c
day_front c l =
    let year = ap number (take-take 4 8 c (omega arith)) in
    let month = ap number (part_within c 4 2 8 (omega arith) (omega arith)) in
    let day = ap number (part_within c 6 2 8 (omega arith) (omega arith)) in
    λ i. record { year = year i; month = month i; day = day i }

-- what stands before the day names a month, and its last day is the one that yyyymm has
pub month_front : (ρs : List Position) {c : List ℕ} → Fits (take 6 day_positions ++ ρs) [] c → MonthAt c
month_front ρs (more f0 (more f1 (more f2 (more f3 (more {b = b4} f4 (more {b = b5} f5 fs)))))) =
    month_in b4 b5 (bounds_in _ _ f4) (bounds_in month_low month_high f5)

module _ (c : List ℕ) (i : ℕ) (l : 6 ≤ i) (h : 6 ≤ length c) where
  month_same : number (take 2 (drop 4 (take i c))) ≡ number (take 2 (drop 4 c))
  month_same = ap number (part_within c 4 2 i (omega arith) (omega arith))

  pub month_at : MonthAt (take i c) → MonthAt c
  month_at m = rw month_same at m

  pub last_front : last_at (take i c) ≡ last_at c
  last_front = ap₂ last_of (ap number (take-take 4 i c (omega arith))) month_same

pub last_read : (c : List ℕ) {r : ℕ} → MonthAt c → r ≡ days_in (number (take 4 c)) (number (take 2 (drop 4 c))) → (r ≡ last_at c) × (r ≤ 31)
last_read c (lo, hi) e = let (is, least, most) = last_is (number (take 4 c)) (number (take 2 (drop 4 c))) lo hi in (e ∙ sym is, rw (e, ← is) most)

-- bytes that fit up to a day's digit are digits, and name a month
pub month_fits : (c : List ℕ) (i : ℕ) → 6 ≤ i → i < 8 → i ≤ length c → Fits (take i day_positions) [] (take i c) → DigitsAt c 0 6 × MonthAt c
month_fits c i lo hi long fs = (
  digits_part (fitting_digits day_positions day_digits (omega arith) long fs) 0 6 (omega arith) (omega arith),
  ⊎_elim (λ e. month_at c 6 (omega arith) (omega arith) (month_front [] (rw e.0 at fs)))
      (λ e. let seven : i ≡ 7 = omega (arith, lo, hi, e.0) in
      month_at c 7 (omega arith) (omega arith) (month_front _ (rw seven at fs)))
      (by_equal {A = ℕ} 0 0 i 6),
)
