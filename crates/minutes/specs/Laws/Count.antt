-- The minute count: by quotients of the year, in the order of time, and minute after minute.
use Rattle.std.specs.Prelude.{ℕ, zero, suc, ◌+◌, ◌-◌, ◌*◌, ◌/◌, ◌%◌, ◌≤◌, ◌<◌, ◌≡◌, refl, ◌≢◌}
use Rattle.std.proofs.Common.{ap, ⊎_elim, le_of_suc-le-suc, eq-or-lt_of_le, zero-mul, suc-mul, mod-lt, div-add-mod', add-one}
use Rattle.std.proofs.Math.Nat.{div-eq_of_lt-le}
use native.Mathlib.Omega.{arith}
use Rattle.text.specs.Laws.Choice.{by_equal}
use Rattle.calendar.specs.Calendar.{FIRST_YEAR, leap_day, days, LawfulDate}
use Rattle.calendar.specs.Laws.Date.{leap_day≤, no_fourth, no_century, fourth_century, other_century}
use Rattle.calendar.specs.declared.Date.{Date}
use Rattle.minutes.specs.declared.Moment.{Moment}
use Rattle.minutes.specs.Minutes.{LawfulYear, LawfulMoment, days_of_years, days_before, minute_count}

-- the leap years up to a year, by the leap rule's quotients
leaps : ℕ → ℕ
leaps y = y / 4 - y / 100 + y / 400

-- a quotient rises with the years that its divisor divides
record Rises (k y : ℕ) : Type 0 where
  with : suc y % k ≡ 0 → suc y / k ≡ 1 + y / k
  else : suc y % k ≢ 0 → suc y / k ≡ 0 + y / k

quotient_is : (q k y : ℕ) → q * k ≤ y → y < q * k + k → y / k ≡ q
quotient_is q k y low high = div-eq_of_lt-le k low (rw (add-one, suc-mul) high)

rises : (k y : ℕ) → 0 < k → Rises k y
rises k y h =
    let split = div-add-mod' (suc y) k in
    let rest = mod-lt (suc y) h in
    record {
      with = λ e. whole (suc y / k) (omega arith);
      else = λ e. omega (arith, quotient_is (suc y / k) k y (omega arith) (omega arith));
    }
  where
    whole : (q : ℕ) → q * k ≡ suc y → q ≡ 1 + y / k
    whole zero e = absurd (omega (arith, zero-mul k))
    whole (suc p) e = let next = suc-mul p k in omega (arith, quotient_is p k y (omega arith) (omega arith))

risen : (a b c i j k : ℕ) → b ≤ a → j ≤ i → i + a - (j + b) + (k + c) ≡ a - b + c + (i - j + k)
risen a b c i j k h g = omega arith

module _ (y : ℕ) where
  four : Rises 4 y
  four = rises 4 y (omega arith)

  hundred : Rises 100 y
  hundred = rises 100 y (omega arith)

  four_hundred : Rises 400 y
  four_hundred = rises 400 y (omega arith)

  -- a year adds its leap day to them
  abbrev Next : Type 0
  Next = leaps (suc y) ≡ leaps y + leap_day (suc y)

  by_rises : (i j k : ℕ) → j ≤ i → suc y / 4 ≡ i + y / 4 → suc y / 100 ≡ j + y / 100 → suc y / 400 ≡ k + y / 400
      → i - j + k ≡ leap_day (suc y) → Next
  unfolding leaps
  by_rises i j k h f c q e = rw (f, c, q, ← e) (risen (y / 4) (y / 100) (y / 400) i j k (omega arith) h)

  century_next : suc y % 4 ≡ 0 → suc y % 100 ≡ 0 → Next
  century_next f c =
      ⊎_elim
      (λ q. by_rises 1 1 1 (omega arith) (four.with f) (hundred.with c) (four_hundred.with q.0) (fourth_century (suc y) f c q.0))
      (λ q. by_rises 1 1 0 (omega arith) (four.with f) (hundred.with c) (four_hundred.else q.0) (other_century (suc y) f c q.0))
      (by_equal y y (suc y % 400) 0)

  no_century_next : suc y % 4 ≡ 0 → suc y % 100 ≢ 0 → Next
  no_century_next f c = by_rises 1 0 0 (omega arith) (four.with f) (hundred.else c) (four_hundred.else (λ q. omega arith)) (no_century (suc y) f c)

  no_fourth_next : suc y % 4 ≢ 0 → Next
  no_fourth_next f =
      by_rises 0 0 0 (omega arith) (four.else f) (hundred.else (λ c. omega arith)) (four_hundred.else (λ q. omega arith)) (no_fourth (suc y) f)

  leaps_next : Next
  leaps_next =
      ⊎_elim
      (λ f. ⊎_elim (λ c. century_next f.0 c.0) (λ c. no_century_next f.0 c.0) (by_equal y y (suc y % 100) 0))
      (λ f. no_fourth_next f.0)
      (by_equal y y (suc y % 4) 0)

-- 460 leap years came before 1900
leaps_first : leaps 1899 ≡ 460
unfolding leaps
leaps_first = refl

-- the days of n years are 365 for each and those leap days
days_counted : (n : ℕ) → (460 ≤ leaps (1899 + n)) × (days_of_years n + 460 ≡ 365 * n + leaps (1899 + n))
days_counted zero = (omega (arith, leaps_first), omega (arith, leaps_first))
days_counted (suc n) =
    let (h, e) = days_counted n in
    let next : 1899 + suc n ≡ suc (1899 + n) = omega arith in
    let year : FIRST_YEAR + n ≡ suc (1899 + n) = omega arith in
    rw (next, year, leaps_next (1899 + n)) (omega arith, omega arith)

module _ (y : ℕ) (first : FIRST_YEAR ≤ y) where
  -- the code's way to count them
  pub by_quotients : 365 * (y - 1 - 1899) + ((y - 1) / 4 - (y - 1) / 100 + (y - 1) / 400 - 460) ≡ days_before y
  unfolding leaps
  by_quotients =
      let before : 1899 + (y - FIRST_YEAR) ≡ y - 1 = omega arith in
      let (h, e) = days_counted (y - FIRST_YEAR) in
      counted (rw before at h) (rw before at e)
    where
      counted : {l d : ℕ} → 460 ≤ l → d + 460 ≡ 365 * (y - FIRST_YEAR) + l → 365 * (y - 1 - 1899) + (l - 460) ≡ d
      counted h e = omega arith

  -- a year later its days are before, too
  pub year_later : days_before (y + 1) ≡ days_before y + days y
  year_later =
      let suc-is : y + 1 - FIRST_YEAR ≡ suc (y - FIRST_YEAR) = omega arith in
      let year : FIRST_YEAR + (y - FIRST_YEAR) ≡ y = omega arith in
      rw suc-is (ap (λ (z : ℕ). days_of_years (y - FIRST_YEAR) + days z) year)

days_rise : (m n : ℕ) → m ≤ n → days_of_years m ≤ days_of_years n
days_rise m zero h = let none : m ≡ 0 = omega arith in rw none (omega arith)
days_rise m (suc n) h = ⊎_elim (λ e. rw e (omega arith)) (λ l. omega (arith, days_rise m n (le_of_suc-le-suc l))) (eq-or-lt_of_le h)

pub years_rise : {y z : ℕ} → FIRST_YEAR ≤ y → y < z → days_before y + days y ≤ days_before z
years_rise {y} {z} h l = omega (arith, year_later y h, days_rise (y + 1 - FIRST_YEAR) (z - FIRST_YEAR) (omega arith))

pub days_few : {y : ℕ} → LawfulYear y → days_before y ≤ 365000
days_few {y} h = omega (arith, by_quotients y h.first)

pub date_year : {d : Date} → LawfulDate d → LawfulYear d.year
date_year h = record { first = h.first_year; last = h.last_year }

module _ {m : Moment} (lawful : LawfulMoment m) where
  few_days : m.date.day ≤ 366
  few_days = omega (arith, leap_day≤ m.date.year, lawful.date.last_day)

  pub count_below : minute_count m < 530000000
  count_below = omega (arith, few_days, days_few (date_year lawful.date), lawful.time.last_hour, lawful.time.last_minute)
