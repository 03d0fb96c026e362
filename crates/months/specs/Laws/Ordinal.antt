-- Lawful calendar days and lawful dates are the same days; what the two loops keep.
use Rattle.std.specs.Prelude.{ℕ, zero, suc, ◌+◌, ◌-◌, ◌≤◌, ◌<◌, ◌≡◌, refl, Bool, true, false, get_or, Option, Some, None}
use Rattle.std.proofs.Common.{sym, ap, ap₂, ◌∙◌, subst, true≢false, arith}
use Rattle.text.specs.Decides.{Decides}
use Rattle.calendar.specs.Calendar.{leap_day, days, LawfulDate}
use Rattle.calendar.specs.Laws.Date.{leap_day≤}
use Rattle.calendar.specs.declared.Date.{Date}
use Rattle.months.specs.declared.Day.{Day}
use Rattle.months.specs.Months.{month_lengths, days_in, LawfulDay, together, days_before, ordinal, date_on}
use Rattle.months.specs.Ordinal.{ToOrdinal, its_date, unlawful, FromOrdinal, its_day, of_no_day}
use Rattle.months.specs.Laws.Together.{Falls, together_next, together_most, still_within, falls_below, falls_somewhere, falls_once}

-- the calendar day that a date is
pub record IsDay (t : Date) (d : Day) : Type 0 where
  pub lawful : LawfulDay d
  pub date : date_on d ≡ t

module _ (y : ℕ) where
  year_long : together (month_lengths (leap_day y)) ≡ days y
  year_long = omega arith

  -- only a month has days
  is_month : (m : ℕ) → 1 ≤ days_in y m → 1 ≤ m
  is_month zero h = h
  is_month (suc m) h = omega arith

  month_there : (m : ℕ) → 1 ≤ m → days_in y m ≡ get_or (month_lengths (leap_day y)) (m - 1) 0
  month_there m h = let e : m ≡ suc (m - 1) = omega arith in ap (days_in y) e

  -- one month more before it
  days_next : (m : ℕ) → 1 ≤ m → days_before y (m + 1) ≡ days_before y m + days_in y m
  days_next m h =
      let e : m + 1 - 1 ≡ suc (m - 1) = omega arith in
      rw (e, month_there m h) (together_next (month_lengths (leap_day y)) (m - 1))

  pub days_most : (m : ℕ) → days_before y m ≤ 366
  days_most m = omega (arith, together_most (month_lengths (leap_day y)) (m - 1), year_long, leap_day≤ y)

  -- days left over from the months before one are days of a month
  within_year : (m k : ℕ) → 1 ≤ k → days_before y m + k ≤ days y → m ≤ 12
  within_year m k f l = omega (arith, still_within (month_lengths (leap_day y)) (m - 1) k f (rw year_long l))

-- a lawful day falls into its month
day_falls : {d : Day} → LawfulDay d → Falls (month_lengths (leap_day d.year)) (ordinal d) (d.month - 1) d.day
day_falls {d} h =
    let month : 1 ≤ d.month = is_month d.year d.month (omega arith) in
    record { first = h.first_day; last = rw (month_there d.year d.month month) at h.last_day; sum = refl }

pub date_lawful : {d : Day} → LawfulDay d → LawfulDate (date_on d)
date_lawful {d} h =
    let (low, high) = falls_below (day_falls h) in
    record { first_year = h.first_year; last_year = h.last_year; first_day = low; last_day = rw (year_long d.year) at high }

pub day_there : (t : Date) → LawfulDate t → (d : Day) × IsDay t d
day_there t h =
    let (i, k, x) = falls_somewhere (month_lengths (leap_day t.year)) t.day h.first_day (rw (year_long t.year) h.last_day) in
    let e : i + 1 ≡ suc i = omega arith in
    let f : i + 1 - 1 ≡ i = omega arith in
    let sum : days_before t.year (i + 1) + k ≡ t.day = rw f x.sum in (
      record { year = t.year; month = i + 1; day = k },
      record {
        lawful = record { first_year = h.first_year; last_year = h.last_year; first_day = x.first; last_day = rw e x.last };
        date = λ j. record { year = t.year; day = sum j };
      },
    )

pub same_day : {c d : Day} → LawfulDay c → LawfulDay d → date_on c ≡ date_on d → c ≡ d
same_day {c} {d} g h e =
    let year : c.year ≡ d.year = ap (λ (t : Date). t.year) e in
    let sum : ordinal c ≡ ordinal d = ap (λ (t : Date). t.day) e in
    let first : 1 ≤ c.month = is_month c.year c.month (omega arith) in
    let first' : 1 ≤ d.month = is_month d.year d.month (omega arith) in
    let (place, day) = falls_once (month_lengths (leap_day d.year)) (rw (sum, year) at (day_falls g)) (day_falls h) in
    let month : c.month ≡ d.month = omega arith in
    λ i. record { year = year i; month = month i; day = day i }

-- what the sum over the months before one keeps
pub record Summed (y month days earlier : ℕ) : Type 0 where
  pub first : 1 ≤ earlier
  pub within : earlier - 1 ≤ month - 1
  pub sum : days ≡ days_before y earlier

pub summed_start : (y month : ℕ) → Summed y month 0 1
summed_start y month = record { first = omega arith; within = omega arith; sum = refl }

module _ {y month days earlier : ℕ} (s : Summed y month days earlier) where
  pub summed_next : {n : ℕ} → earlier < month → n ≡ days_in y earlier → Summed y month (days + n) (earlier + 1)
  summed_next h e =
      record { first = omega arith; within = omega arith; sum = ap₂ ◌+◌ s.sum e ∙ sym (days_next y earlier s.first) }

  pub summed_up : month ≤ earlier → days ≡ days_before y month
  summed_up h =
      let e : earlier - 1 ≡ month - 1 = omega arith in
      s.sum ∙ rw e

-- what the walk through the months keeps
pub record Walked (t : Date) (month left : ℕ) : Type 0 where
  pub first : 1 ≤ month
  pub last : month ≤ 12
  pub days_left : 1 ≤ left
  pub sum : days_before t.year month + left ≡ t.day

pub walked_start : {t : Date} → LawfulDate t → Walked t 1 t.day
walked_start h = record { first = omega arith; last = omega arith; days_left = h.first_day; sum = omega arith }

module _ {t : Date} (lawful : LawfulDate t) {month left : ℕ} (w : Walked t month left) {n : ℕ} (e : n ≡ days_in t.year month) where
  pub walked_next : n < left → Walked t (month + 1) (left - n)
  walked_next h =
      let sum : days_before t.year (month + 1) + (left - n) ≡ t.day = omega (arith, w.sum, days_next t.year month w.first) in
      record {
        first = omega arith;
        last = within_year t.year (month + 1) (left - n) (omega arith) (omega (arith, lawful.last_day));
        days_left = omega arith;
        sum = sum;
      }

  pub walked_to : left ≤ n → IsDay t record { year = t.year; month = month; day = left }
  walked_to h =
      record {
        lawful = record { first_year = lawful.first_year; last_year = lawful.last_year; first_day = w.days_left; last_day = rw e at h };
        date = λ j. record { year = t.year; day = w.sum j };
      }

-- what each answer of the code says, by the test before it
module _ {d : Day} {t : Bool} (x : Decides t (LawfulDay d)) where
  pub told_date : {n : ℕ} → t ≡ true → n ≡ days_before d.year d.month
      → ToOrdinal d (Some record { year = d.year; day = n + d.day })
  told_date e f = its_date (x.passed e) (rw f)

  pub no_date : t ≡ false → ToOrdinal d None
  no_date e = unlawful (λ h. true≢false (sym (x.passes h) ∙ e)) refl

pub told_day : {t : Date} {d : Day} → IsDay t d → FromOrdinal t (Some d)
told_day x = its_day _ x.lawful x.date refl

pub no_day : {t : Date} {b : Bool} → Decides b (LawfulDate t) → b ≡ false → FromOrdinal t None
no_day x e = of_no_day (λ d h f. true≢false (sym (x.passes (subst LawfulDate f (date_lawful h))) ∙ e)) refl

-- the two contracts
pub one_ordinal : {d : Day} {q r : Option Date} → ToOrdinal d q → ToOrdinal d r → q ≡ r
one_ordinal (its_date h e) (its_date g f) = e ∙ sym f
one_ordinal (its_date h e) (unlawful g f) = absurd (g h)
one_ordinal (unlawful h e) (its_date g f) = absurd (h g)
one_ordinal (unlawful h e) (unlawful g f) = e ∙ sym f

pub one_calendar : {t : Date} {q r : Option Day} → FromOrdinal t q → FromOrdinal t r → q ≡ r
one_calendar (its_day c g x e) (its_day d h y f) = e ∙ ap Some (same_day g h (x ∙ sym y)) ∙ sym f
one_calendar (its_day c g x e) (of_no_day h f) = absurd (h c g x)
one_calendar (of_no_day g e) (its_day d h y f) = absurd (g d h y)
one_calendar (of_no_day g e) (of_no_day h f) = e ∙ sym f
