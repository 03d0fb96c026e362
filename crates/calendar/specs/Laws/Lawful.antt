-- Lawful dates and times as tests that code makes.
use Rattle.std.specs.Prelude.{ℕ, ◌≤◌, ◌≡◌, Bool, true, false, ◌&&◌, List, [], leb, eqb, take, drop}
use Rattle.std.proofs.Common.{sym, ◌∙◌, true≢false, arith, leb-true, le-leb, eq-eqb, eqb-true}
use Rattle.demand.specs.Numbers.{VALUE}
use Rattle.text.specs.Decimal.{number, DigitsAt}
use Rattle.text.specs.Decides.{Decides}
use Rattle.text.specs.Laws.Decimal.{DigitsRead, digits_part, digits_at_fit, digits_in}
use Rattle.text.specs.Laws.Bytes.{both}
use Rattle.text.specs.Laws.Decides.{decides_both, decides_as, decides_most}
use Rattle.calendar.specs.declared.Date.{Date}
use Rattle.calendar.specs.declared.Time.{Time}
use Rattle.calendar.specs.Calendar.{FIRST_YEAR, LAST_YEAR, days, leap_day, year_named, date_of, LawfulDate, LawfulTime}
use Rattle.calendar.specs.Laws.Date.{leap_day≤, year_forth}

-- a year that a label can hold, and a day from 1 to a last one
abbrev pub day_test : ℕ → ℕ → ℕ → Bool
day_test y n last = (leb FIRST_YEAR y && leb y LAST_YEAR) && (leb 1 n && leb n last)

pub day_tells : (y n last : ℕ) → Decides (day_test y n last) (((FIRST_YEAR ≤ y) × (y ≤ LAST_YEAR)) × ((1 ≤ n) × (n ≤ last)))
day_tells y n last = decides_both (decides_both (decides_most FIRST_YEAR y) (decides_most y LAST_YEAR)) (decides_both (decides_most 1 n) (decides_most n last))

pub date_tells : (d : Date) → Decides (day_test d.year d.day (days d.year)) (LawfulDate d)
date_tells d =
    decides_as (day_tells d.year d.day (days d.year))
    (λ h. record { first_year = h.0.0; last_year = h.0.1; first_day = h.1.0; last_day = h.1.1 })
    (λ h. ((h.first_year, h.last_year), (h.first_day, h.last_day)))

-- six digits name a year in range, so that their day and the leap day of that year decide
module _ {s : List ℕ} {n : ℕ} (six : DigitsAt s 0 6) (day : DigitsRead s 3 3 n) where
  within_year : (y : Bool) → Decides y ((1 ≤ n) × (n ≤ days (year_named s))) → Decides y (LawfulDate (date_of s))
  within_year y t =
      let century = (digits_in 1 VALUE (digits_at_fit (digits_part six 0 1 (omega arith) (omega arith)) VALUE [])).0 in
      let years = (digits_in 2 VALUE (digits_at_fit (digits_part six 1 2 (omega arith) (omega arith)) VALUE [])).0 in
      let (early, late, _, _) = year_forth (number (take 1 s)) (number (take 2 (drop 1 s))) (omega arith) (omega arith) in
      decides_as t
      (λ h. record { first_year = early; last_year = late; first_day = rw day.is at h.0; last_day = rw day.is at h.1 })
      (λ h. rw day.is (h.first_day, h.last_day))

  pub common_day : (leb 1 n && leb n 365) ≡ true → Decides (leb 1 n && leb n 365) (LawfulDate (date_of s))
  common_day e =
      let (lo, hi) = both _ _ e in
      within_year _ record { passed = λ f. (leb-true 1 n lo, omega (arith, leb-true n 365 hi)); passes = λ h. e }

  pub last_day : {l : ℕ} → n ≡ 366 → l ≡ leap_day (year_named s) → Decides (eqb l 1) (LawfulDate (date_of s))
  last_day {l} e is =
      within_year _ record { passed = λ f. omega (arith, eqb-true l 1 f); passes = λ h. eq-eqb l 1 (omega (arith, h.1, leap_day≤ (year_named s))) }

  pub no_day : (leb 1 n && leb n 365) ≡ false → (n ≡ 366 → ⊥) → Decides (eqb n 366) (LawfulDate (date_of s))
  no_day e f =
      within_year _ record {
        passed = λ g. absurd (f (eqb-true n 366 g));
        passes = λ h. absurd (true≢false (sym (rw (le-leb 1 n h.0, le-leb n 365 (omega (arith, h.1, leap_day≤ (year_named s))))) ∙ e));
      }

abbrev pub time_test : Time → Bool
time_test t = leb t.hour 23 && leb t.minute 59

pub time_tells : (t : Time) → Decides (time_test t) (LawfulTime t)
time_tells t =
    decides_as (decides_both (decides_most t.hour 23) (decides_most t.minute 59)) (λ h. record { last_hour = h.0; last_minute = h.1 })
    (λ h. (h.last_hour, h.last_minute))
