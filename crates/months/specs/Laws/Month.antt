-- The days of a month by the tests that code makes, and how many they are.
use Rattle.std.specs.Prelude.{ℕ, zero, suc, ◌+◌, ◌<◌, ◌≤◌, ◌≡◌, refl, ◌∷◌, Bool, true, ◌&&◌, ◌≢◌, leb, get_or}
use Rattle.std.proofs.Common.{sym, ⊎_elim, not-suc-le-zero, le_of_suc-le-suc, leb-true, arith}
use Rattle.text.specs.Laws.Bytes.{both}
use Rattle.text.specs.Laws.Choice.{by_less}
use Rattle.text.specs.Laws.Every.{every, every_at}
use Rattle.calendar.specs.Laws.Date.{leap_day≤}
use Rattle.std.proofs.Math.ListN.{get_or-eq_default}
use Rattle.text.specs.Decides.{Decides}
use Rattle.text.specs.Laws.Decides.{decides_as}
use Rattle.calendar.specs.Calendar.{leap_day}
use Rattle.calendar.specs.Laws.Lawful.{day_test, day_tells}
use Rattle.months.specs.declared.Day.{Day}
use Rattle.months.specs.Months.{month_lengths, days_in, LawfulDay}

module _ (y m : ℕ) where
  pub no_month : 12 < m → 0 ≡ days_in y m
  no_month h = sym (get_or-eq_default (0 ∷ month_lengths (leap_day y)) 0 {n = m} (omega arith))

  -- only the second month's days depend on the year
  pub february : m ≡ 2 → get_or (0 ∷ month_lengths 0) m 0 + leap_day y ≡ days_in y m
  february e = rw e

pub other_month : (y m : ℕ) → m ≢ 2 → get_or (0 ∷ month_lengths 0) m 0 ≡ days_in y m
other_month y zero h = refl
other_month y (suc zero) h = refl
other_month y (suc (suc zero)) h = absurd (h refl)
other_month y (suc (suc (suc m))) h = refl

-- every month has 28 to 31 days, in a year with a leap day as in one without
abbrev bounds_test : ℕ → ℕ → Bool
bounds_test l i = leb 28 (get_or (month_lengths l) i 0) && leb (get_or (month_lengths l) i 0) 31

all_bounded : (l : ℕ) → l ≤ 1 → every (bounds_test l) 12 ≡ true
all_bounded zero h = refl
all_bounded (suc zero) h = refl
all_bounded (suc (suc l)) h = absurd (not-suc-le-zero (le_of_suc-le-suc h))

pub month_bounds : (y m : ℕ) → 1 ≤ m → m ≤ 12 → (28 ≤ days_in y m) × (days_in y m ≤ 31)
month_bounds y zero h g = absurd (not-suc-le-zero h)
month_bounds y (suc m) h g =
    let (lo, hi) = both _ _ (every_at (bounds_test (leap_day y)) 12 m (all_bounded (leap_day y) (leap_day≤ y)) g) in
    (leb-true 28 _ lo, leb-true _ 31 hi)

-- what has days is a month
pub has_days : (y m : ℕ) → 1 ≤ days_in y m → (1 ≤ m) × (m ≤ 12)
has_days y zero h = absurd (not-suc-le-zero h)
has_days y (suc m) h =
    ⊎_elim (λ g. let far = no_month y (suc m) g.0 in absurd (omega (arith, far, h))) (λ g. (omega arith, g.0)) (by_less {A = ℕ} 0 0 12 (suc m))

-- a lawful day as the test that code makes
pub lawful_tells : (d : Day) → Decides (day_test d.year d.day (days_in d.year d.month)) (LawfulDay d)
lawful_tells d =
    decides_as (day_tells d.year d.day (days_in d.year d.month))
    (λ h. record { first_year = h.0.0; last_year = h.0.1; first_day = h.1.0; last_day = h.1.1 })
    (λ h. ((h.first_year, h.last_year), (h.first_day, h.last_day)))
