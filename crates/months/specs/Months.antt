-- W-202: a calendar day has a year, a month and a day; the days of each month, and the day's number in the year.
use Rattle.std.specs.Prelude.{ℕ, ◌+◌, ◌-◌, ◌≤◌, List, [], ◌∷◌, get_or, take}
use Rattle.calendar.specs.Calendar.{leap_day, FIRST_YEAR, LAST_YEAR}
use Rattle.calendar.specs.declared.Date.{Date}
use Rattle.months.specs.declared.Day.{Day}

-- the days of the months in their order, in a year with l leap days: "366 in a Gregorian leap year"
abbrev pub month_lengths : ℕ → List ℕ
month_lengths l = 31 ∷ (28 + l) ∷ 31 ∷ 30 ∷ 31 ∷ 30 ∷ 31 ∷ 31 ∷ 30 ∷ 31 ∷ 30 ∷ 31 ∷ []

-- the days of a month, the first of which is 1; what is no month has none
abbrev pub days_in : ℕ → ℕ → ℕ
days_in y m = get_or (0 ∷ month_lengths (leap_day y)) m 0

-- "years 1900 to 2899", and a day of that month
pub record LawfulDay (d : Day) : Type 0 where
  pub first_year : FIRST_YEAR ≤ d.year
  pub last_year : d.year ≤ LAST_YEAR
  pub first_day : 1 ≤ d.day
  pub last_day : d.day ≤ days_in d.year d.month

-- the days of some months together
abbrev pub together : List ℕ → ℕ
together [] = 0
together (n ∷ ns) = n + together ns

-- the days of the months before one
abbrev pub days_before : ℕ → ℕ → ℕ
days_before y m = together (take (m - 1) (month_lengths (leap_day y)))

-- the ordinal day: the days of the months before it, and its own number
abbrev pub ordinal : Day → ℕ
ordinal d = days_before d.year d.month + d.day

-- the date that a calendar day is
abbrev pub date_on : Day → Date
date_on d = record { year = d.year; day = ordinal d }
