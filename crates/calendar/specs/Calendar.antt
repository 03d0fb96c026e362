-- 01, "Dates": a date is cyyjjj, a time hhmm.
use Rattle.std.specs.Prelude.{ℕ, ◌+◌, ◌-◌, ◌*◌, ◌/◌, ◌%◌, ◌≤◌, Bool, ◌&&◌, ◌||◌, not, cond, List, ◌++◌, take, drop, eqb, ltb}
use Rattle.text.specs.Decimal.{digits, number}
use Rattle.calendar.specs.declared.Date.{Date}
use Rattle.calendar.specs.declared.Time.{Time}

-- "2000 + 100c + yy for c from 0 to 8, and 1900 + yy for c = 9"
abbrev pub year_of : ℕ → ℕ → ℕ
year_of c yy = cond (eqb c 9) (1900 + yy) (2000 + 100 * c + yy)

-- the first year that cyy can name
abbrev pub FIRST_YEAR : ℕ
FIRST_YEAR = 1900

-- and the last
abbrev pub LAST_YEAR : ℕ
LAST_YEAR = 2899

-- the c that names a year
unfoldable pub century_of : ℕ → ℕ
century_of y = cond (ltb y 2000) 9 ((y - 2000) / 100)

-- "a Gregorian leap year"
abbrev pub leap : ℕ → Bool
leap y = eqb (y % 4) 0 && (not (eqb (y % 100) 0) || eqb (y % 400) 0)

-- the day that a leap year has more
unfoldable pub leap_day : ℕ → ℕ
leap_day y = cond (leap y) 1 0

-- "365, or 366 in a Gregorian leap year"
abbrev pub days : ℕ → ℕ
days y = 365 + leap_day y

-- a year that cyy can name, and jjj from 001 to the days of that year
pub record LawfulDate (d : Date) : Type 0 where
  pub first_year : FIRST_YEAR ≤ d.year
  pub last_year : d.year ≤ LAST_YEAR
  pub first_day : 1 ≤ d.day
  pub last_day : d.day ≤ days d.year

-- "hh is 00 to 23, mm 00 to 59"
pub record LawfulTime (t : Time) : Type 0 where
  pub last_hour : t.hour ≤ 23
  pub last_minute : t.minute ≤ 59

-- a date as cyyjjj
abbrev pub date_text : Date → List ℕ
date_text d = digits 1 (century_of d.year) ++ (digits 2 (d.year % 100) ++ digits 3 d.day)

-- a time as hhmm
abbrev pub time_text : Time → List ℕ
time_text t = digits 2 t.hour ++ digits 2 t.minute

-- the year that cyy names
abbrev pub year_named : List ℕ → ℕ
year_named c = year_of (number (take 1 c)) (number (take 2 (drop 1 c)))

-- the date that cyyjjj stands for
abbrev pub date_of : List ℕ → Date
date_of c = record { year = year_named c; day = number (take 3 (drop 3 c)) }

-- the time that hhmm stands for
abbrev pub time_of : List ℕ → Time
time_of c = record { hour = number (take 2 c); minute = number (take 2 (drop 2 c)) }
