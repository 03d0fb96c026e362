-- W-210: the minutes from now to an expiry, "the difference of two minute counts defined over the calendar", from 1900 to 2899.
use Rattle.std.specs.Prelude.{ℕ, zero, suc, ◌+◌, ◌-◌, ◌*◌, ◌≤◌, ◌≡◌, cond, eqb, ℤ, pos, ◌-ℤ◌}
use Rattle.demand.specs.Numbers.{ACCEPTED, VALUE, DAY, TIME}
use Rattle.calendar.specs.declared.Time.{Time}
use Rattle.calendar.specs.declared.Expiry.{Expiry}
use Rattle.calendar.specs.Calendar.{FIRST_YEAR, LAST_YEAR, days, LawfulDate, LawfulTime}
use Rattle.calendar.specs.Expiry.{date_in, time_in}
use Rattle.minutes.specs.declared.Moment.{Moment}
use Rattle.minutes.specs.declared.Left.{Left}

-- "23:59"
abbrev pub LAST_MINUTE : Time
LAST_MINUTE = record { hour = 23; minute = 59 }

-- the moment that an expiry means: "An expiry without a time counts as 23:59"
abbrev pub moment_of : Expiry → Moment
moment_of e = record { date = date_in e; time = cond (eqb e.timed 0) LAST_MINUTE (time_in e) }

-- "over the years 1900 to 2899"
pub record LawfulYear (y : ℕ) : Type 0 where
  pub first : FIRST_YEAR ≤ y
  pub last : y ≤ LAST_YEAR

-- a moment that a date structure can hold
pub record LawfulMoment (m : Moment) : Type 0 where
  pub date : LawfulDate m.date
  pub time : LawfulTime m.time

-- the days of the first n years from 1900 on
abbrev pub days_of_years : ℕ → ℕ
days_of_years zero = 0
days_of_years (suc n) = days_of_years n + days (FIRST_YEAR + n)

-- the days of all years from 1900 before a year
abbrev pub days_before : ℕ → ℕ
days_before y = days_of_years (y - FIRST_YEAR)

-- the minutes from the beginning of 1900 to a moment
abbrev pub minute_count : Moment → ℕ
minute_count m = ((days_before m.date.year + m.date.day - 1) * 24 + m.time.hour) * 60 + m.time.minute

-- "the number of minutes from now to the expiry: zero at the same minute, below zero once it has passed"
abbrev pub minutes_from : Moment → Moment → ℤ
minutes_from now expiry = pos (minute_count expiry) -ℤ pos (minute_count now)

-- "within a moment VALUE for the year, then DAY, then TIME"
pub data Refuses (m : Moment) (n : ℕ) : Type 0 where
  for_year : (LawfulYear m.date.year → ⊥) → n ≡ VALUE → Refuses m n
  for_day : LawfulYear m.date.year → (LawfulDate m.date → ⊥) → n ≡ DAY → Refuses m n
  for_time : LawfulDate m.date → (LawfulTime m.time → ⊥) → n ≡ TIME → Refuses m n

-- the answer to what "is refused, with 0 minutes"
abbrev pub refused : ℕ → ℕ → Left
refused place number = record { place = place; minutes = pos 0; refusal = number }

-- "now before the expiry; the place is 0 for now, 1 for the expiry"
pub data MinutesLeft (now : Moment) (expiry : Expiry) (r : Left) : Type 0 where
  left : LawfulMoment now → LawfulMoment (moment_of expiry)
      → r ≡ record { place = 0; minutes = minutes_from now (moment_of expiry); refusal = ACCEPTED } → MinutesLeft now expiry r
  now_refused : {n : ℕ} → Refuses now n → r ≡ refused 0 n → MinutesLeft now expiry r
  expiry_refused : {n : ℕ} → LawfulMoment now → Refuses (moment_of expiry) n → r ≡ refused 1 n → MinutesLeft now expiry r
