-- W-210: the order of moments, and the minute after one, over the calendar.
use Rattle.std.specs.Prelude.{ℕ, ◌+◌, ◌<◌, ◌≡◌, cond, ltb}
use Rattle.calendar.specs.declared.Expiry.{Expiry}
use Rattle.calendar.specs.Calendar.{days}
use Rattle.calendar.specs.Expiry.{timed}
use Rattle.minutes.specs.declared.Moment.{Moment}

-- the expiry at a moment
abbrev pub expiry_at : Moment → Expiry
expiry_at m = timed 0 m.date m.time

-- earlier by the year, else the day, else the hour, else the minute
pub data Earlier (a b : Moment) : Type 0 where
  by_year : a.date.year < b.date.year → Earlier a b
  by_day : a.date.year ≡ b.date.year → a.date.day < b.date.day → Earlier a b
  by_hour : a.date ≡ b.date → a.time.hour < b.time.hour → Earlier a b
  by_minute : a.date ≡ b.date → a.time.hour ≡ b.time.hour → a.time.minute < b.time.minute → Earlier a b

-- a moment by its four numbers
abbrev pub at : ℕ → ℕ → ℕ → ℕ → Moment
at year day hour minute = record { date = record { year = year; day = day }; time = record { hour = hour; minute = minute } }

-- the minute after y, d, h and m: in the same hour, else the next hour, else the next day, else the next year
abbrev pub after : ℕ → ℕ → ℕ → ℕ → Moment
after y d h m = cond (ltb m 59) (at y d h (m + 1)) (cond (ltb h 23) (at y d (h + 1) 0) (cond (ltb d (days y)) (at y (d + 1) 0 0) (at (y + 1) 1 0 0)))

abbrev pub next : Moment → Moment
next m = after m.date.year m.date.day m.time.hour m.time.minute
