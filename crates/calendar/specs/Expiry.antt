-- A date with or without a time, in one struct of numbers: W-207's expiry (004 or 005), W-210's, and a date structure's date in C.
use Rattle.std.specs.Prelude.{ℕ}
use Rattle.calendar.specs.declared.Date.{Date}
use Rattle.calendar.specs.declared.Time.{Time}
use Rattle.calendar.specs.declared.Expiry.{Expiry}

-- without a time, as an 004 has it; the padding byte is C's, and has no meaning
abbrev pub untimed : ℕ → Date → Expiry
untimed pad d = record { year = d.year; day = d.day; timed = 0; hour = 0; minute = 0; pad = pad }

-- none: all zeros
abbrev pub no_expiry : Expiry
no_expiry = untimed 0 record { year = 0; day = 0 }

-- with one, as an 005 has it
abbrev pub timed : ℕ → Date → Time → Expiry
timed pad d t = record { year = d.year; day = d.day; timed = 1; hour = t.hour; minute = t.minute; pad = pad }

-- the date in it
abbrev pub date_in : Expiry → Date
date_in e = record { year = e.year; day = e.day }

-- and what stands for its time
abbrev pub time_in : Expiry → Time
time_in e = record { hour = e.hour; minute = e.minute }
