-- Blood groups and days in C: the answers of `group_of`, `code_at` and the calendar as numbers.
use Rattle.std.specs.Prelude.{ℕ, ◌≡◌, Option, Some, None}
use Rattle.calendar.specs.declared.Date.{Date}
use Rattle.months.specs.declared.Day.{Day}
use Rattle.months.specs.Ordinal.{ToOrdinal, FromOrdinal}
use Rattle.bloodgroup.specs.Groups.{Means}
use Rattle.terminal_desk.specs.declared.CGroup.{CGroup}

-- "its row and column", or zeros for what is "uninterpreted"
abbrev pub group_in_c : Option (ℕ × ℕ) → CGroup
group_in_c (Some (row, column)) = record { known = 1; row = row; column = column }
group_in_c None = record { known = 0; row = 0; column = 0 }

-- what a gg means, in C's form
pub record GroupOf (gg0 gg1 : ℕ) (r : CGroup) : Type 0 where
  pub group : Option (ℕ × ℕ)
  pub means : Means gg0 gg1 group
  pub is : r ≡ group_in_c group

-- for "no code": no code number has three digits
abbrev pub NO_CODE : ℕ
NO_CODE = 255

-- a code as a byte
abbrev pub code_byte : Option ℕ → ℕ
code_byte (Some n) = n
code_byte None = NO_CODE

-- an ordinal day as a number; no day has the number 0
abbrev pub day_number : Option Date → ℕ
day_number (Some t) = t.day
day_number None = 0

-- W-202: the ordinal day of a calendar day
pub record DayOfYear (d : Day) (n : ℕ) : Type 0 where
  pub ordinal : Option Date
  pub converts : ToOrdinal d ordinal
  pub is : n ≡ day_number ordinal

-- a calendar day, or month and day 0 in the year that was asked for
abbrev pub day_in : ℕ → Option Day → Day
day_in year (Some d) = d
day_in year None = record { year = year; month = 0; day = 0 }

-- W-202: the calendar day of an ordinal day
pub record CalendarDayOf (year day : ℕ) (r : Day) : Type 0 where
  pub calendar : Option Day
  pub converts : FromOrdinal (record { year = year; day = day }) calendar
  pub is : r ≡ day_in year calendar
