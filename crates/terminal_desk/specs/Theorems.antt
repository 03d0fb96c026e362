-- What follows: each answer is the only one, and a number that stands for none is no answer's.
use Rattle.std.specs.Prelude.{ℕ, ◌≡◌, None}
use Rattle.calendar.specs.Calendar.{LawfulDate}
use Rattle.months.specs.declared.Day.{Day}
use Rattle.months.specs.Months.{LawfulDay}
use Rattle.bloodgroup.specs.Groups.{Stands, code_at}
use Rattle.terminal_desk.specs.declared.CGroup.{CGroup}
use Rattle.terminal_desk.specs.Desk.{GroupOf, NO_CODE, code_byte, DayOfYear, CalendarDayOf}
use Rattle.terminal_desk.specs.Laws.Desk as laws

-- one meaning for a gg
pub one_group : (gg0 gg1 : ℕ) (q r : CGroup) → GroupOf gg0 gg1 q → GroupOf gg0 gg1 r → q ≡ r
one_group gg0 gg1 q r x y = laws.one_group x y

-- known is 1 only for a gg of the table, with its row and column
pub known_stands : (gg0 gg1 : ℕ) (r : CGroup) → GroupOf gg0 gg1 r → r.known ≡ 1 → Stands gg0 gg1 r.row r.column
known_stands gg0 gg1 r x e = laws.known_stands x e

-- and 0 only for one outside it
pub unknown_stands : (gg0 gg1 : ℕ) (r : CGroup) → GroupOf gg0 gg1 r → r.known ≡ 0 → (row column : ℕ) → Stands gg0 gg1 row column → ⊥
unknown_stands gg0 gg1 r x e row column s = laws.unknown_stands x e row column s

-- 255 is outside the table alone
pub no_code_only : (row column : ℕ) → code_byte (code_at row column) ≡ NO_CODE → code_at row column ≡ None
no_code_only row column e = laws.no_code_only row column e

-- one number for a calendar day
pub one_day_of_year : (d : Day) (n m : ℕ) → DayOfYear d n → DayOfYear d m → n ≡ m
one_day_of_year d n m x y = laws.one_day_of_year x y

-- 0 for what is no day alone
pub no_day_only : (d : Day) → DayOfYear d 0 → LawfulDay d → ⊥
no_day_only d x h = laws.no_day_only x h

-- one calendar day for an ordinal day
pub one_calendar_day : (year day : ℕ) (q r : Day) → CalendarDayOf year day q → CalendarDayOf year day r → q ≡ r
one_calendar_day year day q r x y = laws.one_calendar_day x y

-- month 0 where the year has no such day alone
pub no_month_only : (year day : ℕ) (r : Day) → CalendarDayOf year day r → r.month ≡ 0 → LawfulDate (record { year = year; day = day }) → ⊥
no_month_only year day r x e h = laws.no_month_only x e h
