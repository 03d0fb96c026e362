-- W-202: "The calendar day converts to the ordinal day and back": what each way answers, for every input.
use Rattle.std.specs.Prelude.{◌≡◌, Option, Some, None}
use Rattle.calendar.specs.declared.Date.{Date}
use Rattle.months.specs.declared.Day.{Day}
use Rattle.months.specs.Months.{LawfulDay, date_on}

-- a lawful calendar day is its date; any other is no day
pub data ToOrdinal (d : Day) (r : Option Date) : Type 0 where
  its_date : LawfulDay d → r ≡ Some (date_on d) → ToOrdinal d r
  unlawful : (LawfulDay d → ⊥) → r ≡ None → ToOrdinal d r

-- the lawful calendar day whose date it is, where there is one
pub data FromOrdinal (t : Date) (r : Option Day) : Type 0 where
  its_day : (d : Day) → LawfulDay d → date_on d ≡ t → r ≡ Some d → FromOrdinal t r
  of_no_day : ((d : Day) → LawfulDay d → date_on d ≡ t → ⊥) → r ≡ None → FromOrdinal t r
