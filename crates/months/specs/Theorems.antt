-- W-202: what follows from the table of months: calendar days and ordinal days are the same days, and the two ways are inverse.
use Rattle.std.specs.Prelude.{ℕ, ◌≡◌, refl, Option, Some}
use Rattle.std.proofs.Common.{sym, ap, ◌∙◌, arith}
use Rattle.calendar.specs.Calendar.{LawfulDate}
use Rattle.calendar.specs.declared.Date.{Date}
use Rattle.months.specs.declared.Day.{Day}
use Rattle.months.specs.Months.{LawfulDay, date_on}
use Rattle.months.specs.Ordinal.{ToOrdinal, its_date, unlawful, FromOrdinal, its_day, of_no_day}
use Rattle.months.specs.Laws.Ordinal as laws

-- a lawful calendar day is a lawful date
pub lawful_date : (d : Day) → LawfulDay d → LawfulDate (date_on d)
lawful_date d h = laws.date_lawful h

-- every lawful date is a lawful calendar day
pub lawful_day : (t : Date) → LawfulDate t → (d : Day) × LawfulDay d × (date_on d ≡ t)
lawful_day t h = let (d, x) = laws.day_there t h in (d, x.lawful, x.date)

-- and only one
pub one_day : (c d : Day) → LawfulDay c → LawfulDay d → date_on c ≡ date_on d → c ≡ d
one_day c d g h e = laws.same_day g h e

-- each way has one answer: `to_ordinal`'s contract and `from_ordinal`'s leave no other
pub one_ordinal : (d : Day) (q r : Option Date) → ToOrdinal d q → ToOrdinal d r → q ≡ r
one_ordinal d q r x y = laws.one_ordinal x y

pub one_calendar : (t : Date) (q r : Option Day) → FromOrdinal t q → FromOrdinal t r → q ≡ r
one_calendar t q r x y = laws.one_calendar x y

-- a lawful day has a date, a lawful date has a day
pub has_date : (d : Day) (r : Option Date) → LawfulDay d → ToOrdinal d r → r ≡ Some (date_on d)
has_date d r h x = laws.one_ordinal x (its_date h refl)

pub has_day : (t : Date) (r : Option Day) → LawfulDate t → FromOrdinal t r → (d : Day) × LawfulDay d × (r ≡ Some d)
has_day t r h x = let (d, y) = laws.day_there t h in (d, y.lawful, laws.one_calendar x (its_day d y.lawful y.date refl))

-- to the ordinal day and back is the calendar day one came from
pub there_and_back : (d : Day) (t : Date) (r : Option Day) → ToOrdinal d (Some t) → FromOrdinal t r → r ≡ Some d
there_and_back d t r (its_date h e) x = let same : date_on d ≡ t = cc in laws.one_calendar x (its_day d h same refl)
there_and_back d t r (unlawful h e) x = let z : ◌≡◌ {A = ℕ} 0 1 = cc in absurd (omega arith)

-- and to the calendar day and back is the ordinal day
pub back_and_there : (t : Date) (d : Day) (r : Option Date) → FromOrdinal t (Some d) → ToOrdinal d r → r ≡ Some t
back_and_there t d r (its_day c h y e) x =
    let same : c ≡ d = cc in
    laws.one_ordinal x (its_date (rw same at h) (ap Some (sym y ∙ ap date_on same)))
back_and_there t d r (of_no_day h e) x = let z : ◌≡◌ {A = ℕ} 0 1 = cc in absurd (omega arith)
