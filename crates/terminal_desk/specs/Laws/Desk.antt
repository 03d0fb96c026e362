-- From the theorems about groups and days to those about their answers as numbers.
use Rattle.std.specs.Prelude.{ℕ, ◌≤◌, ◌<◌, ◌≡◌, refl, ◌&&◌, ltb, Option, Some, None}
use Rattle.std.proofs.Common.{sym, ap, ◌∙◌, ⊎_elim, arith, ltb-true}
use Rattle.text.specs.Laws.Bytes.{both}
use Rattle.text.specs.Laws.Choice.{by_test}
use Rattle.calendar.specs.Calendar.{LawfulDate}
use Rattle.months.specs.declared.Day.{Day}
use Rattle.months.specs.Months.{LawfulDay, date_on}
use Rattle.months.specs.Ordinal.{ToOrdinal}
use Rattle.months.specs.Theorems as months
use Rattle.bloodgroup.specs.Table.{rows, code_number}
use Rattle.bloodgroup.specs.Groups.{Stands, code_at, Means, in_table, any_other}
use Rattle.bloodgroup.specs.Theorems as bloodgroup
use Rattle.bloodgroup.specs.Laws.Groups.{stands_there}
use Rattle.bloodgroup.specs.Laws.Table.{below_hundred}
use Rattle.terminal_desk.specs.declared.CGroup.{CGroup}
use Rattle.terminal_desk.specs.Desk.{group_in_c, GroupOf, NO_CODE, code_byte, day_number, DayOfYear, day_in, CalendarDayOf}

pub one_group : {gg0 gg1 : ℕ} {q r : CGroup} → GroupOf gg0 gg1 q → GroupOf gg0 gg1 r → q ≡ r
one_group {gg0} {gg1} x y =
    x.is ∙ ap group_in_c (bloodgroup.one_group gg0 gg1 x.group y.group x.means y.means) ∙ sym y.is

module _ {gg0 gg1 : ℕ} {r : CGroup} where
  pub known_stands : GroupOf gg0 gg1 r → r.known ≡ 1 → Stands gg0 gg1 r.row r.column
  known_stands x e = by x.group refl
    where
      by : (g : Option (ℕ × ℕ)) → x.group ≡ g → Stands gg0 gg1 r.row r.column
      by (Some (row, column)) is = rw (x.is, is) (stands_there (rw is at x.means))
      by None is = let zero : r.known ≡ 0 = rw (x.is, is) in absurd (omega arith)

  pub unknown_stands : GroupOf gg0 gg1 r → r.known ≡ 0 → (row column : ℕ) → Stands gg0 gg1 row column → ⊥
  unknown_stands x e row column s =
      let same = bloodgroup.one_group gg0 gg1 x.group (Some (row, column)) x.means (in_table s refl) in
      let one : r.known ≡ 1 = rw (x.is, same) in
      omega arith

pub no_code_only : (row column : ℕ) → code_byte (code_at row column) ≡ NO_CODE → code_at row column ≡ None
no_code_only row column e =
    ⊎_elim
    (λ w.
    let (g, h) = both _ _ w.0 in
    let small = below_hundred row column (ltb-true row rows g) (ltb-true column 8 h) in
    let is : code_number row column ≡ NO_CODE = sym (ap code_byte w.1) ∙ e in
    absurd (omega arith)) (λ w. w.1) (by_test (Some (code_number row column)) None (ltb row rows && ltb column 8))

pub one_day_of_year : {d : Day} {n m : ℕ} → DayOfYear d n → DayOfYear d m → n ≡ m
one_day_of_year {d} x y =
    x.is ∙ ap day_number (months.one_ordinal d x.ordinal y.ordinal x.converts y.converts) ∙ sym y.is

pub no_day_only : {d : Day} → DayOfYear d 0 → LawfulDay d → ⊥
no_day_only {d} x h =
    let number : 0 ≡ (date_on d).day = x.is ∙ ap day_number (months.has_date d x.ordinal h x.converts) in
    omega (arith, (months.lawful_date d h).first_day)

pub one_calendar_day : {year day : ℕ} {q r : Day} → CalendarDayOf year day q → CalendarDayOf year day r → q ≡ r
one_calendar_day {year} {day} x y =
    let one = months.one_calendar (record { year = year; day = day }) x.calendar y.calendar x.converts y.converts in
    x.is ∙ ap (day_in year) one ∙ sym y.is

pub no_month_only : {year day : ℕ} {r : Day} → CalendarDayOf year day r → r.month ≡ 0 → LawfulDate (record { year = year; day = day }) → ⊥
no_month_only {year} {day} x e h =
    let (d, lawful, is) = months.has_day (record { year = year; day = day }) x.calendar h x.converts in
    let month : d.month ≡ 0 = sym (ap (λ (c : Day). c.month) (x.is ∙ ap (day_in year) is)) ∙ e in
    let last = rw month at lawful.last_day in
    omega (arith, lawful.first_day)
