-- Days 1 to 365 are lawful in every year that cyy names, and day 366 in a leap year.
use Rattle.std.proofs.Common.{◌∙◌, ap}
use Rattle.calendar.specs.Calendar.{leap_day}
use Rattle.calendar.specs.Laws.Lawful.{last_day, no_day}
use Rattle.calendar.proofs.is_date.Goals as goal

pub returns-then-day-eq366 : goal.returns-then-day-eq366
returns-then-day-eq366 c =
    last_day c.requires c.read_digits-day.ensures c.if-day-eq366.true
    (c.leap_day.ensures ∙ ap leap_day c.year_of.ensures)

pub returns-else-day-eq366 : goal.returns-else-day-eq366
returns-else-day-eq366 c = no_day c.requires c.read_digits-day.ensures c.if-day.false c.if-day-eq366.false
