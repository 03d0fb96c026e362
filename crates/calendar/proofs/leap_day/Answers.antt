-- Each way is one case of the leap rule.
use Rattle.std.proofs.Common.{rules}
use Rattle.calendar.specs.Laws.Date.{no_fourth, no_century, fourth_century, other_century}
use Rattle.calendar.proofs.leap_day.Goals as goal

pub returns-then-year-ne0 : goal.returns-then-year-ne0
returns-then-year-ne0 c = search (no_fourth, rules)

pub returns-then-year-ne0-2 : goal.returns-then-year-ne0-2
returns-then-year-ne0-2 c = search (no_century, rules)

pub returns-then-year-eq0 : goal.returns-then-year-eq0
returns-then-year-eq0 c = search (fourth_century, rules)

pub returns-else-year-eq0 : goal.returns-else-year-eq0
returns-else-year-eq0 c = search (other_century, rules)
