-- Each way of the match is the bounds after those two digits.
use Rattle.std.proofs.Common.{◌≡◌, arith}
use Rattle.calendar.specs.Calendar.{leap_day}
use Rattle.calendar.specs.Laws.Date.{leap_day≤}
use Rattle.calendar.proofs.day_third.Goals as goal

pub returns-in_default-leap_day : goal.returns-in_default-leap_day
returns-in_default-leap_day c =
    let args = c.args in
    let is : args.tens ≡ 36 = omega arith in
    let leap : leap_day args.year ≡ 1 = omega (arith, leap_day≤ args.year) in
    rw (is, leap) c.is_between-in_default-leap_day.ensures
