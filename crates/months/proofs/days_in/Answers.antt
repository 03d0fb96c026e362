-- Past the table there is no month, and only the second one has the leap day.
use Rattle.std.proofs.Common.{◌≡◌, arith}
use Rattle.calendar.specs.Laws.Date.{leap_day≤}
use Rattle.months.proofs.days_in.Goals as goal

pub overflow_add-result : goal.overflow_add-result
overflow_add-result c =
    let is : c.args.month ≡ 2 = omega arith in
    rw is (omega (arith, leap_day≤ c.args.year))
