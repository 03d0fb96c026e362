-- An expiry is that of an 004 or of an 005, and timed says of which.
use Rattle.std.proofs.Common.{rules}
use Rattle.shelf.specs.Laws.Decide.{dated_tells, timed_tells}
use Rattle.shelf.proofs.is_expiry.Goals as goal

pub returns-in-0 : goal.returns-in-0
returns-in-0 c =
    dated_tells (search rules) (rw c.date.ensures at c.is_lawful_date-date.ensures)

pub returns-in-1 : goal.returns-in-1
returns-in-1 c =
    timed_tells (search rules) (rw c.date.ensures at c.is_lawful_date-date.ensures)
    (rw c.time.ensures at c.is_lawful_time-time.ensures)
