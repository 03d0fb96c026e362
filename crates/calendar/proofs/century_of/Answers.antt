-- The two ways of the test are the two cases of the rule.
use borrow.Author.Tests.{lt-ltb, le-ltb}
use Rattle.calendar.specs.Calendar.{century_of}
use Rattle.calendar.proofs.century_of.Goals as goal

pub returns-then-year-lt2000 : goal.returns-then-year-lt2000
unfolding century_of
returns-then-year-lt2000 c = rw (lt-ltb c.args.year 2000 c.if-year-lt2000.true)

pub returns-else-year-lt2000 : goal.returns-else-year-lt2000
unfolding century_of
returns-else-year-lt2000 c = rw (le-ltb c.args.year 2000 c.if-year-lt2000.false)
