-- What is read is what is judged of the line, and the test of its number is that of the definition.
use Rattle.std.proofs.Common.{rules}
use Rattle.lines.specs.Laws.Judged.{judged_accepted, judged_refused}
use Rattle.lines.proofs.judge.Goals as goal

pub returns-then-reading-eq-ACCEPTED : goal.returns-then-reading-eq-ACCEPTED
returns-then-reading-eq-ACCEPTED c = search (judged_accepted, rules)

pub returns-else-reading-eq-ACCEPTED : goal.returns-else-reading-eq-ACCEPTED
returns-else-reading-eq-ACCEPTED c = search (judged_refused, rules)
