-- An answer's number tells whether a record was changed.
use Rattle.std.proofs.Common.{eq-eqb, ne_eqb}
use Rattle.shelf.specs.Laws.Decide.{changed_in}
use Rattle.shelf.proofs.changed.Goals as goal

pub returns-then-answer-eq-ACCEPTED : goal.returns-then-answer-eq-ACCEPTED
unfolding changed_in
returns-then-answer-eq-ACCEPTED c = rw (eq-eqb _ _ c.if-answer-eq-ACCEPTED.true)

pub returns-else-answer-eq-ACCEPTED : goal.returns-else-answer-eq-ACCEPTED
unfolding changed_in
returns-else-answer-eq-ACCEPTED c = rw (ne_eqb _ _ c.if-answer-eq-ACCEPTED.false)
