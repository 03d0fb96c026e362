-- The digits behind the index are written, and the rest is the number without them.
use Rattle.text.specs.Laws.Laid.{DigitsFrom}
use Rattle.text.proofs.write_digits.Given as goal

abbrev pub invariant-loop-left : goal.invariant-loop-left
invariant-loop-left l = DigitsFrom l.at l.count l.value l.initial.buffer l.buffer l.left l.rest
