-- A digit more is written, in front of the others.
use Rattle.text.specs.Laws.Laid.{digits_next}
use Rattle.text.proofs.write_digits.Goals as goal

pub loop-left-preserved : goal.loop-left-preserved
loop-left-preserved c = digits_next c.loop-left.invariant c.loop-left-test.true
