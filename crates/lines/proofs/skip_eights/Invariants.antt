-- Each eight that is passed has no LF.
use Rattle.std.proofs.Common.{◌-◌, length}
use Rattle.lines.specs.Laws.Lines.{Passed}
use Rattle.lines.proofs.skip_eights.Given as goal

abbrev pub invariant-loop-i : goal.invariant-loop-i
invariant-loop-i l = Passed l.input l.start l.i

abbrev pub decreases-loop-i : goal.decreases-loop-i
decreases-loop-i l = length l.input - l.i
