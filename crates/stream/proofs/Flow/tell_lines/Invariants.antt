-- Each line is laid out behind what waits, and what waits is written as soon as it is a block.
use Rattle.std.proofs.Common.{◌-◌}
use Rattle.stream.specs.Laws.Moves.{Telling}
use Rattle.stream.proofs.Flow.tell_lines.Given as goal

abbrev pub invariant-loop-input : goal.invariant-loop-input
invariant-loop-input g l = Telling g.J.Job.line_of l.fn.self.bench.line l.fill l.at l.seen l.self l.clock

abbrev pub decreases-loop-input : goal.decreases-loop-input
decreases-loop-input g l = l.fill - l.seen
