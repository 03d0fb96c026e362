-- The lines up to the last LF found are counted, no more than the limit.
use Rattle.std.proofs.Common.{length, ◌-◌}
use Rattle.tally_lines.specs.Laws.Underway.{Underway}
use Rattle.tally_lines.proofs.count_ended.Given as goal

abbrev pub invariant-loop-kept : goal.invariant-loop-kept
invariant-loop-kept l =
    Underway l.input l.kept l.limit l.first l.fn.counters l.at l.seen l.count l.counters

abbrev pub decreases-loop-kept : goal.decreases-loop-kept
decreases-loop-kept l = length l.input - l.seen
