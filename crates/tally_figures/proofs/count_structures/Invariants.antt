-- The structures passed are counted, each by the two bytes it begins with.
use Rattle.std.proofs.Common.{◌-◌}
use Rattle.tally_figures.specs.Laws.Walked.{Passed}
use Rattle.tally_figures.proofs.count_structures.Given as goal

abbrev pub invariant-loop : goal.invariant-loop
invariant-loop l = Passed l.fn.message l.line l.at l.counter l.fn.kinds l.kinds

abbrev pub decreases-loop : goal.decreases-loop
decreases-loop l = l.fn.message.count - l.counter
