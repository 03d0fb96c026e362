use Rattle.std.proofs.Common.{rules}
use Rattle.tally_lines.specs.Laws.Underway.{underway_first, underway_ended, underway_stopped, underway_next}
use Rattle.tally_lines.proofs.count_ended.Goals as goal

pub loop-kept-init : goal.loop-kept-init
loop-kept-init c = search (underway_first, rules)

pub returns-then-end-input : goal.returns-then-end-input
returns-then-end-input c = underway_ended c.loop-kept.invariant c.find_end-end.ensures c.if-end-input.true

pub returns-then-count-limit : goal.returns-then-count-limit
returns-then-count-limit c = search (underway_stopped, rules)

pub loop-kept-preserved : goal.loop-kept-preserved
loop-kept-preserved c = search (underway_next, rules)
