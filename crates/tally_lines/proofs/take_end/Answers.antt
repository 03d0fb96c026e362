-- The last line is counted if it is not empty and the limit leaves room. Assumes nothing.
use Rattle.std.proofs.Common.{rules}
use Rattle.tally_lines.specs.Laws.Taken.{closed_none, closed_stopped, closed_line}
use Rattle.tally_lines.proofs.take_end.Goals as goal

pub returns-then-kept-eq0 : goal.returns-then-kept-eq0
returns-then-kept-eq0 c = search (closed_none, rules)

pub returns-then-count-limit : goal.returns-then-count-limit
returns-then-count-limit c = search (closed_stopped, rules)

pub returns : goal.returns
returns c = search (closed_line, rules)
