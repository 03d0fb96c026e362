-- The three numbers stand one behind the other, with room to spare.
use Rattle.std.proofs.Common.{rules}
use Rattle.lines.specs.Laws.Laid.{lays_line}
use Rattle.lines.proofs.report_line.Goals as goal

pub returns : goal.returns
returns c = search (lays_line, rules)
