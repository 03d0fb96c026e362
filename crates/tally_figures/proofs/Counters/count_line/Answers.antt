-- What is read is what is judged of the line. Assumes nothing.
use Rattle.std.proofs.Common.{rules}
use Rattle.tally_figures.specs.Laws.Counters.{adds_line}
use Rattle.tally_figures.proofs.Counters.count_line.Goals as goal

pub returns : goal.returns
returns c = search (adds_line, rules)
