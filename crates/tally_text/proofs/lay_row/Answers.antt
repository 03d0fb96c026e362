-- The name, the blank, the figure and the LF stand one behind the other. Assumes nothing.
use Rattle.std.proofs.Common.{rules}
use Rattle.tally_text.specs.Laws.Rows.{lays_row}
use Rattle.tally_text.proofs.lay_row.Goals as goal

pub returns : goal.returns
returns c = search (lays_row, rules)
