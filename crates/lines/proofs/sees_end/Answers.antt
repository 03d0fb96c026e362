-- Where no test passes, none of the eight bytes is an LF.
use Rattle.std.proofs.Common.{rules}
use Rattle.lines.specs.Laws.Lines.{passed_eight}
use Rattle.lines.proofs.sees_end.Goals as goal

pub returns : goal.returns
returns c = passed_eight (search rules)
