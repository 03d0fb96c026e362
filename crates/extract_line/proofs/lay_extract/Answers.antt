-- What is extracted is what is judged of the line, and there is room for it.
use Rattle.std.proofs.Common.{rules}
use Rattle.extract_line.specs.Laws.Lines.{lays_extracted, lays_refused}
use Rattle.extract_line.proofs.lay_extract.Goals as goal

pub returns-then-extracted-eq-ACCEPTED : goal.returns-then-extracted-eq-ACCEPTED
returns-then-extracted-eq-ACCEPTED c =
    (lays_extracted c.args.line.now c.args.out.now c.args.at c.requires c.judged_length-end.ensures c.extract-extracted.ensures
    (search rules)).0

pub returns : goal.returns
returns c =
    lays_refused c.args.line.now c.args.out.now c.args.at c.requires c.judged_length-end.ensures c.extract-extracted.ensures
    (search rules)
