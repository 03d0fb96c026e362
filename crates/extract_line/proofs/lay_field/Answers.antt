-- Number, blanks and what is shown stand one behind the other.
use Rattle.std.proofs.Common.{arith, set}
use Rattle.text.specs.Laws.Laid.{part_laid}
use Rattle.extract_line.specs.Extract.{shown}
use Rattle.extract_line.specs.Laws.Parts.{lays_field}
use Rattle.extract_line.proofs.lay_field.Goals as goal

pub returns : goal.returns
returns c =
    let x = c.args.entry.structure in
    let here = set c.write_digits.new.buffer 4 32 in
    lays_field x c.args.part.now (omega arith) c.write_digits.ensures c.number_of.ensures
    (part_laid 5 (shown x) here c.lay_shown.ensures)
