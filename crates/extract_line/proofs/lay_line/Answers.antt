-- Form, bbb, fields and LF stand one behind the other.
use Rattle.extract_line.specs.Laws.Parts.{lays_line}
use Rattle.extract_line.proofs.lay_line.Goals as goal

pub returns : goal.returns
returns c =
    let named = c.letter_of.ensures in
    let laid = c.lay_fields-end.ensures in
    lays_line c.args.message c.args.buffer.now c.requires.room named c.write_digits.ensures laid.laid_out laid.end
