-- The tests together are those of every field.
use Rattle.text.specs.Laws.Decides.{decides_same}
use Rattle.structure_writer.specs.Laws.Lawful.{lot_tells}
use Rattle.structure_writer.proofs.lawful.is_lot.Goals as goal

pub returns : goal.returns
returns c = decides_same (cc) (lot_tells c.args.l)
