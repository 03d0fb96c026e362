-- The tests together are those of every field, with the E rule.
use Rattle.text.specs.Laws.Decides.{decides_same}
use Rattle.structure_writer.specs.Laws.Lawful.{product_tells}
use Rattle.structure_writer.proofs.lawful.is_product.Goals as goal

pub returns : goal.returns
returns c = decides_same (cc) (product_tells c.args.p)
