-- One store lays the byte.
use Rattle.std.proofs.Common.{[], ◌∷◌, arith}
use Rattle.text.specs.Laws.Laid.{laid_stores}
use Rattle.structure_writer.proofs.write.put.Goals as goal

pub returns : goal.returns
returns c = laid_stores c.args.at (c.args.b ∷ []) c.args.part.now (omega arith)
