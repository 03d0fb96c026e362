use Rattle.std.proofs.Common.{rules}
use Rattle.blocks.specs.Laws.Front.{reads_behind}
use Rattle.blocks.proofs.read_block.Goals as goal

pub returns : goal.returns
returns c = reads_behind c.args.kept _ _ _ _ _ (search rules) (search rules) c.read.result c.read.ensures
