use Rattle.std.proofs.Common.{rules}
use Rattle.stream.specs.Laws.Jobs.{lays_extract}
use Rattle.stream.proofs.ExtractJob.lay.Goals as goal

pub returns : goal.returns
returns c = search (lays_extract, rules)
