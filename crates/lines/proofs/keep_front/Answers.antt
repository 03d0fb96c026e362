-- What is copied is what will be judged.
use Rattle.std.proofs.Common.{rules}
use Rattle.lines.specs.Laws.Kept.{kept_front}
use Rattle.lines.proofs.keep_front.Goals as goal

pub returns : goal.returns
returns c = search (kept_front, rules)
