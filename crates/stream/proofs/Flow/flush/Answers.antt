-- Nothing is taken of less than a block, and all of a block. Assumes nothing.
use Rattle.std.proofs.Common.{rules, [], refl}
use Rattle.calls.specs.Calls.{moved_still}
use Rattle.stream.proofs.Flow.flush.Goals as goal

pub returns-then-used-lt-BLOCK : goal.returns-then-used-lt-BLOCK
returns-then-used-lt-BLOCK g c = (search rules, ([], moved_still, refl))
