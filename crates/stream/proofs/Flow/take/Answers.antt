use Rattle.std.proofs.Common.{rules}
use Rattle.stream.specs.Laws.Telling.{taken_next}
use Rattle.stream.proofs.Flow.take.Goals as goal

pub returns-in-Some : goal.returns-in-Some
returns-in-Some g c =
    taken_next c.in-Some.ensures (search rules) c.keep_front-kept.ensures
