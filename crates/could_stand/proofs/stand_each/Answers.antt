-- The bytes before this one have their answers.
use Rattle.std.proofs.Common.{arith}
use Rattle.could_stand.specs.Laws.Each.{next_turn}
use Rattle.could_stand.proofs.stand_each.Goals as goal

pub loop-b-preserved : goal.loop-b-preserved
loop-b-preserved c = next_turn c.loop-b.invariant (omega arith) (omega arith) c.place_of.ensures
