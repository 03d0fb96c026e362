-- The bytes before this one have their answers.
use Rattle.could_stand.specs.Laws.Each.{Turn}
use Rattle.could_stand.proofs.stand_each.Given as goal

abbrev pub invariant-loop-b : goal.invariant-loop-b
invariant-loop-b l = Turn l.edition l.initial.bytes l.place l.size l.b l.bytes l.stands
