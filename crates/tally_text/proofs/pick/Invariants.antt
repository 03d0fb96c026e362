-- The counters at the places passed are stored.
use Rattle.tally_text.specs.Laws.Picked.{Picking}
use Rattle.tally_text.proofs.pick.Given as goal

abbrev pub invariant-loop-i : goal.invariant-loop-i
invariant-loop-i l = Picking l.at l.places l.counters l.fn.figures l.i l.figures
