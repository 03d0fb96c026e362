-- The places passed and the first wanted of the rest are the whole list's first.
use Rattle.shelf.specs.Laws.Search.{Left}
use Rattle.shelf_list.proofs.first.Given as goal

abbrev pub invariant-loop-i : goal.invariant-loop-i
invariant-loop-i l = Left l.records l.want l.i
