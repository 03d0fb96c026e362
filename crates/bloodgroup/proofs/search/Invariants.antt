-- None of the rows that the loop has passed has the code sought.
use Rattle.bloodgroup.specs.Laws.Search.{NoneAbove}
use Rattle.bloodgroup.proofs.search.Given as goal

abbrev pub invariant-loop-row : goal.invariant-loop-row
invariant-loop-row l = NoneAbove l.n l.row
