-- None of the columns that the loop has passed has the code sought.
use Rattle.bloodgroup.specs.Laws.Search.{NoneBefore}
use Rattle.bloodgroup.proofs.column_of.Given as goal

abbrev pub invariant-loop-column : goal.invariant-loop-column
invariant-loop-column l = NoneBefore l.row l.n l.column
