-- None of the rows that the loop has passed has the code sought.
use Rattle.bloodgroup.specs.Laws.Search.{in_row, not_in_row}
use Rattle.bloodgroup.proofs.search.Goals as goal

pub returns-in-Some : goal.returns-in-Some
returns-in-Some c = in_row c.loop-row-test.true c.in-Some.ensures

pub loop-row-preserved : goal.loop-row-preserved
loop-row-preserved c = not_in_row c.loop-row.invariant c.in_default.ensures
