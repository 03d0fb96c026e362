-- None of the columns that the loop has passed has the code sought.
use Rattle.bloodgroup.specs.Laws.Search.{in_column, not_there}
use Rattle.bloodgroup.proofs.column_of.Goals as goal

pub returns-then-code_number-n : goal.returns-then-code_number-n
returns-then-code_number-n c = in_column c.loop-column-test.true c.loop-column.invariant c.code_number.ensures c.if-code_number-n.true

pub loop-column-preserved : goal.loop-column-preserved
loop-column-preserved c = not_there c.loop-column.invariant c.code_number.ensures c.if-code_number-n.false
