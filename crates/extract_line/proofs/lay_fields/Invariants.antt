-- The fields of the entries passed stand behind form and bbb, and the cursor past them.
use Rattle.extract_line.specs.Laws.Fields.{Laying}
use Rattle.extract_line.proofs.lay_fields.Given as goal

abbrev pub invariant-loop-i : goal.invariant-loop-i
invariant-loop-i l = Laying l.fn.message l.fn.buffer l.buffer l.i l.at
