-- What is added up so far is the length of the fields of the entries passed.
use Rattle.extract_line.specs.Laws.Fields.{Measuring}
use Rattle.extract_line.proofs.fields_length.Given as goal

abbrev pub invariant-loop-i : goal.invariant-loop-i
invariant-loop-i l = Measuring l.fn.message l.i l.long
