-- What is added up so far is the length of the fields of the entries passed.
use Rattle.std.proofs.Common.{rules}
use Rattle.extract_line.specs.Laws.Fields.{measured, measuring_next}
use Rattle.extract_line.proofs.fields_length.Goals as goal

pub field_length-long-requires : goal.field_length-long-requires
field_length-long-requires c = measured c.requires.1 (search rules)

pub loop-i-preserved : goal.loop-i-preserved
loop-i-preserved c =
    measuring_next c.requires.1 c.loop-i.invariant (search rules)
    c.field_length-long.ensures
