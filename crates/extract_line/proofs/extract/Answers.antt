-- A refusal comes before any byte is stored; else the line is laid into the room that was asked for.
use Rattle.std.proofs.Common.{rules}
use Rattle.label.specs.declared.Edition.{Edition}
use Rattle.message.specs.Laws.Answers.{accepted_reading}
use Rattle.extract_line.proofs.extract.Goals as goal

pub fields_length-needed-requires : goal.fields_length-needed-requires
fields_length-needed-requires c =
    let scan = c.args.scan.now in
    (scan, (accepted_reading Edition.Current scan c.read-reading.result c.read-reading.ensures (search rules)).0)

pub lay_line-requires-clause-produces : goal.lay_line-requires-clause-produces
lay_line-requires-clause-produces c =
    (accepted_reading Edition.Current c.args.scan.now c.read-reading.result c.read-reading.ensures (search rules)).0
