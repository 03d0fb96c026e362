-- No line is left, or one, which is laid out. Assumes nothing.
use Rattle.std.proofs.Common.{rules}
use Rattle.stream.specs.Laws.Telling.{closing_line}
use Rattle.stream.proofs.Flow.finish.Goals as goal

pub close-requires-2-clause-closing : goal.close-requires-2-clause-closing
close-requires-2-clause-closing g c =
    closing_line g.met.J.Job.judging c.requires.between (search rules) c.lay-end.ensures
