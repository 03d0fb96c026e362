use Rattle.std.proofs.Common.{rules, refl}
use Rattle.stream.specs.Laws.Stream.{stream_owing}
use Rattle.stream.specs.Laws.Telling.{telling_all, telling_line, telling_next}
use Rattle.stream.proofs.Flow.tell_lines.Goals as goal

pub returns-then-end-input : goal.returns-then-end-input
returns-then-end-input g c = telling_all c.loop-input.invariant c.find_end-end.ensures c.if-end-input.true

pub flush-requires-clause-owing : goal.flush-requires-clause-owing
flush-requires-clause-owing g c =
    stream_owing
    (telling_line c.loop-input.invariant c.find_end-end.ensures g.met.J.Job.judging c.if-end-input.false
    c.judged_length.ensures refl c.lay-self.ensures)

pub loop-input-preserved : goal.loop-input-preserved
loop-input-preserved g c =
    telling_next c.loop-input.invariant c.find_end-end.ensures g.met.J.Job.judging c.if-end-input.false
    c.judged_length.ensures refl c.lay-self.ensures (search rules) c.in_ok-self.field-0 c.in_ok-self.ensures
