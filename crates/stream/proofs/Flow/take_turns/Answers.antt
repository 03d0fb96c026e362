use Rattle.std.proofs.Common.{rules}
use Rattle.stream.specs.Laws.Stream.{stream_owing}
use Rattle.stream.specs.Laws.Telling.{first_between}
use Rattle.stream.proofs.Flow.take_turns.Goals as goal

pub loop-init : goal.loop-init
loop-init g c = (first_between c.requires.first (search rules) (search rules) (search rules), search rules)

pub send-requires-clause-owing : goal.send-requires-clause-owing
send-requires-clause-owing g c = stream_owing c.in-Failed.ensures.0.stream

pub send-requires-2-clause-owing : goal.send-requires-2-clause-owing
send-requires-2-clause-owing g c = stream_owing c.loop.invariant.0.stream
