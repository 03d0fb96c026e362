-- What is between two turns holds at each; there are more numbers than lines that so many turns can bring.
use Rattle.std.proofs.Common.{◌+◌, ◌*◌, ◌≤◌}
use Rattle.blocks.specs.Reads.{INPUT_ROOM}
use Rattle.stream.specs.Laws.Moves.{Between}
use Rattle.stream.proofs.Flow.take_turns.Given as goal

abbrev pub invariant-loop : goal.invariant-loop
invariant-loop g l = Between g.J.Job.line_of l.self l.clock × (l.self.bench.line ≤ 1 + INPUT_ROOM * l.counter)
