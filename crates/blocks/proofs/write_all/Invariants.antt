-- What was taken is a front of the text, and where bytes are left the last write took less than it was handed.
use Rattle.blocks.specs.Laws.Front.{Sending}
use Rattle.blocks.proofs.write_all.Given as goal

abbrev pub invariant-loop : goal.invariant-loop
invariant-loop l = Sending l.out l.fn.clock l.clock l.done l.counter
