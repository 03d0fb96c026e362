-- The entries passed are laid from the start on, and the cursor stands past them.
use Rattle.message_writer.specs.Laws.Writer.{Writing}
use Rattle.message_writer.proofs.layout.lay_within.Given as goal

abbrev pub invariant-loop-entry : goal.invariant-loop-entry
invariant-loop-entry g l = Writing g.L.Layout.bytes l.start l.message.entries l.message.count l.initial.buffer l.buffer l.entry-index l.at
