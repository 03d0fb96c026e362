-- What is counted so far is how many of the entries passed are 001s.
use Rattle.std.proofs.Common.{◌≤◌, ◌≡◌}
use Rattle.message.specs.Grammar.{donations}
use Rattle.message_writer.specs.Laws.Writer.{within}
use Rattle.message_writer.proofs.one_donation.Given as goal

abbrev pub invariant-loop-entry : goal.invariant-loop-entry
invariant-loop-entry l = (l.held ≡ donations (within l.message.entries l.entry-index)) × (l.held ≤ l.entry-index)
