-- Each entry passed is of the edition's kinds, and the first that is not ends the search.
use Rattle.std.proofs.Common.{ℕ, ◌<◌}
use Rattle.message_writer.specs.Laws.Shape.{SeatIn}
use Rattle.message_writer.specs.Laws.Writer.{entry_at}
use Rattle.message_writer.proofs.are_of_edition.Given as goal

abbrev pub invariant-loop-entry : goal.invariant-loop-entry
invariant-loop-entry l = (j : ℕ) → j < l.entry-index → SeatIn l.edition (entry_at l.message.entries j)
