-- Each entry passed is lawful, and the first that is not ends the search.
use Rattle.std.proofs.Common.{ℕ, ◌<◌}
use Rattle.structure.specs.Structures.{Lawful}
use Rattle.message_writer.specs.Laws.Writer.{entry_at}
use Rattle.message_writer.proofs.first_unlawful.Given as goal

abbrev pub invariant-loop-i : goal.invariant-loop-i
invariant-loop-i l = (j : ℕ) → j < l.i → Lawful (entry_at l.message.entries j)
