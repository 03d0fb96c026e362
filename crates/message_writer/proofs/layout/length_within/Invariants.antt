-- What is added up so far is the length of the entries passed.
use Rattle.std.proofs.Common.{◌*◌, ◌≤◌, ◌≡◌, length}
use Rattle.message.specs.Grammar.{in_turn}
use Rattle.message_writer.specs.Laws.Writer.{within}
use Rattle.message_writer.proofs.layout.length_within.Given as goal

abbrev pub invariant-loop-entry : goal.invariant-loop-entry
invariant-loop-entry g l =
    (l.long ≡ length (in_turn g.L.Layout.bytes (within l.message.entries l.entry-index))) × (l.long ≤ 23 * l.entry-index)
