-- What came is counted at each turn; the end, the limit or an error closes it.
use Rattle.tally_stream.specs.Laws.Turns.{Going, Came}
use Rattle.tally_stream.proofs.count_input.Given as goal

abbrev pub invariant-loop : goal.invariant-loop
invariant-loop l =
    Going l.limit l.progress l.counters
    × Came l.limit l.clock l.progress l.buffer l.counters
