-- The number is counted, and of an accepted reading the form and the structures. Assumes nothing.
use Rattle.std.proofs.Common.{rules, arith}
use Rattle.message.specs.Laws.Answers.{accepted_reading}
use Rattle.tally_figures.specs.Laws.Counts.{room_at}
use Rattle.tally_figures.specs.Laws.Readings.{countable, number_low}
use Rattle.tally_figures.proofs.Counters.count_reading.Goals as goal

pub count_at-requires : goal.count_at-requires
count_at-requires c =
    let room = room_at c.requires.low.numbers (number_low (countable _ _ _ c.requires.answers)) (omega arith) in
    record { counter_there = room.0; room_for_one = room.1 }

pub count_structures-requires-clause-produces : goal.count_structures-requires-clause-produces
count_structures-requires-clause-produces c = (accepted_reading _ _ _ c.requires.answers (search rules)).0
