use Rattle.tally_lines.specs.Laws.Taken.{counted_within}
use Rattle.tally_stream.specs.Laws.Turns.{first_going, came_first, came_end, came_failed, came_spent}
use Rattle.tally_stream.proofs.count_input.Goals as goal

pub loop-init : goal.loop-init
loop-init c =
    let first = c.first_progress-progress.ensures in (
      first_going first c.requires.none_counted,
      came_first first c.requires.first_tick c.requires.none_counted,
    )

pub returns-in-Ended : goal.returns-in-Ended
returns-in-Ended c =
    let x = c.in-Ended.ensures in
    let end = c.take_end-last.ensures in
    rw c.ended_as-in-Ended.ensures record { counts = came_end x.1 x.2 end; within = counted_within x.0.within end.lines }

pub returns-in-Failed : goal.returns-in-Failed
returns-in-Failed c =
    let x = c.in-Failed.ensures in
    rw c.ended_as-in-Failed.ensures record { counts = came_failed x.1 x.2; within = x.0.within }

pub returns : goal.returns
returns c =
    let kept = c.loop.invariant in
    rw c.ended_as-2.ensures record { counts = came_spent kept.1; within = kept.0.within }
