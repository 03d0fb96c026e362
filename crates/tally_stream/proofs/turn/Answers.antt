-- What came stands behind the kept bytes, and is counted with them. Assumes nothing.
use Rattle.std.proofs.Common.{◌≡◌, rules}
use Rattle.blocks.specs.Laws.Front.{came_none}
use Rattle.tally_stream.specs.Laws.Turns.{took, came_stays, came_ended, left_open}
use Rattle.tally_stream.proofs.turn.Goals as goal

pub returns-in-Ok-Some-eq0 : goal.returns-in-Ok-Some-eq0
returns-in-Ok-Some-eq0 c =
    let read = rw c.in-Ok-Some-eq0.field-0-is at c.in-Ok-Some-eq0.ensures in
    let end : c.in-Ok-Some-eq0.field-0-0 ≡ 0 = search rules in
    let none = came_none c.args.progress.kept _ end read.brings.1 in
    (c.requires.going, came_stays c.requires.came read.stays none, read.brings.2 end)

pub returns-in-Ok-Some : goal.returns-in-Ok-Some
returns-in-Ok-Some c =
    let read = rw c.in-Ok-Some.field-0-is at c.in-Ok-Some.ensures in
    let taken = rw c.in-Ok-Some.came-is at c.take_block.ensures in
    took c.requires.going c.requires.came read.brings.1 read.stays taken

pub returns-in-Ok-None : goal.returns-in-Ok-None
returns-in-Ok-None c =
    let read = rw c.in-Ok-None.field-0-is at c.in-Ok-None.ensures in (
      c.requires.going,
      left_open c.args.progress.stopped c.requires.came.unstopped (came_stays c.requires.came read.stays read.brings),
    )

pub tell_ended-requires : goal.tell_ended-requires
tell_ended-requires c =
    let read = c.in-Err.ensures in
    came_ended (came_stays c.requires.came read.stays read.brings.0)

pub returns-in-Err : goal.returns-in-Err
returns-in-Err c =
    let read = c.in-Err.ensures in
    (c.requires.going, came_stays c.requires.came read.stays read.brings.0, read.brings.1)
