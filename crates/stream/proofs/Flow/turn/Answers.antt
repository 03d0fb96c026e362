use Rattle.std.proofs.Common.{◌≡◌, refl, rules, tests}
use Rattle.blocks.specs.Laws.Front.{came_none}
use Rattle.stream.specs.Laws.Stream.{stream_last}
use Rattle.stream.specs.Laws.Telling.{came_begun, stays_between}
use Rattle.stream.proofs.Flow.turn.Goals as goal

pub returns-then-ended : goal.returns-then-ended
returns-then-ended g c =
    let read = rw c.in-Ok-Some.field-0-is at c.in-Ok-Some.ensures in
    let none : c.in-Ok-Some.came ≡ 0 = search (rules, tests) in (
      stays_between c.requires.between (search rules) read.stays (came_none c.args.self.now.bench.kept _ none read.brings.1),
      refl,
      read.brings.2 none,
    )

pub take-requires : goal.take-requires
take-requires g c =
    let read = rw c.in-Ok-Some.field-0-is at c.in-Ok-Some.ensures in
    came_begun _ c.in-Ok-Some.came c.requires.between c.requires.numbers_fit (search rules) read.brings.0 read.stays read.brings.1

pub returns-in-Ok-None : goal.returns-in-Ok-None
returns-in-Ok-None g c =
    let read = rw c.in-Ok-None.field-0-is at c.in-Ok-None.ensures in
    (stays_between c.requires.between (search rules) read.stays read.brings, search rules)

pub tell_ended-requires : goal.tell_ended-requires
tell_ended-requires g c =
    let read = c.in-Err.ensures in
    stream_last (stays_between c.requires.between (search rules) read.stays read.brings.0).stream (search rules)

pub returns-in-Err : goal.returns-in-Err
returns-in-Err g c =
    let read = c.in-Err.ensures in
    (stays_between c.requires.between (search rules) read.stays read.brings.0, read.brings.1)
