use Rattle.std.proofs.Common.{◌<◌, rules, arith}
use Rattle.demand.specs.Laws.Cells.{tail_part}
use Rattle.tally_figures.specs.Laws.Counts.{room_at}
use Rattle.tally_figures.specs.Laws.Walked.{passed_first, next_room, next_low, next_end, passed_next, passed_low, passed_all}
use Rattle.tally_figures.proofs.count_structures.Goals as goal

pub loop-init : goal.loop-init
loop-init c = passed_first c.requires.produces c.start_of-at.ensures

pub slice_bounds-row_at-count : goal.slice_bounds-row_at-count
slice_bounds-row_at-count c = omega (arith, (next_room c.requires.produces c.loop.invariant (search rules)).0)

pub slice_bounds-row_at-start : goal.slice_bounds-row_at-start
slice_bounds-row_at-start c = omega (arith, (next_room c.requires.produces c.loop.invariant (search rules)).0)

pub row_at-row-requires : goal.row_at-row-requires
row_at-row-requires c =
    rw (tail_part c.loop.at c.args.line.now) (next_room c.requires.produces c.loop.invariant (search rules)).1

pub count_at-requires : goal.count_at-requires
count_at-requires c =
    let low = next_low c.requires.produces c.loop.invariant (search rules) c.row_at-row.ensures in
    let room = room_at (passed_low c.requires.produces c.loop.invariant c.requires.below) low (omega arith) in
    record { counter_there = room.0; room_for_one = room.1 }

pub overflow_add-at : goal.overflow_add-at
overflow_add-at c =
    let end = next_end c.requires.produces c.loop.invariant (search rules) c.row_at-row.ensures in
    search (end, rules)

pub loop-preserved : goal.loop-preserved
loop-preserved c =
    let w = c.requires.produces in
    let l : c.loop.counter < c.args.message.count = search rules in
    let low = next_low w c.loop.invariant l c.row_at-row.ensures in
    let long = (passed_low w c.loop.invariant c.requires.below).long in
    passed_next w c.loop.invariant l c.row_at-row.ensures (omega arith) c.count_at.ensures

pub returns : goal.returns
returns c = search (passed_all, rules)
