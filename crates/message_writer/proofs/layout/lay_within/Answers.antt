-- The entries passed are laid from the start on, and the cursor stands past them.
use Rattle.std.proofs.Common.{sym, subst}
use Rattle.message_writer.specs.Laws.Writer.{writing_part, writing_next, within_at, within_number}
use Rattle.message_writer.proofs.layout.lay_within.Goals as goal

pub lay-requires : goal.lay-requires
lay-requires g c =
    let h = c.loop-entry-test.true in
    let more = within_number _ _ h in
    rw (within_at _ _ h) (c.requires.0.each c.loop-entry.entry-index more, writing_part c.requires.1 c.loop-entry.invariant more)

pub size-at-requires : goal.size-at-requires
size-at-requires g c =
    let h = c.loop-entry-test.true in
    subst g.L.Layout.may (sym (within_at _ _ h)) (c.requires.0.each c.loop-entry.entry-index (within_number _ _ h))

pub loop-entry-preserved : goal.loop-entry-preserved
loop-entry-preserved g c =
    let h = c.loop-entry-test.true in
    writing_next c.requires.1 c.loop-entry.invariant (within_number _ _ h)
    (rw (within_at _ _ h) at c.size-at.ensures.0) (rw (within_at _ _ h) at c.lay.ensures)
