-- What is added up so far is the length of the entries passed.
use Rattle.std.proofs.Common.{arith, length, ap, sym, subst, ◌∙◌}
use Rattle.label.specs.declared.Structure.{Structure}
use Rattle.message_writer.specs.Laws.Writer.{turn_length, within_at, within_entries, within_number}
use Rattle.message_writer.proofs.layout.length_within.Goals as goal

pub size-long-requires : goal.size-long-requires
size-long-requires g c =
    let h = c.loop-entry-test.true in
    subst g.L.Layout.may (sym (within_at _ _ h)) (c.requires.each c.loop-entry.entry-index (within_number _ _ h))

pub loop-entry-preserved : goal.loop-entry-preserved
loop-entry-preserved g c =
    let bytes = g.L.Layout.bytes in
    let loop = c.loop-entry in
    let h = c.loop-entry-test.true in
    let (is, small) = c.size-long.ensures in
    let long = is ∙ ap (λ (x : Structure). length (bytes x)) (within_at _ _ h) in
    let next = turn_length bytes c.args.message.now.entries loop.entry-index (within_entries _ _ h) in
    (omega (arith, loop.invariant.0), omega arith)
