-- The fields of the entries passed stand behind form and bbb, and the cursor past them.
use Rattle.std.proofs.Common.{arith, rules}
use Rattle.extract_line.specs.Laws.Fields.{laying_first, laying_room, laying_next, laying_part, measured, stands}
use Rattle.extract_line.proofs.lay_fields.Goals as goal

pub slice_bounds-lay_field-count : goal.slice_bounds-lay_field-count
slice_bounds-lay_field-count c =
    let loop = c.loop-i in
    omega (arith, laying_room c.requires.produces c.requires.room loop.invariant (search rules))

pub slice_bounds-lay_field-start : goal.slice_bounds-lay_field-start
slice_bounds-lay_field-start c =
    let loop = c.loop-i in
    omega (arith, laying_room c.requires.produces c.requires.room loop.invariant (search rules))

pub field_length-at-requires : goal.field_length-at-requires
field_length-at-requires c = measured c.requires.produces (search rules)

pub loop-i-preserved : goal.loop-i-preserved
loop-i-preserved c =
    let loop = c.loop-i in
    laying_next c.requires.produces c.requires.room loop.invariant (search rules) c.field_length-at.ensures c.lay_field.ensures

pub loop-i-init : goal.loop-i-init
loop-i-init c = laying_first

pub lay_field-requires-clause-stands : goal.lay_field-requires-clause-stands
lay_field-requires-clause-stands c = stands c.requires.produces (search rules)

pub lay_field-requires-clause-room : goal.lay_field-requires-clause-room
lay_field-requires-clause-room c =
    laying_part c.requires.produces c.requires.room c.loop-i.invariant (search rules)
