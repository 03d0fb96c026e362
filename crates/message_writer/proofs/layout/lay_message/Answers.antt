-- The front of the form is laid first, and behind it the entries within the count.
use Rattle.std.proofs.Common.{refl, arith}
use Rattle.message_writer.specs.Laws.Writer.{form_room, fronted_room, fronted_laid}
use Rattle.message_writer.proofs.layout.lay_message.Goals as goal

pub lay_front-requires : goal.lay_front-requires
lay_front-requires g c = omega (arith, (form_room c.requires.1 refl).room)

pub lay_within-requires : goal.lay_within-requires
lay_within-requires g c =
    let m = c.args.message.now in
    let long = (c.front_size.ensures m.count m.bbb).0 in
    (c.requires.0, rw long (fronted_room c.requires.1 refl c.lay_front.ensures))

pub returns : goal.returns
returns g c =
    let m = c.args.message.now in
    let long = (c.front_size.ensures m.count m.bbb).0 in
    fronted_laid c.requires.1 refl c.lay_front.ensures (rw long at c.lay_within.ensures)
