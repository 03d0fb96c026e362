-- The front of the form, and behind it the entries within the count.
use Rattle.std.proofs.Common.{rules, arith, ◌+◌, ◌≡◌, refl, sym, ap₂, ◌∙◌, length}
use Rattle.message_writer.specs.Laws.Writer.{bytes_length}
use Rattle.message_writer.proofs.layout.message_size.Goals as goal

pub overflow_add-result : goal.overflow_add-result
overflow_add-result g c =
    let (is, few) = c.front_size.ensures c.args.message.count c.args.message.bbb in
    let (long, most) = c.length_within.ensures in
    omega arith

pub returns : goal.returns
returns g c =
    let m = c.args.message in
    let sixteen : length m.entries ≡ 16 = search rules in
    let front = (c.front_size.ensures m.count m.bbb).0 in
    ap₂ ◌+◌ front c.length_within.ensures.0 ∙ sym (bytes_length g.L.Layout.front g.L.Layout.bytes m sixteen c.requires.few refl)
