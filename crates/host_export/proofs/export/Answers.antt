-- A refusal comes before any byte is stored; else the record is laid into the room that was asked for.
use Rattle.std.proofs.Common.{rules, ◌≡◌, sym, ◌∙◌, length}
use Rattle.message_writer.specs.Laws.Stores.{stores_not, accepted_asked, accepted_room, stores_asked}
use Rattle.host_export.specs.Laws.Export.{passed_within, one_record}
use Rattle.host_export.proofs.export.Goals as goal
use Rattle.host_export.proofs.export.Goals.{then-is_ok, else-is_ok}

pub lay_message-requires : goal.lay_message-requires
lay_message-requires c =
    let m = c.args.message in
    let sixteen : length m.entries ≡ 16 = search rules in
    let a = accepted_asked (one_record m) c.ask-asked.ensures (sym c.is_ok.ensures.value ∙ c.if-is_ok.true) in
    (passed_within a.passing, accepted_room sixteen a)

pub returns : goal.returns
returns c =
    let asks = c.ask-asked.ensures in
    let is = sym c.is_ok.ensures.value in
    rw c.from.ensures (elim c.if-is_ok.branch [
      | then-is_ok w ↦ stores_asked (one_record c.args.message) asks (is ∙ w.if-is_ok.true) (w.buffer-is ∙ w.lay_message.ensures)
      | else-is_ok w ↦ stores_not asks (is ∙ w.if-is_ok.false) w.buffer-is
    ])
