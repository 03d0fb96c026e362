-- Each way out is a row of the table, ROOM's by the length of the message's record.
use Rattle.std.proofs.Common.{rules, ◌≡◌, refl, length}
use Rattle.std.proofs.lemmas.Result.{err_from_is_err_and}
use Rattle.message_writer.specs.Laws.Stores.{asked_passed, unwritten, asks_sized}
use Rattle.host_record.specs.Record.{record_of}
use Rattle.host_export.specs.Laws.Export.{passed_within, passed_records}
use Rattle.host_export.proofs.ask.Goals as goal

pub returns-in_err-ask_message : goal.returns-in_err-ask_message
returns-in_err-ask_message c =
    let p = err_from_is_err_and c.from_residual.result c.from_residual.ensures.1 in
    rw (p.1, p.2) (unwritten c.in_err-ask_message.ensures refl)

pub message_size-requires : goal.message_size-requires
message_size-requires c = passed_within (asked_passed c.in_ok-ask_message.ensures)

pub returns : goal.returns
returns c =
    let m = c.args.message in
    let sixteen : length m.entries ≡ 16 = search rules in
    let p = asked_passed c.in_ok-ask_message.ensures in
    asks_sized (record_of m) p (passed_records sixteen p) c.message_size.ensures c.in_room.ensures
