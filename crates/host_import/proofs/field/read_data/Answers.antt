-- An 001's first character is tested where it stands, and then its content; of any other kind the content.
use Rattle.std.proofs.Common.{sym, ◌∙◌, arith}
use borrow.Author.Tests.{not-false}
use Rattle.host_import.specs.Laws.Field.{data_donation, data_behind}
use Rattle.host_import.proofs.field.read_data.Goals as goal

pub returns-then-is_donation : goal.returns-then-is_donation
returns-then-is_donation c =
    let args = c.args in
    let test = c.is_first_character in
    data_donation args.kind (sym c.is_donation.ensures ∙ c.if-is_donation.true) args.part.now (omega arith)
    (sym test.ensures ∙ not-false test.result c.if-not-is_first_character.false-raw) c.read_behind.ensures

pub returns : goal.returns
returns c =
    let args = c.args in
    data_behind args.kind (sym c.is_donation.ensures ∙ c.if-is_donation.false) args.part.now (omega arith) c.read_behind-2.ensures
