-- The record that the look-up tells is freed.
use Rattle.shelf.specs.Laws.Calls.{frees_told}
use Rattle.shelf_list.proofs.appleounce_shelf_remove.Goals as goal

pub returns : goal.returns
returns c =
    rw (c.store.ensures.0, c.store.ensures.1, c.freed_record.ensures)
    (frees_told c.args.records.now c.args.donation c.args.product c.appleounce_shelf_look_up-answer.ensures)
