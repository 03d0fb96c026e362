-- What is entered stands in the record that the answer tells.
use Rattle.shelf.specs.Laws.Calls.{enters}
use Rattle.shelf.specs.Laws.Decide.{entered_is}
use Rattle.shelf_list.proofs.appleounce_shelf_enter.Goals as goal

pub returns : goal.returns
returns c =
    rw (
      c.store.ensures.0,
      c.store.ensures.1,
      c.holding_record.ensures,
      c.entered-answer.ensures,
      entered_is c.args.unit (rw c.for_same.ensures at c.first-same.ensures) (rw c.for_free.ensures at c.first-free.ensures),
    ) (enters c.args.records.now c.args.unit)
