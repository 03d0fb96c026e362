-- What is found is the first record that holds the unit.
use Rattle.shelf.specs.Laws.Calls.{looks_up}
use Rattle.shelf.specs.Laws.Decide.{found_is}
use Rattle.shelf_list.proofs.appleounce_shelf_look_up.Goals as goal

pub returns : goal.returns
returns c = rw (c.found.ensures, found_is (rw c.for_unit.ensures at c.first.ensures)) (looks_up c.args.records.now c.args.donation c.args.product)
