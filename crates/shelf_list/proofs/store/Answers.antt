-- The record is stored where the answer tells one of the list's.
use Rattle.std.proofs.Common.{refl}
use Rattle.shelf.specs.Laws.Decide.{stores_there, stores_past, stores_none}
use Rattle.shelf_list.proofs.store.Goals as goal

pub returns-then-at-n : goal.returns-then-at-n
returns-then-at-n c = (refl, stores_there c.args.records.now c.args.new c.args.answer c.in-Some.ensures c.if-at-n.true)

pub returns-else-at-n : goal.returns-else-at-n
returns-else-at-n c = (refl, stores_past c.args.records.now c.args.new c.args.answer c.in-Some.ensures c.if-at-n.false)

pub returns-in_default : goal.returns-in_default
returns-in_default c = (refl, stores_none c.args.records.now c.args.new c.args.answer c.in_default.ensures)
