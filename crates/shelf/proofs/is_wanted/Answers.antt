-- The tests in turn: what is searched for, whether the record is in use, and what it holds.
use Rattle.shelf.specs.Laws.Search.{by_use, unused_not, by_unit}
use Rattle.shelf.proofs.is_wanted.Goals as goal

pub returns-in-Free : goal.returns-in-Free
returns-in-Free c = rw c.in-Free.is (by_use _)

pub returns-then-r-eq0 : goal.returns-then-r-eq0
returns-then-r-eq0 c = rw c.in-Unit.is (unused_not _ _ _ c.if-r-eq0.true)

pub returns-else-r-eq0 : goal.returns-else-r-eq0
returns-else-r-eq0 c = rw c.in-Unit.is (by_unit _ _ _ c.if-r-eq0.false c.same_donation.ensures c.same_product.ensures)
