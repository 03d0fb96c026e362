-- The tests of the parts tell of the unit, as the computed one does.
use Rattle.shelf.specs.Laws.Decide.{unit_tells, test_tells, one_test}
use Rattle.shelf.proofs.is_unit.Goals as goal

pub returns : goal.returns
returns c =
    one_test (unit_tells c.is_donation.ensures c.is_product.ensures c.is_expiry.ensures)
    (test_tells c.args.unit)
