-- Enough bytes, and the tests together are those of all positions.
use Rattle.std.proofs.Common.{arith}
use Rattle.content_scan.specs.Laws.Whole.{tested_whole}
use Rattle.content_scan.proofs.whole.product.Goals as goal

pub returns : goal.returns
returns c =
    λ e.
    tested_whole (omega arith)
    (rw (
      c.is_upper.ensures,
      c.is_upper_digit.ensures,
      c.is_upper_digit-2.ensures,
      c.is_upper_digit-3.ensures,
      c.is_upper_digit-4.ensures,
      c.is_upper_lower_digit.ensures,
      c.d_goes.ensures,
      c.is_upper_digit-5.ensures,
      c.s_goes.ensures,
      c.is_lower_digit.ensures,
    )) e
