-- Each part's digits are what its maker reads, and all tests together are those of a whole content.
use Rattle.std.proofs.Common.{arith}
use borrow.Author.Tests.{eqb-true}
use Rattle.text.specs.Laws.Bytes.{both}
use Rattle.text.specs.Laws.Decimal.{digits_part, digits_tail}
use Rattle.demand.specs.Laws.Cells.{tail_part}
use Rattle.content_scan.specs.Laws.Digits.{decimal_sets, whole_digits}
use Rattle.content_scan.specs.Laws.Whole.{flexible_whole}
use Rattle.content_scan.proofs.whole.moment.Goals as goal

pub type_of-requires : goal.type_of-requires
type_of-requires c =
    digits_tail (digits_part (whole_digits (decimal_sets 16) c.requires) 1 4 (omega arith) (omega arith))

pub day_of-requires : goal.day_of-requires
day_of-requires c =
    digits_tail (digits_part (whole_digits (decimal_sets 16) c.requires) 5 8 (omega arith) (omega arith))

pub from_digits-requires : goal.from_digits-requires
from_digits-requires c =
    digits_tail (digits_part (whole_digits (decimal_sets 16) c.requires) 13 4 (omega arith) (omega arith))

pub returns : goal.returns
returns c =
    let s = c.args.c.now in
    λ e.
    let (front, hour) = both _ _ e in
    let (first, middle) = both _ _ front in
    let (second, type) = both _ _ first in
    flexible_whole c.requires (eqb-true _ 48 second)
    (rw (c.type_of.ensures, tail_part 1 s) at (c.is_lawful_flexible-front.ensures.passed type))
    (rw (c.day_of.ensures, tail_part 5 s) at (c.is_lawful_day-day.ensures.passed middle))
    (rw (c.from_digits.ensures, tail_part 13 s) at (c.is_lawful_time-time.ensures.passed hour))
