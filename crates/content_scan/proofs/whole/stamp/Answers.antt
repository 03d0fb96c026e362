-- Ten digits of a lawful date and a lawful time are a whole content.
use Rattle.std.proofs.Common.{arith}
use Rattle.text.specs.Laws.Decimal.{digits_part, digits_tail}
use Rattle.text.specs.Laws.Bytes.{both}
use Rattle.demand.specs.Laws.Cells.{tail_part}
use Rattle.content_scan.specs.Laws.Digits.{decimal_sets, whole_digits}
use Rattle.content_scan.specs.Laws.Whole.{stamp_whole}
use Rattle.content_scan.proofs.whole.stamp.Goals as goal

pub is_date-requires : goal.is_date-requires
is_date-requires c =
    let ten = whole_digits (decimal_sets 10) (c.digits.ensures c.if-digits.true) in
    digits_tail (digits_part ten 1 6 (omega arith) (omega arith))

pub from_digits-requires : goal.from_digits-requires
from_digits-requires c =
    let ten = whole_digits (decimal_sets 10) (c.digits.ensures c.if-digits.true) in
    digits_tail (digits_part ten 7 4 (omega arith) (omega arith))

pub returns-then-digits : goal.returns-then-digits
returns-then-digits c =
    let s = c.args.c.now in
    let ten = c.digits.ensures c.if-digits.true in
    λ e.
    let (day, hour) = both _ _ e in
    stamp_whole ten (rw (tail_part 1 s) at (c.is_date.ensures.passed day))
    (rw (c.from_digits.ensures, tail_part 7 s) at (c.is_lawful_time.ensures.passed hour))
