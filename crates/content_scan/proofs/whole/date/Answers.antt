-- Six digits of a lawful date are a whole content, since each digit then goes on.
use Rattle.text.specs.Laws.Decimal.{digits_tail}
use Rattle.demand.specs.Laws.Cells.{tail_part}
use Rattle.content_scan.specs.Laws.Whole.{date_whole}
use Rattle.content_scan.specs.Laws.Digits.{decimal_sets, whole_digits}
use Rattle.content_scan.proofs.whole.date.Goals as goal

pub is_date-requires : goal.is_date-requires
is_date-requires c = digits_tail (whole_digits (decimal_sets 6) (c.digits.ensures c.if-digits.true))

pub returns-then-digits : goal.returns-then-digits
returns-then-digits c =
    let s = c.args.c.now in
    let six = c.digits.ensures c.if-digits.true in
    λ e. date_whole six (rw (tail_part 1 s) at (c.is_date.ensures.passed e))
