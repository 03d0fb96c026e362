-- The two rows together are fourteen digits.
use Rattle.std.proofs.Common.{arith}
use Rattle.text.specs.Laws.Bytes.{both}
use Rattle.content_scan.specs.Laws.Digits.{row_digits, two_rows}
use Rattle.content_scan.proofs.whole.fourteen.Goals as goal

pub returns-then-c-gt14 : goal.returns-then-c-gt14
returns-then-c-gt14 c = λ e.
    let (first, last) = both _ _ e in
    two_rows (omega arith) (row_digits 1 8 (omega arith) (c.all_pass.ensures.each first))
    (row_digits 7 8 (omega arith) (c.all_pass-then-c-gt14.ensures.each last))
