-- Enough bytes, and each test that led here is one of all positions.
use Rattle.std.proofs.Common.{refl, sym, ◌∙◌, arith}
use Rattle.text.specs.Laws.Bytes.{both}
use Rattle.content_scan.specs.Laws.Whole.{tested_whole}
use Rattle.content_scan.proofs.whole.groups.Goals as goal

pub returns-then-is_upper_lower_digit : goal.returns-then-is_upper_lower_digit
returns-then-is_upper_lower_digit c = λ e.
    let (first, second) = both _ _ c.if-is_upper_lower_digit.true in
    let one = sym c.is_upper_lower_digit.ensures ∙ first in
    let two = sym c.is_upper_lower_digit-then-c-eq48.ensures ∙ second in
    let three = sym c.is_upper_lower_digit-then-is_upper_lower_digit.ensures ∙ e in
    tested_whole (omega arith) refl (rw (one, two, three, c.if-c-eq48.true))
