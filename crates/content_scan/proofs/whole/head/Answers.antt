-- Five digits with a lawful count are a whole content.
use borrow.Author.Tests.{leb-true}
use Rattle.text.specs.Laws.Bytes.{both}
use Rattle.content_scan.specs.Laws.Whole.{head_whole}
use Rattle.content_scan.proofs.whole.head.Goals as goal

pub returns-then-digits : goal.returns-then-digits
returns-then-digits c = λ e.
    let (lo, hi) = both _ _ e in
    head_whole (c.digits.ensures c.if-digits.true) c.read_digits-count.ensures.is (leb-true _ _ lo) (leb-true _ _ hi)
