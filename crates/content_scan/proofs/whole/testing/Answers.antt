-- Enough bytes, and each is in the set.
use Rattle.std.proofs.Common.{refl}
use Rattle.text.specs.Bytes.{upper_digit}
use Rattle.content_scan.specs.Laws.Whole.{set_whole}
use Rattle.content_scan.proofs.whole.testing.Goals as goal

pub returns-then-c-gt5 : goal.returns-then-c-gt5
returns-then-c-gt5 c = λ e. set_whole upper_digit 5 refl c.if-c-gt5.true (c.all_pass.ensures.each e)
