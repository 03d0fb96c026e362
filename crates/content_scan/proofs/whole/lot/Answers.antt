-- Enough bytes, and each is in the set.
use Rattle.std.proofs.Common.{refl}
use Rattle.text.specs.Bytes.{upper_lower_digit}
use Rattle.content_scan.specs.Laws.Whole.{set_whole}
use Rattle.content_scan.proofs.whole.lot.Goals as goal

pub returns-then-c-gt10 : goal.returns-then-c-gt10
returns-then-c-gt10 c = λ e. set_whole upper_lower_digit 10 refl c.if-c-gt10.true (c.all_pass.ensures.each e)
