-- Enough bytes, and each is a digit.
use Rattle.std.proofs.Common.{arith}
use Rattle.text.specs.Bytes.{digit}
use Rattle.content_scan.specs.Laws.Whole.{set_whole}
use Rattle.content_scan.proofs.whole.digits.Goals as goal

pub returns-then-n-c : goal.returns-then-n-c
returns-then-n-c c = λ e. set_whole digit c.args.n (omega arith) c.if-n-c.true (c.all_pass.ensures.each e)
