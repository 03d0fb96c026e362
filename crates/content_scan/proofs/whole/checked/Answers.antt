-- Enough bytes, and the last of them the check of the eighteen digits.
use Rattle.std.proofs.Common.{arith}
use borrow.Author.Tests.{eqb-true}
use Rattle.content_scan.specs.Laws.Whole.{antigens_whole}
use Rattle.content_scan.proofs.whole.checked.Goals as goal

pub returns : goal.returns
returns c =
    λ e. antigens_whole c.requires (omega arith) c.check_of.ensures (eqb-true _ _ e)
