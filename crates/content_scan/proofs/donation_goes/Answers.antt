-- A digit of the number may be any, each flag goes on by the number's own check.
use Rattle.std.proofs.Common.{arith}
use Rattle.content_scan.specs.Laws.Judge.{at_ones}
use Rattle.content_scan.proofs.donation_goes.Goals as goal

pub returns-else-i-eq12 : goal.returns-else-i-eq12
returns-else-i-eq12 c =
    let args = c.args in
    rw c.ones_goes.ensures (at_ones args.body.now args.i (omega (arith, c.requires.1)) c.check_worth-own.ensures)
