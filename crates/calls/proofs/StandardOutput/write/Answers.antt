-- A call is one tick, and took the front of the part. Assumes nothing.
use Rattle.std.proofs.Common.{rules}
use Rattle.ledger.specs.Moved.{moved_wrote, wrote_short}
use Rattle.calls.proofs.StandardOutput.write.Goals as goal

pub returns-in-Ok-eq0 : goal.returns-in-Ok-eq0
returns-in-Ok-eq0 c = (moved_wrote c.tick.ensures, λ h. wrote_short _ c.tick.ensures)

pub returns-in-Ok : goal.returns-in-Ok
returns-in-Ok c = (search rules, moved_wrote c.tick.ensures, λ h. wrote_short _ c.tick.ensures)

pub returns-in-Err : goal.returns-in-Err
returns-in-Err c = (search rules, moved_wrote c.tick.ensures, λ h. wrote_short _ c.tick.ensures)

pub returns-in-Err-2 : goal.returns-in-Err-2
returns-in-Err-2 c = (moved_wrote c.tick.ensures, λ h. wrote_short _ c.tick.ensures)
