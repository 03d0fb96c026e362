-- A call is one tick, and brings what stands in front of the part. Assumes nothing.
use Rattle.std.proofs.Common.{rules}
use Rattle.ledger.specs.Moved.{moved_read, read_ended, read_broke}
use Rattle.calls.proofs.StandardInput.read.Goals as goal

pub returns-in-Ok : goal.returns-in-Ok
returns-in-Ok c = (search rules, moved_read c.tick.ensures, λ h z. read_ended _ c.tick.ensures)

pub returns-in-Err : goal.returns-in-Err
returns-in-Err c = moved_read c.tick.ensures

pub returns-in-Err-2 : goal.returns-in-Err-2
returns-in-Err-2 c = (moved_read c.tick.ensures, read_broke _ c.tick.ensures)
