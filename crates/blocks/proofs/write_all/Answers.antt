use Rattle.std.proofs.Common.{rules, arith}
use Rattle.calls.specs.Calls.{moved_still}
use Rattle.blocks.specs.Laws.Front.{more_taken, none_more}
use Rattle.blocks.proofs.write_all.Goals as goal

pub loop-init : goal.loop-init
loop-init c = record { within = search rules; moved = moved_still; short = λ h l. absurd (omega arith) }

pub loop-preserved : goal.loop-preserved
loop-preserved c = more_taken c.loop.invariant c.in-Ok.ensures

pub returns-in-Err : goal.returns-in-Err
returns-in-Err c = none_more c.loop.invariant (search rules) c.in-Err.ensures
