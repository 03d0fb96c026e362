use Rattle.std.proofs.Common.{rules}
use Rattle.tally_text.specs.Laws.Picked.{picking_next}
use Rattle.tally_text.proofs.pick.Goals as goal

pub loop-i-preserved : goal.loop-i-preserved
loop-i-preserved c = search (picking_next, rules)
