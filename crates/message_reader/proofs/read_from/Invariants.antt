-- The structures so far stand in their places, and what is left to run is the whole answer.
use Rattle.std.proofs.Common.{◌-◌, length}
use Rattle.message_reader.specs.Laws.Loop.{begun, Standing}
use Rattle.message_reader.proofs.read_from.Given as goal

abbrev pub invariant-loop-left : goal.invariant-loop-left
invariant-loop-left g l =
    let trees = g.L.Language.trees in
    Standing trees (begun trees l.fn.first l.bytes) l.bytes l.entries l.at l.place l.count l.left l.fn.first.bbb l.spot

abbrev pub decreases-loop-left : goal.decreases-loop-left
decreases-loop-left g l = length l.bytes - l.at
