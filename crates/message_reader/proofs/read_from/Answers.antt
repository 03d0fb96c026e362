-- The structures so far stand in their places, and what is left to run is the whole answer.
use Rattle.message_reader.specs.Laws.Loop.{gives_same, ends_in, then_stopped, then_whole}
use Rattle.message_reader.proofs.read_from.Goals as goal

pub loop-left-preserved : goal.loop-left-preserved
loop-left-preserved g c =
    rw c.entry_of.ensures (then_whole g.L.Language.dues c.loop-left.invariant c.loop-left-test.true c.in-Ok.ensures c.onward-then.ensures)

pub returns : goal.returns
returns g c = ends_in c.loop-left.invariant.running c.loop-left-test.false c.form_of.ensures c.ended.ensures

pub returns-in-Err : goal.returns-in-Err
returns-in-Err g c =
    gives_same _ (rw c.behind.ensures (then_stopped g.L.Language.dues c.loop-left.invariant c.loop-left-test.true c.in-Err.stop c.in-Err.ensures))
    c.stopped.ensures
