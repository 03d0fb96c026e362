-- The text is that of what was counted, and is sent. Assumes nothing.
use Rattle.tally_stream.specs.Laws.Turns.{shows}
use Rattle.tally_stream.proofs.show.Goals as goal

pub returns : goal.returns
returns c = shows c.requires c.failed.ensures c.lay_tally-used.ensures _ c.send.result c.send.ensures
