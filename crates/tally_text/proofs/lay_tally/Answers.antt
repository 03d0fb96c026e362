-- The counters are picked in the tally's order, and their rows laid out. Assumes nothing.
use Rattle.tally_text.specs.Laws.Tally.{lays_tally}
use Rattle.tally_text.proofs.lay_tally.Goals as goal

pub returns : goal.returns
returns c =
    lays_tally c.args.counters.now c.args.stopped c.args.failed c.say.ensures c.say-2.ensures
    c.pick.ensures c.pick-2.ensures c.pick-3.ensures c.lay_rows.ensures
