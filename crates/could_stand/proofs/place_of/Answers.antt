-- Place and test are the reading's.
use Rattle.could_stand.specs.Laws.Placed.{places}
use Rattle.could_stand.proofs.place_of.Goals as goal

pub returns : goal.returns
returns c = places c.read-reading.result c.read-reading.ensures
