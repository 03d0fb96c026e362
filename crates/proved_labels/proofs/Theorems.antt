-- What the papers say of their own labels follows from the rules.
use Rattle.demand.specs.Each.{Each}
use Rattle.proved_labels.specs.Labels.{AsSaid, said}
use Rattle.proved_labels.proofs.Tested as tests

-- 01, "proved of the rules together, as a single tested list"; and the requests' labels with them
pub labels_hold : Each AsSaid said
labels_hold = tests.labels_hold
