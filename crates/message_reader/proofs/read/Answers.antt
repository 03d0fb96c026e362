-- How the scan opens is the answer, or what is left to run is.
use Rattle.message_reader.specs.Laws.Loop.{begun_in, starts_begun}
use Rattle.message_reader.specs.Laws.Reader.{gives_answers}
use Rattle.message_reader.proofs.read.Goals as goal

pub read_from-requires : goal.read_from-requires
read_from-requires c = starts_begun c.in-Ok.ensures

pub returns-in-Ok : goal.returns-in-Ok
returns-in-Ok c = gives_answers _ (begun_in c.in-Ok.ensures.running) c.read_from.ensures

pub returns-in-Err : goal.returns-in-Err
returns-in-Err c = gives_answers _ c.in-Err.ensures c.stopped.ensures
