-- How the record opens is the answer, or what is left to run is.
use Rattle.message_reader.specs.Laws.Loop.{begun_in, starts_begun}
use Rattle.host_import.specs.Laws.Import.{gives_imports}
use Rattle.host_import.proofs.import.Goals as goal

pub read_from-requires : goal.read_from-requires
read_from-requires c = starts_begun c.in-Ok.ensures

pub returns-in-Ok : goal.returns-in-Ok
returns-in-Ok c = gives_imports _ (begun_in c.in-Ok.ensures.running) c.read_from.ensures

pub returns-in-Err : goal.returns-in-Err
returns-in-Err c = gives_imports _ c.in-Err.ensures c.stopped.ensures
