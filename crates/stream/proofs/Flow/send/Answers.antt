-- What is not taken is owed. Assumes nothing.
use Rattle.stream.specs.Laws.Stream.{owed_rest, owed_cut}
use Rattle.stream.proofs.Flow.send.Goals as goal

pub tell_unwritten-requires-clause-owing : goal.tell_unwritten-requires-clause-owing
tell_unwritten-requires-clause-owing g c = (owed_rest c.requires.owing c.in-Err.ensures).0

pub returns-in-Err : goal.returns-in-Err
returns-in-Err g c = owed_cut c.requires.owing c.in-Err.ensures
