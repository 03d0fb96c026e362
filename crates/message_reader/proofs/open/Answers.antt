-- In the current edition an 023 may open a scan, in that of 2001 nothing but a structure.
use Rattle.message_reader.specs.Laws.Start.{start_2001}
use Rattle.message_reader.proofs.open.Goals as goal

pub returns-in-Of2001 : goal.returns-in-Of2001
returns-in-Of2001 c = rw (c.in-Of2001.is, c.plain.ensures) (start_2001 c.args.scan.now)
