-- What is lost of a report ends as many lines as it has LFs. Assumes nothing.
use Rattle.std.proofs.Common.{arith}
use Rattle.stream.specs.Laws.Stream.{owed_few, owed_last}
use Rattle.stream.proofs.ReportJob.tell_unwritten.Goals as goal

pub overflow_sub-next-2 : goal.overflow_sub-next-2
overflow_sub-next-2 c = omega (arith, owed_few c.requires.owing, c.count_ends-gone.ensures)

pub after_report-requires : goal.after_report-requires
after_report-requires c = owed_last c.requires.owing c.requires.some_lost c.count_ends-gone.ensures
