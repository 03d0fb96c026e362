use Rattle.std.proofs.Common.{rules}
use Rattle.stream.specs.Laws.Jobs.{lays_report}
use Rattle.stream.proofs.ReportJob.lay.Goals as goal

pub returns : goal.returns
returns c = search (lays_report, rules)
