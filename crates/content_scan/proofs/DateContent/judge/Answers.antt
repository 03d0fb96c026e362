-- The part past the byte in front is what the judge of that content looks at.
use Rattle.std.proofs.Common.{refl}
use Rattle.structure.specs.declared.Shape.{Shape}
use Rattle.calendar.specs.Laws.Date.{date_positions}
use Rattle.content_scan.specs.Laws.Judge.{content_judging, judges_content}
use Rattle.content_scan.proofs.DateContent.judge.Goals as goal

pub judge_date-requires : goal.judge_date-requires
judge_date-requires c = content_judging Shape.Date date_positions refl c.requires

pub returns : goal.returns
returns c = judges_content Shape.Date date_positions refl c.requires c.judge_date.ensures
