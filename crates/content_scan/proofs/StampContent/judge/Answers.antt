-- The part past the byte in front is what the judge of that content looks at.
use Rattle.std.proofs.Common.{refl}
use Rattle.structure.specs.declared.Shape.{Shape}
use Rattle.calendar.specs.Laws.Stamp.{stamp_positions}
use Rattle.content_scan.specs.Laws.Judge.{content_judging, judges_content}
use Rattle.content_scan.proofs.StampContent.judge.Goals as goal

pub judge_stamp-requires : goal.judge_stamp-requires
judge_stamp-requires c = content_judging Shape.Stamp stamp_positions refl c.requires

pub returns : goal.returns
returns c = judges_content Shape.Stamp stamp_positions refl c.requires c.judge_stamp.ensures
