-- The part past the byte in front is what the judge of that content looks at.
use Rattle.std.proofs.Common.{refl}
use Rattle.structure.specs.declared.Shape.{Shape}
use Rattle.flexible.specs.Laws.Flexible.{flexible_positions}
use Rattle.content_scan.specs.Laws.Judge.{content_judging, judges_content}
use Rattle.content_scan.proofs.MomentContent.judge.Goals as goal

pub judge_flexible-requires : goal.judge_flexible-requires
judge_flexible-requires c = content_judging Shape.Flexible flexible_positions refl c.requires

pub returns : goal.returns
returns c = judges_content Shape.Flexible flexible_positions refl c.requires c.judge_flexible.ensures
