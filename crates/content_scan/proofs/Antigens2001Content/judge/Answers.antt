-- The part past the byte in front is what the judge of that content looks at.
use Rattle.std.proofs.Common.{refl}
use Rattle.structure.specs.declared.Shape.{Shape}
use Rattle.structure.specs.Laws.Checked.{antigen_positions}
use Rattle.content_scan.specs.Laws.Judge.{judges_content}
use Rattle.content_scan.proofs.Antigens2001Content.judge.Goals as goal

pub returns : goal.returns
returns c = judges_content Shape.Antigens2001 antigen_positions refl c.requires c.judge_antigens.ensures
