-- The part past the byte in front is what the judge of that content looks at.
use Rattle.std.proofs.Common.{refl}
use Rattle.structure.specs.declared.Shape.{Shape}
use Rattle.structure.specs.Laws.Product.{product_positions}
use Rattle.content_scan.specs.Laws.Judge.{judges_content}
use Rattle.content_scan.proofs.ProductCodeContent.judge.Goals as goal

pub returns : goal.returns
returns c = judges_content Shape.Product product_positions refl c.requires c.judge_product.ensures
