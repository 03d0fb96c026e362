-- Tag 23 opens a compound; any other beginning is a structure's.
use Rattle.std.proofs.Common.{arith}
use Rattle.host_import.specs.Laws.Import.{opens_plain}
use Rattle.host_import.proofs.open.Goals as goal

pub returns-then-fields-eq0 : goal.returns-then-fields-eq0
returns-then-fields-eq0 c = rw c.plain.ensures (opens_plain c.args.fields.now (λ l e. omega arith))

pub returns-else-fields-eq-HEAD : goal.returns-else-fields-eq-HEAD
returns-else-fields-eq-HEAD c = rw c.plain-else-fields-eq-HEAD.ensures (opens_plain c.args.fields.now (λ l e. omega arith))
