-- Each way of the match is the rule of the position there.
use Rattle.std.proofs.Common.{sym, arith}
use Rattle.content_scan.specs.Laws.Judge.{goes_else}
use Rattle.content_scan.proofs.head_goes.Goals as goal

pub returns-in_default : goal.returns-in_default
returns-in_default c = let args = c.args in sym (goes_else args.c.now args.i args.b (omega arith) (λ e. omega arith) (λ e. omega arith))
