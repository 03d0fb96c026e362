-- Each way of the match asks the set and the rule of the position there.
use Rattle.std.proofs.Common.{arith}
use Rattle.demand.specs.Laws.Content.{judges_by, judges_set}
use Rattle.demand.specs.Numbers.{VALUE}
use Rattle.content_scan.specs.Laws.Judge.{at_oooo, at_d}
use Rattle.content_scan.proofs.judge_product.Goals as goal

pub returns-in-6 : goal.returns-in-6
returns-in-6 c =
    let args = c.args in
    let here = at_d args.c.now args.i (omega arith) (omega arith) in
    judges_by VALUE here c.is_upper_digit.ensures c.d_goes.ensures c.verdict-in-6.ensures

pub returns-in_default : goal.returns-in_default
returns-in_default c =
    let args = c.args in
    judges_set VALUE (at_oooo args.c.now args.i (omega arith) (omega arith)) c.is_upper_digit-in_default.ensures c.verdict-in_default.ensures
