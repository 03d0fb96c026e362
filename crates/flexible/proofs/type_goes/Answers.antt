-- Each way of the match is the rule of the position there.
use Rattle.std.proofs.Common.{◌≡◌, arith}
use Rattle.text.specs.Laws.Decimal.{one_byte}
use Rattle.flexible.proofs.type_goes.Goals as goal

pub returns-in-1 : goal.returns-in-1
returns-in-1 c = let second : c.args.i ≡ 1 = omega arith in rw second (λ p. one_byte 48 c.args.b)

pub returns-in-2 : goal.returns-in-2
returns-in-2 c = let third : c.args.i ≡ 2 = omega arith in rw third (λ p. one_byte 48 c.args.b)
