-- One digit is stored at once, and of any number the fewest digits that hold it are at most twenty.
use Rattle.std.proofs.Common.{rules}
use Rattle.lines.specs.Laws.Laid.{lays_digits, lays_digit}
use Rattle.lines.proofs.lay_decimal.Goals as goal

pub returns-then-value-lt10 : goal.returns-then-value-lt10
returns-then-value-lt10 c = lays_digit c.if-value-lt10.true c.requires

pub returns : goal.returns
returns c = search (lays_digits, rules)
