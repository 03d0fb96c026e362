-- Two digits mean what the search finds, and anything else means nothing.
use Rattle.std.proofs.Common.{rules}
use Rattle.bloodgroup.specs.Laws.Groups.{finds_means}
use Rattle.bloodgroup.proofs.group_of.Goals as goal

pub returns-then-is_digit-2 : goal.returns-then-is_digit-2
returns-then-is_digit-2 c = let is = c.read_digits.ensures.is in search (finds_means, rules)
