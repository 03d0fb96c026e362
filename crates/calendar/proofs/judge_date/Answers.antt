-- A digit has the number of its position's rule, any other byte CHARACTER.
use Rattle.std.proofs.Common.{sym, ◌∙◌, arith}
use Rattle.text.specs.Laws.Decimal.{fitting_digits}
use Rattle.calendar.specs.Laws.Date.{date_positions, date_digits}
use Rattle.calendar.proofs.judge_date.Goals as goal

pub date_goes-requires : goal.date_goes-requires
date_goes-requires c = (
  omega arith,
  omega arith,
  fitting_digits date_positions date_digits (omega arith) (omega arith)
      c.requires.2,
  sym c.is_digit.ensures ∙ c.if-is_digit.true,
)
