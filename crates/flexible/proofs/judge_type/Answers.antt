-- A digit has the number of its position's rule, any other byte CHARACTER.
use Rattle.std.proofs.Common.{refl, sym, ◌∙◌, arith}
use Rattle.demand.specs.Numbers.{VALUE}
use Rattle.demand.specs.Laws.Content.{one_refusal}
use Rattle.text.specs.Laws.Decimal.{judges_digit}
use Rattle.flexible.specs.Laws.DateType.{type_positions, type_digits}
use Rattle.flexible.proofs.judge_type.Goals as goal

pub returns-then-is_digit : goal.returns-then-is_digit
returns-then-is_digit c =
    let inside = sym c.is_digit.ensures ∙ c.if-is_digit.true in
    judges_digit type_positions type_digits (omega arith) inside (one_refusal VALUE type_positions refl _)
    (c.type_goes.ensures _) c.verdict.ensures
