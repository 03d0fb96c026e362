-- Each answer is that of the tests before it.
use Rattle.shelf.specs.Laws.Decide.{field_told, lawful_told}
use Rattle.shelf.proofs.entered.Goals as goal

pub returns-then-not-is_unit : goal.returns-then-not-is_unit
returns-then-not-is_unit c = field_told _ _ _ c.is_unit.ensures c.if-not-is_unit.true-raw c.refused.ensures

pub returns-in-Some-default : goal.returns-in-Some-default
returns-in-Some-default c =
    rw c.in-Some-default.is-0 (lawful_told _ _ _ c.is_unit.ensures c.if-not-is_unit.false-raw c.refused-in-Some-default.ensures)

pub returns-in-None-Some : goal.returns-in-None-Some
returns-in-None-Some c =
    rw (c.in-None-Some.is-0, c.in-None-Some.is-1) (lawful_told _ _ _ c.is_unit.ensures c.if-not-is_unit.false-raw c.accepted.ensures)

pub returns-in-None-None : goal.returns-in-None-None
returns-in-None-None c =
    rw (c.in-None-None.is-0, c.in-None-None.is-1)
    (lawful_told _ _ _ c.is_unit.ensures c.if-not-is_unit.false-raw c.refused-in-None-None.ensures)
