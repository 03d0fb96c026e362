-- Of the kinds that may stand there, two bytes name the one that they name of all, if it may.
use Rattle.std.proofs.Common.{sym, ap, ◌∙◌}
use Rattle.structure_reader.specs.Laws.Identify.{named_of, named_is, may_find, may_not}
use Rattle.structure_reader.proofs.identify.named_within.Goals as goal

pub returns-then-may_stand : goal.returns-then-may_stand
returns-then-may_stand c =
    let is = named_is _ c.in_ok-kind.kind (sym c.named_by.ensures ∙ c.in_ok-kind.was) in
    ap named_of (sym (may_find c.args.spot c.requires c.args.a c.args.b is (sym c.may_stand.ensures ∙ c.if-may_stand.true)))

pub returns-else-may_stand : goal.returns-else-may_stand
returns-else-may_stand c =
    let is = named_is _ c.in_ok-kind.kind (sym c.named_by.ensures ∙ c.in_ok-kind.was) in
    ap named_of (sym (may_not c.args.spot c.requires c.args.a c.args.b is (sym c.may_stand.ensures ∙ c.if-may_stand.false)))
