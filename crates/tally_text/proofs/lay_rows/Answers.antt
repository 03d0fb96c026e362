-- Each row is that of the next name and the next figure. Assumes nothing.
use Rattle.std.proofs.Common.{◌≡◌, rules, arith, map, ap, ⊎_elim}
use Rattle.std.proofs.lemmas.List.{length-map}
use Rattle.tally_text.specs.Laws.Rows.{laying_first, laying_all, laying_next, row_room}
use Rattle.tally_text.proofs.lay_rows.Goals as goal

pub loop-name-init : goal.loop-name-init
loop-name-init c =
    let names : c.into_iter-name-iterator.result.a.rest.now ≡ c.args.names.now = search rules in
    laying_first c.requires (ap (map (λ x. x.now)) names) (search rules)

pub lay_row-used-requires : goal.lay_row-used-requires
lay_row-used-requires c =
    let next = c.in-Some.ensures in
    row_room c.requires c.loop-name.invariant (ap (map (λ x. x.now)) next.steps.0) next.steps.1

pub loop-name-preserved : goal.loop-name-preserved
loop-name-preserved c =
    let next = c.in-Some.ensures in
    laying_next c.requires c.loop-name.invariant (ap (map (λ x. x.now)) next.steps.0) next.steps.1 c.lay_row-used.ensures

pub returns : goal.returns
returns c =
    let kept = c.loop-name.invariant in
    let names = length-map c.loop-name.name-iterator.a.rest.now (λ x. x.now) in
    laying_all c.requires kept (⊎_elim (λ x. omega (arith, x.1.0, names, kept.even)) (λ x. x.1.0) c.in-None.ensures.steps)
