-- The place reached is the first that is wanted, or passed, or past the last.
use Rattle.std.proofs.Common.{sym, ◌∙◌, arith}
use Rattle.shelf.specs.Laws.Search.{none_left, hit, miss}
use Rattle.shelf.specs.Laws.Decide.{ends_at, ends_past}
use Rattle.shelf_list.proofs.first.Goals as goal

pub loop-i-preserved : goal.loop-i-preserved
loop-i-preserved c =
    let not_it = sym c.is_wanted.ensures ∙ c.if-is_wanted.false in
    miss c.args.records.now c.args.want c.loop-i.i c.loop-i-test.true (rw not_it tt) c.loop-i.invariant

pub returns : goal.returns
returns c = ends_past (none_left c.args.records.now c.args.want c.loop-i.i (omega arith) c.loop-i.invariant) (omega arith)

pub returns-then-is_wanted : goal.returns-then-is_wanted
returns-then-is_wanted c =
    let it = sym c.is_wanted.ensures ∙ c.if-is_wanted.true in
    ends_at (hit c.args.records.now c.args.want c.loop-i.i c.loop-i-test.true (rw it tt) c.loop-i.invariant) c.loop-i-test.true
