-- A first flag below 6 goes on with any second one; else both are those of the number's own check.
use Rattle.std.proofs.Common.{refl, sym, ◌∙◌, arith, get_or}
use borrow.Author.Tests.{lt-ltb}
use Rattle.text.specs.Laws.Bytes.{both}
use Rattle.content_scan.specs.Laws.Whole.{flags_whole}
use Rattle.content_scan.proofs.whole.flags.Goals as goal

pub returns-then-c-lt54 : goal.returns-then-c-lt54
returns-then-c-lt54 c =
    let small = lt-ltb (get_or c.args.c.now 13 0) 54 (omega arith) in
    λ e. flags_whole c.requires refl (rw small) (rw small)

pub returns : goal.returns
returns c =
    λ e. let (t, u) = both _ _ e in
    flags_whole c.requires c.check_worth-own.ensures (sym c.tens_goes.ensures ∙ t) (sym c.ones_goes.ensures ∙ u)
