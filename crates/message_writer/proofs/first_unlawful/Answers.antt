-- Each entry passed is lawful, and the first that is not ends the search.
use Rattle.std.proofs.Common.{ℕ, refl}
use Rattle.text.specs.Laws.Decides.{decided, decided_not}
use Rattle.structure.specs.Structures.{Lawful}
use Rattle.message_writer.specs.Laws.Writer.{entry_at, up_to, unlawful_first, within_at, within_number}
use Rattle.message_writer.proofs.first_unlawful.Goals as goal

pub returns-then-not-is_lawful : goal.returns-then-not-is_lawful
returns-then-not-is_lawful c =
    let h = c.loop-i-test.true in
    unlawful_first (within_number _ _ h) c.loop-i.invariant (rw (within_at _ _ h) at (decided_not c.is_lawful.ensures c.if-not-is_lawful.true-raw)) refl

pub loop-i-preserved : goal.loop-i-preserved
loop-i-preserved c =
    let loop = c.loop-i in
    up_to (λ (j : ℕ). Lawful (entry_at c.args.message.now.entries j)) loop.i loop.invariant
    (rw (within_at _ _ c.loop-i-test.true) at (decided c.is_lawful.ensures c.if-not-is_lawful.false-raw))
