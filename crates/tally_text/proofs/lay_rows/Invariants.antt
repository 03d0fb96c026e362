-- Some rows are laid out, and the names and figures of the others are ahead.
use Rattle.std.proofs.Common.{map}
use Rattle.tally_text.specs.Laws.Rows.{Laying}
use Rattle.tally_text.proofs.lay_rows.Given as goal

abbrev pub invariant-loop-name : goal.invariant-loop-name
invariant-loop-name l =
    Laying (map (λ x. x.now) l.names) l.figures l.fn.out (map (λ x. x.now) l.name-iterator.a.rest.now) l.name-iterator.b.rest.now l.used l.out
