-- The bytes that are LF are counted. Assumes nothing.
use Rattle.std.specs.Prelude.{count_by, eqb, ◌≡◌}
use Rattle.std.proofs.Common.{rules, ◌∙◌}
use Rattle.lines.specs.Lines.{LF}
use Rattle.lines.specs.Laws.Ends.{ends_count}
use Rattle.stream.proofs.count_ends.Goals as goal

pub returns : goal.returns
returns c =
    let part = c.args.part.now in
    let counted : c.count.result ≡ count_by (λ b. eqb b LF) part = search rules in
    counted ∙ ends_count part
