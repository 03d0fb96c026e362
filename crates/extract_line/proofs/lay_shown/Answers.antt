-- The part that is copied is what is shown.
use Rattle.std.proofs.Common.{refl, ◌∙◌, ap, List, ℕ}
use Rattle.text.specs.Buffer.{laid}
use Rattle.extract_line.specs.Laws.Copied.{shown_part}
use Rattle.extract_line.proofs.lay_shown.Goals as goal

pub returns : goal.returns
returns c =
    let part = shown_part c.requires.stands refl c.shown_length-size.ensures c.skipped.ensures in
    c.lay.ensures ∙ ap (λ (bytes : List ℕ). laid bytes c.args.part.now) part.1
