-- The structure is written where its data belongs, and the tag and the length laid over what stands before that.
use Rattle.std.proofs.Common.{ℕ, ap, ◌∙◌}
use Rattle.text.specs.Buffer.{laid_at}
use Rattle.text.specs.Laws.Laid.{part_laid}
use Rattle.structure.specs.Structures.{written}
use Rattle.host_export.specs.Laws.Export.{lays_field}
use Rattle.host_export.proofs.lay_field.Goals as goal

pub returns : goal.returns
returns c =
    let x = c.args.structure in
    let part = c.args.part.now in
    let writing = part_laid c.written_at-at.result (written x) part c.write_structure.ensures
    ∙ ap (λ (n : ℕ). laid_at n (written x) part) c.written_at-at.ensures.0 in
    lays_field c.requires writing c.number_of-tag.ensures c.data_length.ensures.0 c.lay_front.ensures
