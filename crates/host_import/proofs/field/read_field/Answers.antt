-- A tag that may stand there leads past it, any other is refused at once.
use Rattle.std.proofs.Common.{sym, ◌∙◌, arith, get_or}
use Rattle.structure.specs.Structures.{numbered}
use Rattle.structure.specs.Laws.Spot.{kinds_at}
use Rattle.structure_reader.specs.Laws.Identify.{named_is, named_nothing}
use Rattle.host_import.specs.Laws.Field.{field_past, field_missed}
use Rattle.host_import.proofs.field.read_field.Goals as goal

pub returns-in-Some : goal.returns-in-Some
returns-in-Some c =
    let args = c.args in
    let tag = sym c.tagged.ensures ∙ c.in-Some.is in
    field_past args.spot args.part.now (omega arith)
    (named_is (numbered (kinds_at args.spot) (get_or args.part.now 0 0)) c.in-Some.kind tag) c.read_past.ensures

pub returns-in-None : goal.returns-in-None
returns-in-None c =
    field_missed c.args.spot c.args.part.now (omega arith) (named_nothing _ (sym c.tagged.ensures ∙ c.in-None.is)) c.untagged.ensures
