-- A right length leads to aa and bbb, any other is refused at its first wrong byte.
use Rattle.std.proofs.lemmas.Result.{err_from_is_err_and}
use Rattle.host_import.specs.Laws.Import.{head_stopped}
use Rattle.host_import.proofs.open_head.Goals as goal

pub returns-in_err-sized : goal.returns-in_err-sized
returns-in_err-sized c =
    let p = err_from_is_err_and c.from_residual.result c.from_residual.ensures.1 in
    rw (p.1, p.2) (head_stopped c.args.fields.now c.requires c.in_err-sized.field-0.0 c.in_err-sized.ensures)
