-- What is found of the content is found of the part, by as many bytes further on.
use Rattle.std.proofs.Common.{◌+◌, ◌<◌, arith, length}
use Rattle.demand.specs.Laws.Cells.{tail_part}
use Rattle.host_import.specs.Laws.Field.{behind_whole, behind_placed, behind_stopped}
use Rattle.host_import.proofs.field.read_behind.Goals as goal

pub overflow_add-result : goal.overflow_add-result
overflow_add-result c =
    let args = c.args in
    let l : args.skip < length args.part.now = omega arith in
    let h = rw (tail_part (args.skip + 1) args.part.now) at c.read_content.ensures in
    omega (arith, (behind_whole args.part.now args.skip l h c.in-Ok.found c.in-Ok.is c.requires.0).reaches.1)

pub behind-requires : goal.behind-requires
behind-requires c =
    let args = c.args in
    let l : args.skip < length args.part.now = omega arith in
    let h = rw (tail_part (args.skip + 1) args.part.now) at c.read_content.ensures in
    behind_placed args.part.now args.skip l h c.in-Err.stop c.in-Err.is (omega arith)

pub returns-in-Ok : goal.returns-in-Ok
returns-in-Ok c =
    let args = c.args in
    let l : args.skip < length args.part.now = omega arith in
    let h = rw (tail_part (args.skip + 1) args.part.now) at c.read_content.ensures in
    behind_whole args.part.now args.skip l h c.in-Ok.found c.in-Ok.is c.requires.0

pub returns-in-Err : goal.returns-in-Err
returns-in-Err c =
    let args = c.args in
    let l : args.skip < length args.part.now = omega arith in
    let h = rw (tail_part (args.skip + 1) args.part.now) at c.read_content.ensures in
    rw c.behind.ensures (behind_stopped args.part.now args.skip l h c.in-Err.stop c.in-Err.is)
