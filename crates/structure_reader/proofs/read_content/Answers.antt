-- What the scan finds of a content of the kind is what its tree says; a whole one gives its value.
use Rattle.structure_reader.specs.Laws.Found.{content_finds, content_stopped}
use Rattle.structure_reader.proofs.read_content.Goals as goal

pub returns : goal.returns
returns c =
    content_finds (rw c.shape_of-shape.ensures at c.size-end.ensures)
    (rw c.shape_of-shape.ensures at c.in_default.ensures) c.value.ensures

pub returns-in-Err : goal.returns-in-Err
returns-in-Err c = rw c.behind.ensures (content_stopped c.in-Err.stop (rw (c.shape_of-shape.ensures, c.in-Err.is) at c.walk.ensures))
