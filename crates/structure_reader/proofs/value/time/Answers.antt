-- The part from its first digit on is what the maker reads.
use Rattle.text.specs.Laws.Decimal.{digits_tail}
use Rattle.structure_reader.proofs.value.time.Goals as goal

pub from_digits-requires : goal.from_digits-requires
from_digits-requires c = digits_tail c.requires
