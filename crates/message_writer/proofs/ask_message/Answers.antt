-- SHAPE is asked first, then FIELD, and what neither refuses has both.
use Rattle.std.proofs.Common.{refl}
use Rattle.text.specs.Laws.Decides.{decided}
use Rattle.message_writer.specs.Laws.Stores.{unlawful}
use Rattle.message_writer.proofs.ask_message.Goals as goal

pub returns-in-Some : goal.returns-in-Some
returns-in-Some c = unlawful (decided c.is_shapely.ensures c.if-not-is_shapely.false-raw) c.in-Some.ensures refl
