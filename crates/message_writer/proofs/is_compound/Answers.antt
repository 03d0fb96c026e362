-- The entries are looked at only within sixteen.
use Rattle.message_writer.specs.Laws.Shape.{not_few}
use Rattle.message_writer.proofs.is_compound.Goals as goal

pub returns-then-count-message : goal.returns-then-count-message
returns-then-count-message c = not_few c.args.message.now c.if-count-message.true c.are_few.ensures
