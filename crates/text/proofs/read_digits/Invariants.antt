-- What is read so far is the number of the digits passed, below a power of ten that leaves room for one more.
use Rattle.text.specs.Laws.Decimal.{DigitsRead}
use Rattle.text.proofs.read_digits.Given as goal

abbrev pub invariant-loop-digit : goal.invariant-loop-digit
invariant-loop-digit l = DigitsRead l.c l.at l.digit-index l.value
