-- A digit more stays below the next power of ten, and is the next digit of the number.
use Rattle.std.proofs.Common.{arith}
use Rattle.text.specs.Laws.Decimal.{digit_within, digit_part, digit_bounds, read_next, read_room}
use Rattle.text.proofs.read_digits.Goals as goal

pub overflow_mul-value : goal.overflow_mul-value
overflow_mul-value c =
    let l = digit_within c.requires.0 c.loop-digit-test.true in
    omega (arith, read_room c.requires.0 c.loop-digit.invariant l c.requires.1)

pub overflow_add-value : goal.overflow_add-value
overflow_add-value c =
    let l = digit_within c.requires.0 c.loop-digit-test.true in
    let room = read_room c.requires.0 c.loop-digit.invariant l c.requires.1 in
    rw (digit_part c.requires.0 l) (omega (arith, room, digit_bounds c.requires.0 c.loop-digit.digit-index l))

pub loop-digit-preserved : goal.loop-digit-preserved
loop-digit-preserved c =
    let l = digit_within c.requires.0 c.loop-digit-test.true in
    rw (digit_part c.requires.0 l) (read_next c.requires.0 c.loop-digit.invariant l)
