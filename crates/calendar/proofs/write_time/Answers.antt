-- The minute is laid behind the hour.
use Rattle.std.proofs.Common.{refl, arith}
use Rattle.text.specs.Laws.Laid.{laid_then}
use Rattle.text.specs.Decimal.{digits}
use Rattle.calendar.proofs.write_time.Goals as goal

pub returns : goal.returns
returns c =
    let args = c.args in
    laid_then args.at 2 (digits 2 args.time.hour) (digits 2 args.time.minute) args.buffer.now (omega arith) refl c.write_digits.ensures
    c.write_digits-2.ensures
