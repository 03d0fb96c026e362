-- Each part is laid behind the one before it.
use Rattle.std.proofs.Common.{◌++◌, refl, arith}
use Rattle.text.specs.Laws.Laid.{laid_then}
use Rattle.text.specs.Decimal.{digits}
use Rattle.flexible.proofs.write_day.Goals as goal

pub returns : goal.returns
returns c =
    let args = c.args in
    let day = args.day in
    let before = args.buffer.now in
    let front = laid_then args.at 4 (digits 4 day.year) (digits 2 day.month) before (omega arith) refl c.write_digits.ensures
    c.write_digits-2.ensures in
    laid_then args.at 6 (digits 4 day.year ++ digits 2 day.month) (digits 2 day.day) before (omega arith) refl front
    c.write_digits-3.ensures
