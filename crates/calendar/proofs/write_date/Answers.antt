-- Each part is laid behind the one before it.
use Rattle.std.proofs.Common.{◌%◌, ◌++◌, refl, arith}
use Rattle.text.specs.Laws.Laid.{laid_then}
use Rattle.text.specs.Decimal.{digits}
use Rattle.calendar.proofs.write_date.Goals as goal

pub returns : goal.returns
returns c =
    let century = c.century_of in
    let args = c.args in
    let before = args.buffer.now in
    let front = digits 1 century.result in
    let two = digits 2 (args.date.year % 100) in
    let year = laid_then args.at 1 front two before (omega arith) refl c.write_digits.ensures c.write_digits-2.ensures in
    rw (← century.ensures)
    (laid_then args.at 3 (front ++ two) (digits 3 args.date.day) before (omega arith) refl year c.write_digits-3.ensures)
