-- Year and month are what their digits stand for.
use Rattle.std.proofs.Common.{◌∙◌, ap₂, arith}
use Rattle.text.specs.Laws.Decimal.{digits_part}
use Rattle.months.specs.Months.{days_in}
use Rattle.flexible.specs.Laws.Day.{last_read}
use Rattle.flexible.proofs.last_day.Goals as goal

pub read_digits-requires-2 : goal.read_digits-requires-2
read_digits-requires-2 c = (digits_part c.requires.0 4 2 (omega arith) (omega arith), omega arith)

pub returns : goal.returns
returns c =
    last_read c.args.c.now c.requires.1
    (c.days_in.ensures ∙ ap₂ days_in c.read_digits.ensures.is c.read_digits-2.ensures.is)
