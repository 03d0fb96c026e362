-- What the scan finds of aa and bbb is how the record opens.
use Rattle.std.proofs.Common.{arith}
use Rattle.text.specs.Laws.Decimal.{digits_part}
use Rattle.content_scan.specs.Laws.Digits.{head_sets, whole_digits}
use Rattle.host_import.specs.Laws.Import.{count_stopped, count_whole}
use Rattle.host_import.proofs.open_count.Goals as goal

pub read_digits-requires : goal.read_digits-requires
read_digits-requires c = (digits_part (whole_digits head_sets c.in_default.ensures) 1 2 (omega arith) (omega arith), omega arith)

pub read_digits-requires-2 : goal.read_digits-requires-2
read_digits-requires-2 c = (digits_part (whole_digits head_sets c.in_default.ensures) 3 3 (omega arith) (omega arith), omega arith)

pub returns : goal.returns
returns c = count_whole c.requires c.in_default.ensures c.read_digits.ensures.is c.read_digits-2.ensures.is

pub returns-in-Err : goal.returns-in-Err
returns-in-Err c = rw c.behind.ensures (count_stopped c.requires c.in-Err.stop c.in-Err.ensures)
