-- W-213 in C: what holds of reading and writing labels in C holds of records.
use Rattle.label.specs.declared.Edition.{Edition}
use Rattle.host_record.specs.Record.{Records}
use Rattle.host_record.specs.Refusals.{Fatal}
use Rattle.host_record.specs.Theorems as host
use Rattle.host_record.specs.Laws.Answers.{tongue}
use Rattle.c_values.specs.Faithful.{Faithful}
use Rattle.c_values.specs.Laws.InC.{faithful}

-- importing and exporting in C
pub in_records : Faithful Edition.Current Records Fatal
in_records = faithful tongue host.one_answer
