-- W-213: what import and export must give.
use Rattle.std.specs.Prelude.{ℕ, List}
use Rattle.label.specs.declared.Edition.{Edition}
use Rattle.label.specs.declared.Message.{Message}
use Rattle.message.specs.declared.Reading.{Reading}
use Rattle.message.specs.declared.Written.{Written}
use Rattle.message.specs.Reading.{AnswersIn}
use Rattle.message.specs.Writing.{StoresIn}
use Rattle.host_record.specs.Record.{Records}
use Rattle.host_record.specs.Refusals.{Fatal}

-- an import is right by the records and their table: "a refused record gives the empty message and demand 3's place, over the records"
abbrev pub Imports : List ℕ → Reading → Type 0
Imports s r = AnswersIn Records Fatal s r

-- "export refuses and fills as the writer does", with a message's record in place of its label
abbrev pub Exports : Message → List ℕ → List ℕ → Written → Type 0
Exports m before after w = StoresIn Records Edition.Current m before after w
