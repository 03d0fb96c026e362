-- What follows: there and back is the same, so that nothing of a reading is lost in C, and what demand 2 says holds in C too.
use Rattle.std.specs.Prelude.{◌≡◌}
use Rattle.label.specs.declared.Edition.{Edition}
use Rattle.label.specs.declared.Entry.{Entry}
use Rattle.label.specs.declared.Message.{Message}
use Rattle.message.specs.Grammar.{Produces}
use Rattle.message.specs.Refusals.{Fatal}
use Rattle.message.specs.Theorems as message
use Rattle.message.specs.Laws.Write.{labels}
use Rattle.c_values.specs.Values.{entry_in_c, message_in_c, entry_meant, stands_for}
use Rattle.c_values.specs.Laws.Values as values
use Rattle.c_values.specs.Faithful.{Faithful}
use Rattle.c_values.specs.Laws.InC.{faithful}

-- an entry, whatever it holds: structure, place and length
pub entry_back : (e : Entry) → entry_meant (entry_in_c e) ≡ e
entry_back e = values.entry_back e

-- a message, whatever it holds
pub message_back : (m : Message) → stands_for (message_in_c m) ≡ m
message_back m = values.message_back m

-- reading and writing labels of an edition in C
pub in_labels : (ed : Edition) → Faithful ed (Produces ed) (Fatal ed)
in_labels ed = faithful (labels ed) (message.one_answer ed)
