-- What follows from records and their table: every byte string has one right answer, every message one record, and the round trips.
use Rattle.std.specs.Prelude.{ℕ, ◌≤◌, ◌≡◌, refl, List, ◌↔◌, length, take}
use Rattle.demand.specs.Demand.{Answer, Acceptable, Right}
use Rattle.demand.specs.Numbers.{ACCEPTED, SHAPE}
use Rattle.demand.specs.Laws.Delivers as delivers
use Rattle.text.specs.Buffer.{laid}
use Rattle.label.specs.declared.Edition.{Edition}
use Rattle.label.specs.declared.Message.{Message}
use Rattle.message.specs.declared.Reading.{Reading}
use Rattle.message.specs.declared.Written.{Written}
use Rattle.message.specs.Grammar.{empty_message, Produces}
use Rattle.message.specs.Reading.{Answers}
use Rattle.message.specs.Writing.{cleared, Alike}
use Rattle.message.specs.Laws.Answers.{reading_in, one_in}
use Rattle.message.specs.Laws.Write as write
use Rattle.message.specs.Laws.Alike.{alike_stored}
use Rattle.host_record.specs.Record.{record_of, Records, longest_record}
use Rattle.host_record.specs.Refusals.{Fatal}
use Rattle.host_record.specs.Host.{Imports, Exports}
use Rattle.host_record.specs.Laws.Answers.{answer, answered, tongue}
use Rattle.host_record.specs.Laws.Answers as answers
use Rattle.host_record.specs.Laws.Longest as long

-- every byte string has an answer that meets the demand, "over the records"
pub some_answer : (s : List ℕ) → (a : Answer Message) × Right Records Fatal s a
some_answer s = (answer s, answered s)

-- and only one: value, refusal number and place
pub one_answer : (s : List ℕ) (a b : Answer Message) → Right Records Fatal s a → Right Records Fatal s b → a ≡ b
one_answer s a b x y = answers.one_answer s a b x y

-- `import`'s contract leaves one reading for every byte string
pub one_import : (s : List ℕ) (q r : Reading) → Imports s q → Imports s r → q ≡ r
one_import s q r x y = one_in answers.one_answer s q r x y

-- demand 3, "over the records": bytes are accepted exactly if they are the record of some message
pub accepted_exactly : (s : List ℕ) (r : Reading) → Imports s r → (r.refusal ≡ ACCEPTED) ↔ Acceptable Records s
accepted_exactly s r x = delivers.accepted_exactly x

-- `export`'s contract leaves one answer and one buffer for every message and every buffer
pub one_export : (m : Message) (before after after' : List ℕ) (v w : Written) → Exports m before after v → Exports m before after' w
    → (v ≡ w) × (after ≡ after')
one_export m before after after' v w x y = write.one_stored tongue m before after after' v w x y

-- the empty message, of which a refused import is made, is refused with SHAPE
pub empty_shape : (before after : List ℕ) (w : Written) → Exports empty_message before after w
    → (w.refusal ≡ SHAPE) × (w.place ≡ 0) × (after ≡ before)
empty_shape before after w x = write.empty_shape tongue before after w x

-- W-209 with W-213, "as the writer does": form, bbb, count and the structures within it decide the answer and the buffer of an export
pub alike_exported : (m n : Message) (before after after' : List ℕ) (v w : Written) → Alike m n → Exports m before after v
    → Exports n before after' w → (v ≡ w) × (after ≡ after')
alike_exported m n before after after' v w a x y = alike_stored a tongue x y

-- "export every accepted message", and "each message has one record"
pub every_message : {m : Message} {s : List ℕ} → Produces Edition.Current m s → Records m (record_of m)
every_message {s = s} w = record { label = s; accepted = w; is = refl }

pub one_record : {m : Message} {r s : List ℕ} → Records m r → Records m s → r ≡ s
one_record x y = tongue.one x y

-- "each record one message"
pub one_message : {m n : Message} {r : List ℕ} → Records m r → Records n r → m ≡ n
one_message x y = answers.one_message x y

-- no record is longer than 344 bytes, and one is as long: what a host has to lend
pub longest : ((m : Message) (r : List ℕ) → Records m r → length r ≤ longest_record)
    × ((m : Message) × (r : List ℕ) × Records m r × (length r ≡ longest_record))
longest = (λ m r w. long.at_most w, long.as_long)

-- the message of a record is the reading of its label, "with the places of its written label", and the record is that message's
pub of_its_label : (r : List ℕ) (i : Reading) → Imports r i → i.refusal ≡ ACCEPTED
    → (s : List ℕ) × Answers Edition.Current s record { message = i.message; place = length s; refusal = ACCEPTED } × (r ≡ record_of i.message)
of_its_label r i x z =
    let w = (reading_in x z).0 in
    (w.label, record { right = (w.accepted, refl); empty = λ f. absurd (f refl) }, w.is)

-- and the other way round: the record of what was read from a label is imported as that reading's message
pub of_its_record : (s : List ℕ) (q i : Reading) → Answers Edition.Current s q → q.refusal ≡ ACCEPTED → Imports (record_of q.message) i
    → i ≡ record { message = q.message; place = length (record_of q.message); refusal = ACCEPTED }
of_its_record s q i x z y =
    let w : Records q.message (record_of q.message) = every_message (reading_in x z).0 in
    one_import (record_of q.message) i record { message = q.message; place = length (record_of q.message); refusal = ACCEPTED } y
    record { right = (w, refl); empty = λ f. absurd (f refl) }

-- "export every accepted message": what was read from a label and is exported, with room, is its record
pub read_exported : (s : List ℕ) (q : Reading) (before after : List ℕ) (w : Written) → Answers Edition.Current s q → q.refusal ≡ ACCEPTED
    → length (record_of q.message) ≤ length before → Exports q.message before after w
    → (w ≡ record { place = length (record_of q.message); refusal = ACCEPTED }) × (after ≡ laid (record_of q.message) before)
read_exported s q before after w x z room y =
    let t = record_of q.message in
    let r : Reading = record { message = q.message; place = length t; refusal = ACCEPTED } in
    let here : Imports t r = record { right = (every_message (reading_in x z).0, refl); empty = λ f. absurd (f refl) } in
    write.read_written tongue t r before after w here refl room y

-- imported then exported, with room: the record's bytes, and no other byte changes
pub imported_exported : (s : List ℕ) (r : Reading) (before after : List ℕ) (w : Written) → Imports s r → r.refusal ≡ ACCEPTED
    → length s ≤ length before → Exports r.message before after w
    → (w ≡ record { place = length s; refusal = ACCEPTED }) × (after ≡ laid s before)
imported_exported s r before after w x z room y = write.read_written tongue s r before after w x z room y

-- exported then imported: the values, unused entries emptied, each place and length worked out afresh
pub exported_imported : (m : Message) (before after : List ℕ) (w : Written) (r : Reading) → Exports m before after w → w.refusal ≡ ACCEPTED
    → Imports (take w.place after) r → r ≡ record { message = cleared m; place = w.place; refusal = ACCEPTED }
exported_imported m before after w r x z y = write.written_read tongue answers.one_answer m before after w r x z y
