-- What follows from the grammar and the refusal table: every scan has one right answer, every message one writing, and the round trips.
use Rattle.std.specs.Prelude.{ℕ, ◌≤◌, ◌<◌, ◌≡◌, List, ◌⊎◌, ◌↔◌, length, take}
use Rattle.demand.specs.Demand.{Answer, Acceptable}
use Rattle.demand.specs.Numbers.{ACCEPTED, IDENTIFIER, SHAPE}
use Rattle.demand.specs.Laws.Tree as tree
use Rattle.demand.specs.Laws.Delivers as delivers
use Rattle.text.specs.Buffer.{laid}
use Rattle.label.specs.declared.Edition.{Edition}
use Rattle.label.specs.declared.Message.{Message}
use Rattle.message.specs.declared.Reading.{Reading}
use Rattle.message.specs.declared.Written.{Written}
use Rattle.structure.specs.Structures.{written}
use Rattle.message.specs.Grammar.{Later, start_of, Produces, longest_of, empty_message}
use Rattle.message.specs.Places.{entry_in, bytes_at, Tiles}
use Rattle.message.specs.Refusals.{Fatal, RightReading}
use Rattle.message.specs.Reading.{Answers}
use Rattle.message.specs.Writing.{structure_at, cleared, Stores, Alike}
use Rattle.message.specs.Laws.Longest.{at_most, as_long}
use Rattle.message.specs.Laws.Tree.{message, message_out}
use Rattle.message.specs.Laws.Answers.{answer, answered}
use Rattle.message.specs.Laws.Answers as answers
use Rattle.message.specs.Laws.Editions as editions
use Rattle.message.specs.Laws.Older as older
use Rattle.message.specs.Laws.Alike as alike
use Rattle.message.specs.Laws.Write as write

-- every byte string has an answer that meets the demand, in each edition
pub some_answer : (ed : Edition) (s : List ℕ) → (a : Answer Message) × RightReading ed s a
some_answer ed s = (answer ed s, answered ed s)

-- and only one: value, refusal number and place
pub one_answer : (ed : Edition) (s : List ℕ) (a b : Answer Message) → RightReading ed s a → RightReading ed s b → a ≡ b
one_answer ed s a b x y = answers.one_answer ed s a b x y

-- `read`'s contract leaves one reading for every edition and every scan
pub one_result : (ed : Edition) (s : List ℕ) (q r : Reading) → Answers ed s q → Answers ed s r → q ≡ r
one_result ed s q r x y = answers.one_result ed s q r x y

-- demand 3: a scan is accepted exactly if the edition's grammar can produce it
pub accepted_exactly : (ed : Edition) (s : List ℕ) (r : Reading) → Answers ed s r → (r.refusal ≡ ACCEPTED) ↔ Acceptable (Produces ed) s
accepted_exactly ed s r x = delivers.accepted_exactly x

-- a byte string has at most one reading
pub one_reading : {ed : Edition} {m n : Message} {s : List ℕ} → Produces ed m s → Produces ed n s → m ≡ n
one_reading {ed} x y = tree.one_reading (Produces ed) (Fatal ed) (message ed) (message_out ed) x y

-- W-212: "a message that both editions accept has the same values in each"
pub same_values : {m n : Message} {s : List ℕ} → Produces Edition.Current m s → Produces Edition.Of2001 n s → m ≡ n
same_values x y = editions.same_values x y

-- W-212, "shown to the older is refused by number": what is of a later kind is refused with IDENTIFIER at 1
pub later_refused : {m : Message} {s : List ℕ} (r : Reading) → Later m → Produces Edition.Current m s → Answers Edition.Of2001 s r
    → r ≡ record { message = empty_message; place = 1; refusal = IDENTIFIER }
later_refused r l w x = older.later_refused r l w x

-- and whatever the current edition accepts, the edition of 2001 reads as the same message or refuses so
pub shown_to_the_older : {m : Message} {s : List ℕ} (r : Reading) → Produces Edition.Current m s → Answers Edition.Of2001 s r
    → (r ≡ record { message = m; place = length s; refusal = ACCEPTED }) ⊎ (r ≡ record { message = empty_message; place = 1; refusal = IDENTIFIER })
shown_to_the_older r w x = older.shown r w x

-- "the longest has 327 bytes", and in the edition of 2001 22: none is longer, and one is as long
pub longest : (ed : Edition) → ((m : Message) (s : List ℕ) → Produces ed m s → length s ≤ longest_of ed)
    × ((m : Message) × (s : List ℕ) × Produces ed m s × (length s ≡ longest_of ed))
longest ed = (λ m s w. at_most w, as_long ed)

-- `write`'s contract leaves one answer and one buffer for every edition, every message and every buffer
pub one_stored : (ed : Edition) (m : Message) (before after after' : List ℕ) (v w : Written) → Stores ed m before after v
    → Stores ed m before after' w → (v ≡ w) × (after ≡ after')
one_stored ed m before after after' v w x y = write.one_stored (write.labels ed) m before after after' v w x y

-- W-209, "the writer ignores the ones given": form, bbb, count and the structures within it decide answer and buffer
pub alike_stored : (ed : Edition) (m n : Message) (before after after' : List ℕ) (v w : Written) → Alike m n → Stores ed m before after v
    → Stores ed n before after' w → (v ≡ w) × (after ≡ after')
alike_stored ed m n before after after' v w a x y = alike.alike_stored a (write.labels ed) x y

-- demand 2: read then written, with room, gives the scanned bytes
pub read_written : (ed : Edition) (s : List ℕ) (r : Reading) (before after : List ℕ) (w : Written) → Answers ed s r → r.refusal ≡ ACCEPTED
    → length s ≤ length before
    → Stores ed r.message before after w → (w ≡ record { place = length s; refusal = ACCEPTED }) × (after ≡ laid s before)
read_written ed s r before after w x z room y = write.read_written (write.labels ed) s r before after w x z room y

-- demand 2: written then read gives the values, unused entries emptied, each place and length worked out afresh
pub written_read : (ed : Edition) (m : Message) (before after : List ℕ) (w : Written) (r : Reading) → Stores ed m before after w
    → w.refusal ≡ ACCEPTED → Answers ed (take w.place after) r → r ≡ record { message = cleared m; place = w.place; refusal = ACCEPTED }
written_read ed m before after w r x z y = write.written_read (write.labels ed) (answers.one_answer ed) m before after w r x z y

-- W-209: "the bytes of a message from one place, for its length, are that structure's written form"
pub underlined : {ed : Edition} (m : Message) (s : List ℕ) → Produces ed m s → (i : ℕ) → i < m.count
    → bytes_at s (entry_in m i) ≡ written (structure_at m i)
underlined m s w i l = write.underlined w i l

-- places and lengths of the entries within the count tile the message from its first structure to its end
pub tiled : {ed : Edition} (m : Message) (s : List ℕ) → Produces ed m s
    → Tiles (start_of m.form) (take m.count m.entries) (length s)
tiled m s w = write.tiled w

-- the empty message "is itself refused by the writer with SHAPE"
pub empty_shape : (ed : Edition) (before after : List ℕ) (w : Written) → Stores ed empty_message before after w
    → (w.refusal ≡ SHAPE) × (w.place ≡ 0) × (after ≡ before)
empty_shape ed before after w x = write.empty_shape (write.labels ed) before after w x
