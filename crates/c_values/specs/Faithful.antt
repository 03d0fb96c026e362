-- What C may rely on of reading and writing some language of messages, labels or records of the host.
use Rattle.std.specs.Prelude.{ℕ, ◌≤◌, ◌<◌, ◌≡◌, List, length, take}
use Rattle.demand.specs.Numbers.{ACCEPTED, SHAPE}
use Rattle.text.specs.Buffer.{laid}
use Rattle.label.specs.declared.Edition.{Edition}
use Rattle.label.specs.declared.Message.{Message}
use Rattle.message.specs.declared.Written.{Written}
use Rattle.message.specs.Grammar.{empty_message}
use Rattle.message.specs.Writing.{cleared, Alike, StoresIn}
use Rattle.c_values.specs.declared.CMessage.{CMessage}
use Rattle.c_values.specs.declared.CReading.{CReading}
use Rattle.c_values.specs.Values.{message_in_c, reading_in_c, stands_for}
use Rattle.c_values.specs.InC.{ReadsIn}

pub record Faithful (ed : Edition) (W : Message → List ℕ → Type 0) (F : List ℕ → ℕ → ℕ → Type 0) : Type 0 where
  -- one C reading for any bytes
  pub one_read : {s : List ℕ} {q r : CReading} → ReadsIn W F s q → ReadsIn W F s r → q ≡ r
  -- a refused reading is the empty message: all zeros
  pub refused_empty : {s : List ℕ} {r : CReading} → ReadsIn W F s r → (r.refusal ≡ ACCEPTED → ⊥) → r.message ≡ message_in_c empty_message
  -- C messages that stand for one message, places and lengths and what is past the count aside, get one answer and the same bytes
  pub one_write : (m n : CMessage) {before after after' : List ℕ} {v w : Written} → Alike (stands_for m) (stands_for n)
      → StoresIn W ed (stands_for m) before after v → StoresIn W ed (stands_for n) before after' w → (v ≡ w) × (after ≡ after')
  -- a form that is none is SHAPE at 0, and the buffer stays as it was
  pub no_form : (m : CMessage) {before after : List ℕ} {w : Written} → 2 < m.form → StoresIn W ed (stands_for m) before after w
      → (w.refusal ≡ SHAPE) × (w.place ≡ 0) × (after ≡ before)
  -- demand 2: read then written, with room, gives the bytes that were read
  pub read_written : {s : List ℕ} {r : CReading} {before after : List ℕ} {w : Written} → ReadsIn W F s r → r.refusal ≡ ACCEPTED
      → length s ≤ length before → StoresIn W ed (stands_for r.message) before after w
      → (w ≡ record { place = length s; refusal = ACCEPTED }) × (after ≡ laid s before)
  -- demand 2: written then read gives the values, unused entries and fields that a kind has not zero, places and lengths worked out afresh
  pub written_read : (m : CMessage) {before after : List ℕ} {w : Written} {r : CReading} → StoresIn W ed (stands_for m) before after w
      → w.refusal ≡ ACCEPTED → ReadsIn W F (take w.place after) r
      → r ≡ reading_in_c (record { message = cleared (stands_for m); place = w.place; refusal = ACCEPTED })
