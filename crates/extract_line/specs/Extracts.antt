-- W-211: what `extract` must give for a scan and a buffer: refusal number, place and every byte of the buffer. No reader is named.
use Rattle.std.specs.Prelude.{ℕ, ◌≤◌, ◌<◌, ◌≡◌, List, length}
use Rattle.demand.specs.Numbers.{ACCEPTED, ROOM}
use Rattle.label.specs.declared.Edition.{Edition}
use Rattle.text.specs.Buffer.{laid}
use Rattle.message.specs.declared.Reading.{Reading}
use Rattle.message.specs.Reading.{Answers}
use Rattle.message.specs.declared.Written.{Written}
use Rattle.extract_line.specs.Extract.{line_of}

-- what a reading and the room there is decide
pub data Gives (r : Reading) (before after : List ℕ) (e : Written) : Type 0 where
  -- "the reader's", then no byte of the buffer changes
  row_refused : (r.refusal ≡ ACCEPTED → ⊥) → e ≡ record { place = r.place; refusal = r.refusal } → after ≡ before → Gives r before after e
  -- "then ROOM with the bytes needed, exactly when the lent buffer is shorter than the line"
  row_room : r.refusal ≡ ACCEPTED → length before < length (line_of r.message)
      → e ≡ record { place = length (line_of r.message); refusal = ROOM } → after ≡ before → Gives r before after e
  -- else the line, from the buffer's first byte on; "no byte past the line changes"
  row_extracted : r.refusal ≡ ACCEPTED → length (line_of r.message) ≤ length before
      → e ≡ record { place = length (line_of r.message); refusal = ACCEPTED } → after ≡ laid (line_of r.message) before → Gives r before after e

-- of the reading that answers to the scan
pub record Extracts (scan before after : List ℕ) (e : Written) : Type 0 where
  pub reading : Reading
  pub answers : Answers Edition.Current scan reading
  pub gives : Gives reading before after e
