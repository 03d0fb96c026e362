-- What reading a block and writing leave in memory, and what they add to the ledger of all that was read and written.
use Rattle.std.specs.Prelude.{ℕ, ◌+◌, ◌^◌, ◌≤◌, ◌<◌, ◌≡◌, List, [], length, take, ⊤, Option, Some, None, Result, Ok, Err}
use Rattle.std.proofs.Math.Seq.{slice}
use Rattle.calls.specs.Calls.{Moved, Ended, Broken, Short}
use Rattle.lines.specs.Lines.{JUDGED}
use Rattle.blocks.specs.declared.Unsent.{Unsent}

-- how much is read at a time
abbrev pub BLOCK : ℕ
BLOCK = 65536

-- room for what is kept of a line, and a block behind it
abbrev pub INPUT_ROOM : ℕ
INPUT_ROOM = JUDGED + BLOCK

-- more turns than any input takes: a proved loop has to end
abbrev pub TURNS : ℕ
TURNS = 2 ^ 47

-- what came stands behind the kept bytes, no more than a block; nothing at the end of the input
abbrev pub ComesBehind : {E : Type 0} (kept : ℕ) (buffer : List ℕ) (from to : ℕ) → Result (Option ℕ) E → Type 0
ComesBehind kept buffer n m (Ok (Some size)) = (size ≤ BLOCK) × Moved n m (slice kept (kept + size) buffer) [] × (size ≡ 0 → Ended m)
ComesBehind kept buffer n m (Ok None) = Moved n m [] []
ComesBehind kept buffer n m (Err _) = Moved n m [] [] × Broken m

-- a read leaves the kept bytes as they are, in front of what came
pub record Reads {E : Type 0} (kept : ℕ) (buffer buffer' : List ℕ) (from to : ℕ) (r : Result (Option ℕ) E) : Type 0 where
  pub stays : take kept buffer' ≡ take kept buffer
  pub brings : ComesBehind kept buffer' from to r

-- the output took all of it; or a front that is not all, and the last write did not take all that was left
abbrev pub Sends : (out : List ℕ) (from to : ℕ) → Result ⊤ Unsent → Type 0
Sends out n m (Ok _) = Moved n m [] out
Sends out n m (Err x) = (x.done < length out) × Moved n m [] (take x.done out) × Short m
