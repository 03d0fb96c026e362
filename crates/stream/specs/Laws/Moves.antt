-- What the functions that move blocks ask for and leave.
use Rattle.std.specs.Prelude.{ℕ, ◌+◌, ◌^◌, ◌≤◌, ◌<◌, ◌≡◌, Bool, true, false, List, [], ◌++◌, length, take, drop, Option, Some, None}
use Rattle.std.proofs.Math.Seq.{slice}
use Rattle.calls.specs.Calls.{Moved, Ended, Broken}
use Rattle.blocks.specs.Reads.{BLOCK, INPUT_ROOM}
use Rattle.lines.specs.Lines.{JUDGED, lines}
use Rattle.lines.specs.Buffer.{Lays}
use Rattle.lines.specs.Texts.{Texts}
use Rattle.lines.specs.Laws.Upto.{Upto}
use Rattle.stream.specs.declared.Step.{Step}
use Rattle.stream.specs.declared.Flow.{Flow}
use Rattle.stream.specs.Jobs.{LINE_ROOM, OUTPUT_ROOM}
use Rattle.stream.specs.Stream.{Cut}

-- underway: of all that came, `ahead` is still to be searched; what the output took and then what is laid out is the text of the lines that ended before
pub record Stream (Line : ℕ → List ℕ → List ℕ → Type 0) (clock : ℕ) (ahead : List ℕ) (number : ℕ) (begun laid : List ℕ) : Type 0 where
  pub passed : List ℕ
  pub put : List ℕ
  pub moved : Moved 0 clock (passed ++ ahead) put
  pub upto : Upto Line passed (put ++ laid) number begun

-- a line's text is laid out, in no more than the room for one
pub record LaysLine (P : List ℕ → Type 0) (at : ℕ) (before after : List ℕ) (r : ℕ) : Type 0 where
  pub lays : Lays P at before after r
  pub near : r ≤ at + LINE_ROOM

-- what is laid out and not yet written
abbrev pub waiting : Flow → List ℕ
waiting f = take f.bench.used f.out

-- all of it was taken, or the output takes no more
abbrev pub SendsOwed : (Line : ℕ → List ℕ → List ℕ → Type 0) (out : List ℕ) (from to : ℕ) → Bool → Type 0
SendsOwed Line out n m true = Moved n m [] out
SendsOwed Line out n m false = Cut Line m

-- less than a block is left laid out, and what stood before it was taken
abbrev pub Flushes : (Line : ℕ → List ℕ → List ℕ → Type 0) (out : List ℕ) (used from to : ℕ) → Option ℕ → Type 0
Flushes Line out used n m (Some k) = (k < BLOCK) × ((sent : List ℕ) × Moved n m [] sent × (take used out ≡ sent ++ take k out))
Flushes Line out used n m None = Cut Line m

-- of the first `fill` bytes of the buffer, the lines up to `at` are told of, and from there to `seen` no LF was found
pub record Telling (Line : ℕ → List ℕ → List ℕ → Type 0) (first fill at seen : ℕ) (f : Flow) (clock : ℕ) : Type 0 where
  pub one : 1 ≤ first
  pub numbers : first + fill < 2 ^ 64
  pub ordered : at ≤ seen
  pub inside : seen ≤ fill
  pub filled : fill ≤ INPUT_ROOM
  pub in_size : length f.buffer ≡ INPUT_ROOM
  pub out_size : length f.out ≡ OUTPUT_ROOM
  pub below : f.bench.used < BLOCK
  pub most : first ≤ f.bench.line
  pub few : f.bench.line ≤ first + at
  pub stream : Stream Line clock (drop seen (take fill f.buffer)) f.bench.line (slice at seen (take fill f.buffer)) (waiting f)

-- the kept bytes and then a block stand in the buffer
abbrev pub Begun : (Line : ℕ → List ℕ → List ℕ → Type 0) (f : Flow) (fill clock : ℕ) → Type 0
Begun Line f fill clock = Telling Line f.bench.line fill 0 f.bench.kept f clock

-- each line that ended is told of, and what is left of the input, from `rest` on, begins the next
abbrev pub TellsLined : (Line : ℕ → List ℕ → List ℕ → Type 0) (first fill : ℕ) (f : Flow) (clock : ℕ) → Option ℕ → Type 0
TellsLined Line first fill f clock (Some rest) = Telling Line first fill rest fill f clock
TellsLined Line first fill f clock None = Cut Line clock

-- between two blocks
pub record Between (Line : ℕ → List ℕ → List ℕ → Type 0) (f : Flow) (clock : ℕ) : Type 0 where
  pub kept : f.bench.kept ≤ JUDGED
  pub used : f.bench.used < BLOCK
  pub first : 1 ≤ f.bench.line
  pub in_size : length f.buffer ≡ INPUT_ROOM
  pub out_size : length f.out ≡ OUTPUT_ROOM
  pub stream : Stream Line clock [] f.bench.line (take f.bench.kept f.buffer) (waiting f)

-- a turn that began with the line `line` takes a block, or leaves everything: for the end of the input, or its error
abbrev pub Turns : (Line : ℕ → List ℕ → List ℕ → Type 0) (line : ℕ) (f : Flow) (clock : ℕ) → Step → Type 0
Turns Line line f clock Step.Next = Between Line f clock × (f.bench.line ≤ line + INPUT_ROOM)
Turns Line line f clock Step.Ended = Between Line f clock × (f.bench.line ≡ line) × Ended clock
Turns Line line f clock Step.Failed = Between Line f clock × Broken clock
Turns Line line f clock Step.Stopped = Cut Line clock

-- the whole input came, and what the output took and then `out` is the text of its lines, those before the line `next`
pub record Closing (Line : ℕ → List ℕ → List ℕ → Type 0) (clock next : ℕ) (out : List ℕ) : Type 0 where
  pub input : List ℕ
  pub put : List ℕ
  pub moved : Moved 0 clock input put
  pub counted : next ≡ 1 + length (lines input)
  pub texts : Texts Line 1 (lines input) (put ++ out)
