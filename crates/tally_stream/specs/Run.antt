-- W-206: the tally of what came from the program's start on, and what is printed of it.
use Rattle.std.specs.Prelude.{ℕ, ◌<◌, ◌≡◌, Bool, true, false, List, [], length, take}
use Rattle.calls.specs.Calls.{Moved, Ended, Broken, Short}
use Rattle.lines.specs.Lines.{lines, ended_from}
use Rattle.tally_figures.specs.Tally.{Tallied}
use Rattle.tally_text.specs.Text.{TallyText}
use Rattle.tally_stream.specs.declared.How.{How}
use Rattle.tally_stream.specs.declared.End.{End}

-- whose figures these are: those of all lines, or where the input is not read to its end of the lines that an LF ends
abbrev pub counted_of : How → List ℕ → List (List ℕ)
counted_of How.Whole = lines
counted_of How.Failed = ended_from []
counted_of How.Spent = ended_from []

-- the last read found the end of the input, unless the limit stopped the tally; or it failed
abbrev pub LastRead : How → (stopped : Bool) (clock : ℕ) → Type 0
LastRead How.Whole stopped m = stopped ≡ false → Ended m
LastRead How.Failed stopped m = (stopped ≡ false) × Broken m
LastRead How.Spent stopped m = stopped ≡ false

-- whether the figures must not pass for those of the whole input, for want of reading
abbrev pub failed_of : How → Bool
failed_of How.Whole = false
failed_of How.Failed = true
failed_of How.Spent = true

-- what came up to a call, and its figures
pub record CountedUpto (limit clock : ℕ) (how : How) (figures : List ℕ) (stopped : Bool) : Type 0 where
  pub input : List ℕ
  pub came : Moved 0 clock input []
  pub read : LastRead how stopped clock
  pub tallied : Tallied limit (counted_of how input) figures stopped

-- the tally of that, of whose text the output took what `Put` says
pub record PutTally (limit clock : ℕ) (how : How) (Put : (from to : ℕ) (text : List ℕ) → Type 0) : Type 0 where
  pub at : ℕ
  pub figures : List ℕ
  pub stopped : Bool
  pub text : List ℕ
  pub counts : CountedUpto limit at how figures stopped
  pub tells : TallyText figures stopped (failed_of how) text
  pub put : Put at clock text

-- all of a text; or a front that is not all of it, and the last write did not take all that was left
abbrev pub All : (from to : ℕ) (text : List ℕ) → Type 0
All n m text = Moved n m [] text

abbrev pub Front : (from to : ℕ) (text : List ℕ) → Type 0
Front n m text = (size : ℕ) × (size < length text) × Moved n m [] (take size text) × Short m

-- what a run leaves
abbrev pub Ran : (limit clock : ℕ) → End → Type 0
Ran limit clock (End.Printed how) = PutTally limit clock how All
Ran limit clock (End.Unwritten how) = PutTally limit clock how Front
