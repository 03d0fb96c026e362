-- The line numbers that are said on standard error.
use Rattle.std.specs.Prelude.{ℕ, ◌<◌, ◌≡◌, List, [], ◌++◌, length}
use Rattle.calls.specs.Calls.{Moved}
use Rattle.lines.specs.Lines.{lines, ended_from}
use Rattle.lines.specs.Texts.{Reaches}

-- the last line that an LF ends in what came up to this call
pub record LastEnded (clock last : ℕ) : Type 0 where
  pub input : List ℕ
  pub put : List ℕ
  pub moved : Moved 0 clock input put
  pub ended : last ≡ length (ended_from [] input)

-- more lines came up to this call than the limit
pub record LimitPassed (clock limit : ℕ) : Type 0 where
  pub input : List ℕ
  pub put : List ℕ
  pub moved : Moved 0 clock input put
  pub more : limit < length (lines input)

-- the last line whose text was written whole up to this call
pub record LastWhole (Line : ℕ → List ℕ → List ℕ → Type 0) (clock last : ℕ) : Type 0 where
  pub input : List ℕ
  pub put : List ℕ
  pub first : List (List ℕ)
  pub others : List (List ℕ)
  pub moved : Moved 0 clock input put
  pub lines_are : lines input ≡ first ++ others
  pub reaches : Reaches Line 0 first put last
