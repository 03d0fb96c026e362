-- A program's input and output from its start on, whatever is written for a line.
use Rattle.std.specs.Prelude.{ℕ, ◌+◌, ◌<◌, ◌≡◌, List, [], ◌++◌, length}
use Rattle.calls.specs.Calls.{Moved, Ended, Broken, Short}
use Rattle.lines.specs.Lines.{lines, ended_from}
use Rattle.lines.specs.Texts.{Texts}
use Rattle.stream.specs.declared.End.{End}

-- the reading ended as `How` says, and what the output took is the text of these lines of what came
pub record Wrote (Line : ℕ → List ℕ → List ℕ → Type 0) (How : ℕ → Type 0) (these : List ℕ → List (List ℕ)) (clock : ℕ) : Type 0 where
  pub input : List ℕ
  pub before : List ℕ
  pub after : List ℕ
  pub end : ℕ
  pub came : Moved 0 end input before
  pub how : How end
  pub rest : Moved end clock [] after
  pub texts : Texts Line 1 (these input) (before ++ after)

-- what the output took and then `owed` is the text of the first lines of what came, those before the line `next`
pub record Owing (Line : ℕ → List ℕ → List ℕ → Type 0) (clock next : ℕ) (owed : List ℕ) : Type 0 where
  pub input : List ℕ
  pub put : List ℕ
  pub first : List (List ℕ)
  pub others : List (List ℕ)
  pub moved : Moved 0 clock input put
  pub lines_are : lines input ≡ first ++ others
  pub counted : next ≡ 1 + length first
  pub texts : Texts Line 1 first (put ++ owed)

-- an output that takes no more: some of that text is not written, and the last write did not take all that was left of it
pub record Cut (Line : ℕ → List ℕ → List ℕ → Type 0) (clock : ℕ) : Type 0 where
  pub next : ℕ
  pub owed : List ℕ
  pub some : 0 < length owed
  pub short : Short clock
  pub owing : Owing Line clock next owed

-- what a run leaves: the text of all lines, at the end of the input; that of the lines that an LF ends, after a read that failed, or where no more is read
abbrev pub Ran : (Line : ℕ → List ℕ → List ℕ → Type 0) (clock : ℕ) → End → Type 0
Ran Line clock End.Whole = Wrote Line Ended lines clock
Ran Line clock End.Failed = Wrote Line Broken (ended_from []) clock
Ran Line clock End.Spent = Wrote Line (λ end. Unit) (ended_from []) clock
Ran Line clock End.Stopped = Cut Line clock
