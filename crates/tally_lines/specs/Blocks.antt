-- What is kept between two blocks of input, and what each block adds to the counters.
use Rattle.std.specs.Prelude.{ℕ, ◌+◌, ◌-◌, ◌≤◌, ◌≡◌, Bool, cond, List, [], ltb, length, take}
use Rattle.std.proofs.Math.Seq.{slice}
use Rattle.text.specs.Buffer.{laid}
use Rattle.lines.specs.Lines.{ended_from, left_from, last_line, judged}
use Rattle.tally_lines.specs.declared.Progress.{Progress}
use Rattle.tally_figures.specs.declared.Counters.{Counters}
use Rattle.tally_figures.specs.Counters.{AddsLines, Within}

-- lines after n that were counted: up to the limit they are counted, and whether one more is there is said
pub record Counted (limit n : ℕ) (ls : List (List ℕ)) (before after : Counters) (next : ℕ) (stopped : Bool) : Type 0 where
  pub adds : AddsLines (take (limit - n) ls) before after
  pub counted : next ≡ n + length (take (limit - n) ls)
  pub says : stopped ≡ ltb (limit - n) (length ls)

-- a block after the bytes kept of a line: the lines that end in it are counted, and of the line it leaves what will be judged is kept;
-- a tally that stopped keeps nothing
pub record CountsBlock (limit n : ℕ) (kept block : List ℕ) (before after : Counters) (next : ℕ) (keeps : List ℕ) (stopped : Bool) : Type 0 where
  pub lines : Counted limit n (ended_from kept block) before after next stopped
  pub rest : keeps ≡ cond stopped [] (judged (left_from kept block))

-- a block stands in the buffer behind the kept bytes, and the counters are within the limit
pub record Ready (limit : ℕ) (p : Progress) (buffer : List ℕ) (fill : ℕ) (c : Counters) : Type 0 where
  pub kept : p.kept ≤ fill
  pub filled : fill ≤ length buffer
  pub within : Within limit p.lines c

-- what taking a block does: the kept bytes go to the front of the buffer, all other bytes stay
pub record Taken (limit : ℕ) (p : Progress) (fill : ℕ) (buffer buffer' : List ℕ) (before after : Counters) (r : Progress) : Type 0 where
  pub keeps : List ℕ
  pub front : buffer' ≡ laid keeps buffer
  pub kept : r.kept ≡ length keeps
  pub takes : CountsBlock limit p.lines (take p.kept buffer) (slice p.kept fill buffer) before after r.lines keeps r.stopped

-- and the end of the input: the last line, if it counts
pub record Closed (limit : ℕ) (p : Progress) (buffer : List ℕ) (before after : Counters) (r : Progress) : Type 0 where
  pub lines : Counted limit p.lines (last_line (take p.kept buffer)) before after r.lines r.stopped
  pub kept : r.kept ≡ 0
