-- The loop over the lines of a block: each line that ended is counted, until the limit is reached and one more is there.
use Rattle.std.specs.Prelude.{ℕ, ◌+◌, ◌-◌, ◌^◌, ◌≤◌, ◌<◌, ◌≡◌, refl, true, false, cond, List, [], ◌∷◌, ◌++◌, ltb, length, take, drop}
use Rattle.std.proofs.Common.{sym, arith, length-append, drop_of_length-le, take_all, take_at, lt-ltb, le-ltb}
use Rattle.std.proofs.Math.Seq.{slice}
use Rattle.lines.specs.Lines.{ended_from}
use Rattle.lines.specs.Laws.Lines.{Found}
use Rattle.lines.specs.Laws.Splits.{Splits, ended_in, left_in, slice_taken, splits_first, splits_all, splits_more, splits_next}
use Rattle.tally_lines.specs.declared.Cursor.{Cursor}
use Rattle.tally_figures.specs.declared.Counters.{Counters}
use Rattle.tally_figures.specs.Counters.{AddsLines, Low, Within}
use Rattle.tally_lines.specs.Blocks.{Counted}
use Rattle.tally_figures.specs.Laws.Counters.{low_more, lines_none, lines_then, within_more}

-- the lines up to `at` are counted, and from there to `seen` no LF was found
pub record Underway (input : List ℕ) (kept limit first : ℕ) (before : Counters) (at seen n : ℕ) (after : Counters) : Type 0 where
  pub done : List (List ℕ)
  pub splits : Splits input kept at seen done
  pub counted : n ≡ first + length done
  pub within : Within limit n after
  pub adds : AddsLines done before after

-- all of it
pub record Ended (input : List ℕ) (kept limit first : ℕ) (before after : Counters) (c : Cursor) : Type 0 where
  pub inside : c.at ≤ length input
  pub lines : Counted limit first (ended_in input kept) before after c.lines c.stopped
  pub left : drop c.at input ≡ cond c.stopped [] (left_in input kept)

pub underway_first : {input : List ℕ} {kept limit first : ℕ} {c : Counters} → kept ≤ length input → Within limit first c
    → Underway input kept limit first c 0 kept first c
underway_first h w = record { done = []; splits = splits_first h; counted = omega arith; within = w; adds = lines_none }

-- a counter can be one higher
pub room_left : {limit n : ℕ} {c : Counters} → limit < 2 ^ 32 → Within limit n c → Low (2 ^ 63) c
room_left h w = low_more w.low (omega (arith, w.most))

module _ {input : List ℕ} {kept limit first : ℕ} {before : Counters} {at seen n : ℕ} {after : Counters}
    (u : Underway input kept limit first before at seen n after) {end : ℕ} (f : Found input seen end) where
  -- no further line ends
  pub underway_ended : end ≡ length input → Ended input kept limit first before after record { lines = n; at = at; stopped = false }
  underway_ended e =
      let (done, left) = splits_all u.splits f e in
      let all : take (limit - first) u.done ≡ u.done = take_all (limit - first) u.done (omega (arith, u.within.most)) in
      let few : ltb (limit - first) (length u.done) ≡ false = le-ltb (limit - first) (length u.done) (omega (arith, u.within.most)) in
      record {
        inside = omega arith;
        lines = rw done record { adds = rw all u.adds; counted = rw all u.counted; says = sym few };
        left = left;
      }

  module _ (g : end ≡ length input → ⊥) where
    -- one more line is there
    pub underway_stopped : n ≡ limit → Ended input kept limit first before after record { lines = n; at = length input; stopped = true }
    underway_stopped e =
        let more = splits_more u.splits f g in
        let rest = slice at end input ∷ ended_from [] (drop (end + 1) input) in
        let size : length u.done ≡ limit - first = omega arith in
        let first' : take (limit - first) (u.done ++ rest) ≡ u.done = take_at u.done rest (limit - first) size in
        let past : ltb (limit - first) (length (u.done ++ rest)) ≡ true =
        lt-ltb (limit - first) (length (u.done ++ rest)) (omega (arith, length-append u.done rest)) in
        record {
          inside = omega arith;
          lines = rw more record { adds = rw first' u.adds; counted = rw first' u.counted; says = sym past };
          left = drop_of_length-le input {i = length input} (omega arith);
        }

    -- the line that ends there is counted
    pub underway_next : (n ≡ limit → ⊥) → {after' : Counters} → AddsLines (take (end - at) (drop at input) ∷ []) after after'
        → Underway input kept limit first before (end + 1) (end + 1) (n + 1) after'
    underway_next few x =
        let line = slice at end input in
        let adds = rw (slice_taken input at end (omega arith) (omega arith)) at x in
        let one : length (u.done ++ line ∷ []) ≡ length u.done + 1 = length-append u.done (line ∷ []) in
        record {
          done = u.done ++ line ∷ [];
          splits = splits_next u.splits f g;
          counted = omega arith;
          within = within_more u.within adds refl (omega (arith, u.within.most));
          adds = lines_then u.adds adds;
        }
