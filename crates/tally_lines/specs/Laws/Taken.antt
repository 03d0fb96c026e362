-- A block as a whole, and the end: what is kept, what is counted.
use Rattle.std.specs.Prelude.{ℕ, ◌+◌, ◌-◌, ◌≤◌, ◌≡◌, refl, Bool, true, false, cond, List, [], ◌∷◌, length, take}
use Rattle.std.proofs.Common.{sym, ap, ◌∙◌, arith, length-take, take-take, take_all, length-take-le, le-ltb}
use Rattle.std.proofs.Math.Seq.{slice}
use Rattle.lines.specs.Lines.{JUDGED, left_from, last_line, judged}
use Rattle.lines.specs.Laws.Lines.{last_one}
use Rattle.lines.specs.Laws.Judged.{judged_length}
use Rattle.lines.specs.Laws.Kept.{Cut, Kept}
use Rattle.tally_lines.specs.declared.Cursor.{Cursor}
use Rattle.tally_lines.specs.declared.Progress.{Progress}
use Rattle.tally_figures.specs.declared.Counters.{Counters}
use Rattle.tally_figures.specs.Counters.{AddsLines, Within}
use Rattle.tally_lines.specs.Blocks.{Counted, Ready, Taken, Closed}
use Rattle.tally_figures.specs.Laws.Counters.{lines_none, within_more}
use Rattle.tally_lines.specs.Laws.Underway.{Ended}

-- nothing is kept of nothing
judged_kept : (t : Bool) (u : List ℕ) → judged (cond t [] u) ≡ cond t [] (judged u)
judged_kept true u = refl
judged_kept false u = refl

-- a block and the bytes kept before it, as the loop over lines wants them
module _ {limit : ℕ} {p : Progress} {buffer : List ℕ} {fill : ℕ} {before : Counters} (r : Ready limit p buffer fill before) where
  all_long : length (take fill buffer) ≡ fill
  all_long = length-take-le fill buffer r.filled

  pub kept_inside : p.kept ≤ length (take fill buffer)
  kept_inside = rw all_long r.kept

  module _ {after : Counters} {c : Cursor} (e : Ended (take fill buffer) p.kept limit p.lines before after c) where
    -- the line that it leaves
    pub left_cut : Cut c.at fill buffer
    left_cut = record { ordered = rw all_long at e.inside; inside = r.filled }

    pub taken : {buffer' : List ℕ} {kept : ℕ} → Kept c.at fill buffer buffer' kept
        → Taken limit p fill buffer buffer' before after record { lines = c.lines; kept = kept; stopped = c.stopped }
    taken k =
        let begun : take p.kept (take fill buffer) ≡ take p.kept buffer = take-take p.kept fill buffer r.kept in
        record {
          keeps = judged (slice c.at fill buffer);
          front = k.front;
          kept = k.size;
          takes = record { lines = rw begun at e.lines; rest = ap judged (rw begun at e.left) ∙ judged_kept c.stopped _ };
        }

-- the end of the input
module _ {limit : ℕ} {p : Progress} {buffer : List ℕ} {c : Counters} (w : Ready limit p buffer p.kept c) where
  -- nothing is left
  pub closed_none : p.kept ≡ 0 → Closed limit p buffer c c record { lines = p.lines; kept = 0; stopped = false }
  closed_none e =
      let none : last_line (take p.kept buffer) ≡ [] = ap (λ (k : ℕ). last_line (take k buffer)) e in
      let no : take (limit - p.lines) (last_line (take p.kept buffer)) ≡ [] = rw none (take_all (limit - p.lines) [] (omega arith)) in
      record {
        lines = record { adds = rw no lines_none; counted = rw no (omega arith); says = rw none (sym (le-ltb (limit - p.lines) 0 (omega arith))) };
        kept = refl;
      }

  module _ (f : p.kept ≡ 0 → ⊥) where
    one_left : last_line (take p.kept buffer) ≡ take p.kept buffer ∷ []
    one_left = last_one (take p.kept buffer) (omega (arith, length-take-le p.kept buffer w.filled))

    -- one line more is there
    pub closed_stopped : p.lines ≡ limit → Closed limit p buffer c c record { lines = p.lines; kept = 0; stopped = true }
    closed_stopped e =
        let full : limit - p.lines ≡ 0 = omega arith in
        record {
          lines = record { adds = rw full lines_none; counted = rw full (omega arith); says = rw (full, one_left) };
          kept = refl;
        }

    -- it is counted
    pub closed_line : (p.lines ≡ limit → ⊥) → {c' : Counters} → AddsLines (take p.kept buffer ∷ []) c c'
        → Closed limit p buffer c c' record { lines = p.lines + 1; kept = 0; stopped = false }
    closed_line g x =
        let line = take p.kept buffer in
        let most = w.within.most in
        let all : take (limit - p.lines) (line ∷ []) ≡ line ∷ [] = take_all (limit - p.lines) (line ∷ []) (omega arith) in
        record {
          lines =
              record {
                adds = rw (one_left, all) x;
                counted = rw (one_left, all) (omega arith);
                says = rw one_left (sym (le-ltb (limit - p.lines) 1 (omega arith)));
              };
          kept = refl;
        }

-- how far a block brings a tally
pub counted_within : {limit n next : ℕ} {ls : List (List ℕ)} {before after : Counters} {stopped : Bool} → Within limit n before
    → Counted limit n ls before after next stopped → Within limit next after
counted_within {limit} {n} {ls = ls} w x =
    let few = length-take (limit - n) ls in
    rw x.counted (within_more w x.adds refl (omega (arith, w.most)))

kept_few : (t : Bool) (u : List ℕ) → length (cond t [] (judged u)) ≤ JUDGED
kept_few true u = omega arith
kept_few false u = judged_length u

pub taken_kept : {limit fill : ℕ} {p r : Progress} {buffer buffer' : List ℕ} {before after : Counters}
    → Taken limit p fill buffer buffer' before after r → r.kept ≤ JUDGED
taken_kept {fill = fill} {p} {r} {buffer} x =
    let left = left_from (take p.kept buffer) (slice p.kept fill buffer) in
    omega (arith, x.kept, ap length x.takes.rest, kept_few r.stopped left)
