-- What the program's loop keeps of what came, within its buffer and its counters, and what it prints.
use Rattle.std.specs.Prelude.{ℕ, zero, suc, ◌+◌, ◌-◌, ◌≤◌, ◌≡◌, refl, Bool, true, false, List, [], ◌++◌, length, get_or, take, drop, replicate}
use Rattle.std.proofs.Common.{sym, ap, ◌∙◌, true≢false, append-nil, arith, take_all, ltb-true, ltb-false}
use Rattle.std.proofs.lemmas.List.{length-replicate}
use Rattle.std.proofs.Math.Seq.{slice, take-append_seam}
use Rattle.calls.specs.Calls.{Moved, Ended, Broken, moved_still, moved_then}
use Rattle.blocks.specs.Reads.{INPUT_ROOM}
use Rattle.notices.specs.Numbers.{LastEnded, LimitPassed}
use Rattle.lines.specs.Lines.{JUDGED, lines, ended_from}
use Rattle.lines.specs.Buffer.{Lays}
use Rattle.tally_figures.specs.declared.Counters.{Counters}
use Rattle.tally_figures.specs.Counters.{BY_NUMBER, BY_FORM, BY_KIND, Below, Low, Within, zeros, shown}
use Rattle.tally_lines.specs.declared.Progress.{Progress}
use Rattle.tally_lines.specs.Blocks.{CountsBlock, Ready, Taken, Closed}
use Rattle.tally_lines.specs.Laws.Taken.{counted_within, taken_kept}
use Rattle.tally_lines.specs.Laws.One.{taken_takes}
use Rattle.tally_lines.specs.Laws.Sofar.{Sofar, sofar_first, sofar_took, sofar_stopped, sofar_end, sofar_part}
use Rattle.tally_text.specs.Laws.Tally.{LaysTally}
use Rattle.tally_stream.specs.declared.How.{How}
use Rattle.tally_stream.specs.declared.Step.{Step}
use Rattle.tally_stream.specs.declared.Counted.{Counted}
use Rattle.tally_stream.specs.Run.{failed_of, CountedUpto, PutTally, All, Front}

-- nothing is counted or kept before the first line
pub record First (p : Progress) : Type 0 where
  pub lines : p.lines ≡ 0
  pub kept : p.kept ≡ 0
  pub stopped : p.stopped ≡ false

-- between two turns
pub record Going (limit : ℕ) (p : Progress) (c : Counters) : Type 0 where
  pub kept : p.kept ≤ JUDGED
  pub within : Within limit p.lines c

-- what came is counted up to its unfinished line
pub record Came (limit clock : ℕ) (p : Progress) (buffer : List ℕ) (c : Counters) : Type 0 where
  pub input : List ℕ
  pub moved : Moved 0 clock input []
  pub unstopped : p.stopped ≡ false
  pub sofar : Sofar limit input p.lines (take p.kept buffer) c

-- after a block: the tally goes on, or it stopped
abbrev pub Left : (limit clock : ℕ) (p : Progress) (buffer : List ℕ) (c : Counters) → Bool → Type 0
Left limit clock p buffer c true = CountedUpto limit clock How.Whole (shown p.lines c) true
Left limit clock p buffer c false = Came limit clock p buffer c

-- what a turn leaves; the end of the input or its error leaves the tally as it was
abbrev pub Turned : (limit clock : ℕ) (p : Progress) (buffer : List ℕ) (c : Counters) → Step → Type 0
Turned limit clock p buffer c (Step.Next r) = Going limit r c × Left limit clock r buffer c r.stopped
Turned limit clock p buffer c Step.Ended = Going limit p c × Came limit clock p buffer c × Ended clock
Turned limit clock p buffer c Step.Failed = Going limit p c × Came limit clock p buffer c × Broken clock

-- what was counted, and that it is within the limit
pub record Shown (limit clock : ℕ) (c : Counters) (t : Counted) : Type 0 where
  pub counts : CountedUpto limit clock t.how (shown t.lines c) t.stopped
  pub within : Within limit t.lines c

-- all of a text was taken, or a front that is not all
abbrev pub SendsText : (out : List ℕ) (from to : ℕ) → Bool → Type 0
SendsText out n m true = All n m out
SendsText out n m false = Front n m out

abbrev pub Shows : (limit : ℕ) (t : Counted) (clock : ℕ) → Bool → Type 0
Shows limit t clock true = PutTally limit clock t.how All
Shows limit t clock false = PutTally limit clock t.how Front

module _ {limit clock : ℕ} {p : Progress} {buffer : List ℕ} {c : Counters} where
  pub left_open : (t : Bool) → t ≡ false → Came limit clock p buffer c → Left limit clock p buffer c t
  left_open false e x = x
  left_open true e x = absurd (true≢false e)

  pub open_left : (t : Bool) → t ≡ false → Left limit clock p buffer c t → Came limit clock p buffer c
  open_left false e x = x
  open_left true e x = absurd (true≢false e)

-- the tally stopped
pub left_stopped : (limit clock : ℕ) (p : Progress) (buffer : List ℕ) (c : Counters) (t : Bool) → t ≡ true → Left limit clock p buffer c t
    → CountedUpto limit clock How.Whole (shown p.lines c) t
left_stopped limit clock p buffer c true e x = x
left_stopped limit clock p buffer c false e x = absurd (true≢false (sym e))

module _ {limit clock : ℕ} {p : Progress} {buffer : List ℕ} {a : Counters} (s : Came limit clock p buffer a) where
  -- nothing came
  pub came_stays : {clock' : ℕ} {buffer' : List ℕ} → take p.kept buffer' ≡ take p.kept buffer → Moved clock clock' [] []
      → Came limit clock' p buffer' a
  came_stays stays y =
      record {
        input = s.input;
        moved = rw (append-nil s.input) at (moved_then s.moved y);
        unstopped = s.unstopped;
        sofar = rw stays s.sofar;
      }

  -- a block came
  pub came_took : {clock' : ℕ} {block : List ℕ} → Moved clock clock' block [] → (r : Progress) (buffer' : List ℕ) {b : Counters} (t : Bool)
      → r.stopped ≡ t
      → CountsBlock limit p.lines (take p.kept buffer) block a b r.lines (take r.kept buffer') r.stopped
      → Left limit clock' r buffer' b t
  came_took {block = block} y r buffer' false e x =
      record { input = s.input ++ block; moved = moved_then s.moved y; unstopped = e; sofar = sofar_took s.sofar (rw e at x) }
  came_took {block = block} y r buffer' true e x =
      record { input = s.input ++ block; came = moved_then s.moved y; read = λ f. absurd (true≢false f); tallied = sofar_stopped s.sofar (rw e at x) }

  -- the end of the input is counted
  pub came_end : Ended clock → {r : Progress} {b : Counters} → Closed limit p buffer a b r
      → CountedUpto limit clock How.Whole (shown r.lines b) r.stopped
  came_end e x = record { input = s.input; came = s.moved; read = λ f. e; tallied = sofar_end s.sofar x.lines }

  -- or only the lines that ended
  pub came_failed : Broken clock → CountedUpto limit clock How.Failed (shown p.lines a) p.stopped
  came_failed b = record { input = s.input; came = s.moved; read = (s.unstopped, b); tallied = rw s.unstopped (sofar_part s.sofar) }

  pub came_spent : CountedUpto limit clock How.Spent (shown p.lines a) p.stopped
  came_spent = record { input = s.input; came = s.moved; read = s.unstopped; tallied = rw s.unstopped (sofar_part s.sofar) }

  -- so many lines ended
  pub came_ended : LastEnded clock p.lines
  came_ended =
      let x = s.sofar.counted in
      let few : length (ended_from [] s.input) ≤ limit - 0 = ltb-false (limit - 0) (length (ended_from [] s.input)) (sym x.says) in
      let all : take (limit - 0) (ended_from [] s.input) ≡ ended_from [] s.input = take_all (limit - 0) (ended_from [] s.input) few in
      record { input = s.input; put = []; moved = s.moved; ended = x.counted ∙ ap (λ (l : List (List ℕ)). 0 + length l) all ∙ omega arith }

-- a block was taken with the bytes kept before it
pub took : {limit fill clock clock' : ℕ} {p r : Progress} {buffer mid buffer' : List ℕ} {a b : Counters} → Going limit p a
    → Came limit clock p buffer a → Moved clock clock' (slice p.kept fill mid) []
    → take p.kept mid ≡ take p.kept buffer → Taken limit p fill mid buffer' a b r
    → Going limit r b × Left limit clock' r buffer' b r.stopped
took {r = r} {buffer' = buffer'} g s y stays x = (
  record { kept = taken_kept x; within = counted_within g.within x.takes.lines },
  came_took s y r buffer' r.stopped refl (rw stays at (taken_takes x)),
)

-- at the end of the input
pub going_end : {limit : ℕ} {p : Progress} {buffer : List ℕ} {c : Counters} → Going limit p c → length buffer ≡ INPUT_ROOM → Ready limit p buffer p.kept c
going_end g z = record { kept = omega arith; filled = omega (arith, g.kept); within = g.within }

pub came_first : {limit clock : ℕ} {p : Progress} {buffer : List ℕ} {c : Counters} → First p → clock ≡ 0 → c ≡ zeros
    → Came limit clock p buffer c
came_first f e z =
    record { input = []; moved = rw e moved_still; unstopped = f.stopped; sofar = rw (f.lines, f.kept, z) sofar_first }

-- counters made of zeros are such
zero_at : (size n : ℕ) → get_or {A = ℕ} (replicate size 0) n 0 ≤ 0
zero_at zero n = omega arith
zero_at (suc size) zero = omega arith
zero_at (suc size) (suc n) = zero_at size n

zeros_below : (size : ℕ) → Below size 0 (replicate size 0)
zeros_below size = record { long = length-replicate size 0; each = zero_at size }

pub first_going : {limit : ℕ} {p : Progress} {c : Counters} → First p → c ≡ zeros → Going limit p c
first_going f z =
    let low : Low 0 zeros = record { numbers = zeros_below BY_NUMBER; forms = zeros_below BY_FORM; kinds = zeros_below BY_KIND } in
    record { kept = omega (arith, f.kept); within = rw (f.lines, z) record { most = omega arith; low = low; accepted = zero_at BY_NUMBER 0 } }

-- a tally that stopped was handed more lines than the limit
passed_by : (how : How) {limit clock : ℕ} {figures : List ℕ} {stopped : Bool} → CountedUpto limit clock how figures stopped → stopped ≡ true
    → LimitPassed clock limit
passed_by How.Whole {limit} x e =
    record { input = x.input; put = []; moved = x.came; more = ltb-true limit (length (lines x.input)) (sym x.tallied.says ∙ e) }
passed_by How.Failed x e = absurd (true≢false (sym e ∙ x.read.0))
passed_by How.Spent x e = absurd (true≢false (sym e ∙ x.read))

pub shown_passed : {limit clock : ℕ} {c : Counters} (t : Counted) → Shown limit clock c t → t.stopped ≡ true → LimitPassed clock limit
shown_passed t x e = passed_by t.how x.counts e

-- what is laid out from the front on is printed, or a front of it
front_text : {P : List ℕ → Type 0} {r : ℕ} {s t : List ℕ} (x : Lays P 0 s t r) → take r t ≡ x.text
front_text {r = r} {s = s} x =
    let e : r ≡ length x.text = omega (arith, x.ends) in
    rw (x.is, e) (take-append_seam x.text (drop (length x.text) (drop 0 s)))

module _ {limit at : ℕ} {c : Counters} {t : Counted} {failed : Bool} {before after : List ℕ} {r : ℕ}
    (counts : Shown limit at c t) (is : failed ≡ failed_of t.how)
    (x : LaysTally t.lines c t.stopped failed before after r) where
  tells_of : (Put : (from to : ℕ) (text : List ℕ) → Type 0) (clock : ℕ) → Put at clock x.lays.text → PutTally limit clock t.how Put
  tells_of Put clock y =
      record {
        at = at;
        figures = shown t.lines c;
        stopped = t.stopped;
        text = x.lays.text;
        counts = counts.counts;
        tells = rw is at x.lays.due;
        put = y;
      }

  pub shows : (clock : ℕ) (so : Bool) → SendsText (take r after) at clock so → Shows limit t clock so
  shows clock true y = tells_of All clock (rw (front_text x.lays) at y)
  shows clock false y = tells_of Front clock (rw (front_text x.lays) at y)
