-- The loop over the lines of a block, and what is kept for the next.
use Rattle.std.specs.Prelude.{ℕ, ◌+◌, ◌-◌, ◌^◌, ◌≤◌, ◌<◌, min, ◌≡◌, List, [], ◌∷◌, ◌++◌, length, take, drop, Some}
use Rattle.std.proofs.Common.{sym, ap, ◌∙◌, append-nil, le_refl, add-one, arith, drop_of_length-le, take_all, take-take, take_at, length-take-le, drop-cons}
use Rattle.std.proofs.Math.Seq.{slice, slice_empty, take-append-add, take-append_seam}
use Rattle.calls.specs.Calls.{Moved}
use Rattle.blocks.specs.Reads.{BLOCK, INPUT_ROOM}
use Rattle.lines.specs.Lines.{JUDGED, LF, last_line, judged}
use Rattle.lines.specs.Buffer.{Lays}
use Rattle.lines.specs.Texts.{no_line}
use Rattle.lines.specs.Laws.Lines.{Found, last_one}
use Rattle.lines.specs.Laws.Judged.{judged_part, judged_length}
use Rattle.lines.specs.Laws.Splits.{rest_parts, slice_parts, no_end, slice_taken}
use Rattle.lines.specs.Laws.Kept.{Kept}
use Rattle.lines.specs.Laws.Upto.{Judging, texts_one}
use Rattle.stream.specs.declared.Step.{Step}
use Rattle.stream.specs.declared.Flow.{Flow}
use Rattle.stream.specs.Jobs.{OUTPUT_ROOM}
use Rattle.stream.specs.Laws.Moves.{Stream, LaysLine, waiting, Flushes, Telling, Begun, TellsLined, Between, Turns, Closing}
use Rattle.stream.specs.Laws.Stream.{stream_first, stream_came, stream_pass, stream_line, stream_kept, stream_put, stream_closing}

-- what is laid out, with the text behind it
pub front_laid : {P : List ℕ → Type 0} {at r : ℕ} {before after : List ℕ} (x : Lays P at before after r) → at ≤ length before
    → take r after ≡ take at before ++ x.text
front_laid {at = at} {before = before} x h =
    let front = take at before in
    let behind = x.text ++ drop (length x.text) (drop at before) in
    rw (x.is, x.ends)
    (ap (λ (n : ℕ). take (n + length x.text) (front ++ behind)) (sym (length-take-le at before h))
    ∙ take-append-add front behind (length x.text)
    ∙ ap (front ++◌) (take-append_seam x.text (drop (length x.text) (drop at before))))

module _ {Line : ℕ → List ℕ → List ℕ → Type 0} where
  module _ {first fill at seen : ℕ} {f : Flow} {clock : ℕ} (t : Telling Line first fill at seen f clock) where
    abbrev input : List ℕ
    input = take fill f.buffer

    size : length input ≡ fill
    size = length-take-le fill f.buffer (omega (arith, t.filled, t.in_size))

    module _ {end : ℕ} (found : Found input seen end) where
      -- the bytes up to the end of a line are passed
      passed : Stream Line clock (drop end input) f.bench.line (slice at end input) (waiting f)
      passed =
          let s = rw (rest_parts found.passed) at t.stream in
          rw (slice_parts found.passed t.ordered) at (stream_pass (slice seen end input) (drop end input) (no_end found.passed) s)

      -- no further line ends
      pub telling_all : end ≡ length input → TellsLined Line first fill f clock (Some at)
      telling_all e =
          let whole : end ≡ fill = e ∙ size in
          record {
            one = t.one;
            numbers = t.numbers;
            ordered = omega (arith, t.ordered, t.inside, found.passed.ordered);
            inside = le_refl fill;
            filled = t.filled;
            in_size = t.in_size;
            out_size = t.out_size;
            below = t.below;
            most = t.most;
            few = t.few;
            stream = rw whole at passed;
          }

      -- a line ends there, and is laid out
      module _ (alike : Judging Line) (g : end ≡ length input → ⊥) {size' stop : ℕ} (is : size' ≡ min (end - at) JUDGED) (to : stop ≡ at + size')
          {out' : List ℕ} {used' : ℕ} (x : LaysLine (Line f.bench.line (take (stop - at) (drop at input))) f.bench.used f.out out' used') where
        judged_line : take (stop - at) (drop at input) ≡ judged (slice at end input)
        judged_line =
            let cut : stop - at ≡ min (end - at) JUDGED = omega arith in
            let after : at ≤ end = omega (arith, t.ordered, found.passed.ordered) in
            rw cut (judged_part (end - at) (drop at input) ∙ ap judged (slice_taken input at end after found.passed.inside))

        pub telling_line : Stream Line clock (drop (end + 1) input) (f.bench.line + 1) [] (take used' out')
        telling_line =
            let line = slice at end input in
            let past : end < length input = omega (arith, found.passed.inside) in
            let next : drop end input ≡ LF ∷ drop (end + 1) input = drop-cons input end 0 past ∙ rw (found.found past, add-one) in
            let due = rw judged_line at x.lays.due in
            let whole = alike f.bench.line (judged line) line x.lays.text (take-take JUDGED JUDGED line (le_refl JUDGED)) due in
            rw (front_laid x.lays (omega (arith, t.out_size, t.below))) (stream_line alike (rw next at passed) whole)

        pub telling_next : length out' ≡ OUTPUT_ROOM → {clock' : ℕ} (rest : ℕ) → Flushes Line out' used' clock clock' (Some rest)
            → Telling Line first fill (end + 1) (end + 1) (record f { bench = record f.bench { line = f.bench.line + 1; used = rest }; out = out' }) clock'
        telling_next long rest (low, (sent, moved, parts)) =
            let none : slice (end + 1) (end + 1) input ≡ [] = slice_empty (end + 1) input in
            record {
              one = t.one;
              numbers = t.numbers;
              ordered = le_refl (end + 1);
              inside = omega (arith, found.passed.inside, size);
              filled = t.filled;
              in_size = t.in_size;
              out_size = long;
              below = low;
              most = omega (arith, t.most);
              few = omega (arith, t.few, t.ordered, found.passed.ordered);
              stream = rw none (stream_put parts moved telling_line);
            }

  -- what will be judged of the unfinished line is in front of the buffer
  pub taken_next : {first fill rest : ℕ} {f : Flow} {clock : ℕ} → Telling Line first fill rest fill f clock
      → {buffer' : List ℕ} {kept : ℕ} → length buffer' ≡ INPUT_ROOM → Kept rest fill f.buffer buffer' kept
      → Turns Line first (record f { bench = record f.bench { kept = kept }; buffer = buffer' }) clock Step.Next
  taken_next {fill = fill} {rest = rest} {f = f} t {kept = kept} long k =
      let line = slice rest fill f.buffer in
      let none : drop fill (take fill f.buffer) ≡ [] = drop_of_length-le (take fill f.buffer) {i = fill} (omega (arith, size t)) in
      let left : slice rest fill (take fill f.buffer) ≡ line = ap (drop rest) (take_all fill (take fill f.buffer) (omega (arith, size t))) in
      let front = ap (take kept) k.front ∙ take_at (judged line) (drop (length (judged line)) f.buffer) kept (sym k.size) in (
        record {
          kept = omega (arith, k.size, judged_length line);
          used = t.below;
          first = omega (arith, t.one, t.most);
          in_size = long;
          out_size = t.out_size;
          stream = rw front (stream_kept (take-take JUDGED JUDGED line (le_refl JUDGED)) (rw (none, left) at t.stream));
        },
        omega (arith, t.few, t.ordered, t.filled),
      )

  -- a block came behind the kept bytes
  pub came_begun : {f : Flow} (buffer' : List ℕ) {clock clock' : ℕ} (came : ℕ) → Between Line f clock → f.bench.line + INPUT_ROOM < 2 ^ 64
      → length buffer' ≡ INPUT_ROOM → came ≤ BLOCK → take f.bench.kept buffer' ≡ take f.bench.kept f.buffer
      → Moved clock clock' (slice f.bench.kept (f.bench.kept + came) buffer') []
      → Begun Line (record f { buffer = buffer' }) (f.bench.kept + came) clock'
  came_begun {f} buffer' came x numbers long low stays moved =
      let kept = f.bench.kept in
      let begun : slice 0 kept (take (kept + came) buffer') ≡ take kept buffer' = take-take kept (kept + came) buffer' (omega arith) in
      record {
        one = x.first;
        numbers = omega (arith, x.kept);
        ordered = omega arith;
        inside = omega arith;
        filled = omega (arith, x.kept);
        in_size = long;
        out_size = x.out_size;
        below = x.used;
        most = le_refl f.bench.line;
        few = omega arith;
        stream = rw (begun, stays) (stream_came x.stream moved);
      }

  -- nothing came
  pub stays_between : {f : Flow} {buffer' : List ℕ} {clock clock' : ℕ} → Between Line f clock → length buffer' ≡ INPUT_ROOM
      → take f.bench.kept buffer' ≡ take f.bench.kept f.buffer → Moved clock clock' [] [] → Between Line (record f { buffer = buffer' }) clock'
  stays_between x long stays moved =
      record {
        kept = x.kept;
        used = x.used;
        first = x.first;
        in_size = long;
        out_size = x.out_size;
        stream = rw stays (stream_came x.stream moved);
      }

  -- at the end of the input: no line is left, or one, whose text is laid out
  module _ (alike : Judging Line) {f : Flow} {clock : ℕ} (x : Between Line f clock) where
    abbrev left : List ℕ
    left = take f.bench.kept f.buffer

    pub closing_none : f.bench.kept ≡ 0 → Closing Line clock f.bench.line (waiting f)
    closing_none e =
        let none : last_line left ≡ [] = ap (λ (k : ℕ). last_line (take k f.buffer)) e in
        rw (append-nil (waiting f)) at (stream_closing x.stream alike {more = []} {next = f.bench.line} (rw none no_line) (rw none (omega arith)))

    pub closing_line : (f.bench.kept ≡ 0 → ⊥) → {out' : List ℕ} {r : ℕ} → LaysLine (Line f.bench.line left) f.bench.used f.out out' r
        → Closing Line clock (f.bench.line + 1) (take r out')
    closing_line g l =
        let some : 0 < length left = rw (length-take-le f.bench.kept f.buffer (omega (arith, x.kept, x.in_size))) (omega arith) in
        let one : last_line left ≡ left ∷ [] = last_one left some in
        rw (front_laid l.lays (omega (arith, x.used, x.out_size)))
        (stream_closing x.stream alike {more = l.lays.text} {next = f.bench.line + 1} (rw one (texts_one l.lays.due)) (rw one (omega arith)))

  -- before the first read
  pub first_between : {f : Flow} {clock : ℕ} → (f.bench.line ≡ 1) × (f.bench.kept ≡ 0) × (f.bench.used ≡ 0) → length f.buffer ≡ INPUT_ROOM
      → length f.out ≡ OUTPUT_ROOM → clock ≡ 0 → Between Line f clock
  first_between (number, kept, used) long room start =
      record {
        kept = omega arith;
        used = omega arith;
        first = omega arith;
        in_size = long;
        out_size = room;
        stream = rw (number, kept, used, start) stream_first;
      }
