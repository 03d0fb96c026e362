-- What came is passed line by line, and what is laid out is taken piece by piece.
use Rattle.std.specs.Prelude.{ℕ, ◌+◌, ◌-◌, ◌<◌, ◌≡◌, refl, List, [], ◌∷◌, ◌++◌, length, take, drop}
use Rattle.std.proofs.Common.{sym, append_assoc, append-nil, arith, take-append-drop, length-append, length-drop}
use Rattle.demand.specs.Laws.Cells.{tail_part}
use Rattle.calls.specs.Calls.{Moved, Ended, moved_still, moved_then, Short}
use Rattle.notices.specs.Numbers.{LastEnded, LastWhole}
use Rattle.lines.specs.Lines.{LF, ended_from, left_from, last_line, lines, judged}
use Rattle.lines.specs.Texts.{Texts}
use Rattle.lines.specs.Report.{LineReport}
use Rattle.lines.specs.Laws.Lines.{NoLF, last_line_alike}
use Rattle.lines.specs.Laws.Blocks.{alike_length, lines_from, lines_append}
use Rattle.lines.specs.Laws.Ends.{ends, ends_append, texts_ends, reached, report_line}
use Rattle.lines.specs.Laws.Upto.{Judging, upto_none, upto_pass, upto_kept, upto_line, upto_end}
use Rattle.stream.specs.Stream.{Wrote, Owing, Cut}
use Rattle.stream.specs.Laws.Moves.{Stream, Closing}

module _ {Line : ℕ → List ℕ → List ℕ → Type 0} where
  pub stream_first : Stream Line 0 [] 1 [] []
  stream_first = record { passed = []; put = []; moved = moved_still; upto = upto_none }

  pub stream_came : {clock next number : ℕ} {block begun laid : List ℕ} → Stream Line clock [] number begun laid → Moved clock next block []
      → Stream Line next block number begun laid
  stream_came s y =
      record { passed = s.passed; put = s.put; moved = rw (append-nil s.passed, append-nil s.put) at (moved_then s.moved y); upto = s.upto }

  module _ {clock number : ℕ} {begun laid : List ℕ} where
    -- bytes that end no line
    pub stream_pass : (body rest : List ℕ) → NoLF body → Stream Line clock (body ++ rest) number begun laid
        → Stream Line clock rest number (begun ++ body) laid
    stream_pass body rest h s =
        record { passed = s.passed ++ body; put = s.put; moved = rw (append_assoc s.passed body rest) s.moved; upto = upto_pass s.upto body h }

    -- an LF that ends the begun line, whose text is laid out
    pub stream_line : Judging Line → {rest more : List ℕ} → Stream Line clock (LF ∷ rest) number begun laid → Line number begun more
        → Stream Line clock rest (number + 1) [] (laid ++ more)
    stream_line alike {rest} {more} s x =
        record {
          passed = s.passed ++ LF ∷ [];
          put = s.put;
          moved = rw (append_assoc s.passed (LF ∷ []) rest) s.moved;
          upto = rw (← append_assoc s.put laid more) (upto_line s.upto alike x);
        }

    pub stream_kept : {ahead kept : List ℕ} → judged kept ≡ judged begun → Stream Line clock ahead number begun laid
        → Stream Line clock ahead number kept laid
    stream_kept e s = record { passed = s.passed; put = s.put; moved = s.moved; upto = upto_kept s.upto e }

    -- a front of what is laid out is taken
    pub stream_put : {next : ℕ} {ahead sent rest : List ℕ} → laid ≡ sent ++ rest → Moved clock next [] sent
        → Stream Line clock ahead number begun laid
        → Stream Line next ahead number begun rest
    stream_put {ahead = ahead} {sent = sent} {rest = rest} e y s =
        record {
          passed = s.passed;
          put = s.put ++ sent;
          moved = rw (append-nil (s.passed ++ ahead)) at (moved_then s.moved y);
          upto = rw (append_assoc s.put sent rest, ← e) s.upto;
        }

    -- it is owed
    pub stream_owing : {ahead : List ℕ} → Stream Line clock ahead number begun laid → Owing Line clock number laid
    stream_owing {ahead} s =
        record {
          input = s.passed ++ ahead;
          put = s.put;
          first = ended_from [] s.passed;
          others = lines_from (left_from [] s.passed) ahead;
          moved = s.moved;
          lines_are = lines_append [] s.passed ahead;
          counted = s.upto.counted;
          texts = s.upto.texts;
        }

    module _ (s : Stream Line clock [] number begun laid) where
      -- all of it is taken, where the input is not read on
      pub stream_wrote : {How : ℕ → Type 0} {next : ℕ} → How clock → Moved clock next [] laid → Wrote Line How (ended_from []) next
      stream_wrote h y =
          record {
            input = s.passed;
            before = s.put;
            after = laid;
            end = clock;
            came = rw (append-nil s.passed) at s.moved;
            how = h;
            rest = y;
            texts = s.upto.texts;
          }

      -- the last line that ended
      pub stream_last : {last : ℕ} → last + 1 ≡ number → LastEnded clock last
      stream_last e =
          record {
            input = s.passed;
            put = s.put;
            moved = rw (append-nil s.passed) at s.moved;
            ended = omega (arith, s.upto.counted);
          }

      -- the end of the input, where the last line is laid out
      pub stream_closing : Judging Line → {more : List ℕ} {next : ℕ} → Texts Line number (last_line begun) more
          → next ≡ number + length (last_line begun)
          → Closing Line clock next (laid ++ more)
      stream_closing alike {more} x n =
          let last = alike_length (last_line begun) (last_line (left_from [] s.passed)) (last_line_alike begun (left_from [] s.passed) s.upto.left) in
          let all = length-append (ended_from [] s.passed) (last_line (left_from [] s.passed)) in
          record {
            input = s.passed;
            put = s.put;
            moved = rw (append-nil s.passed) at s.moved;
            counted = omega (arith, s.upto.counted);
            texts = rw (← append_assoc s.put laid more) (upto_end s.upto alike x);
          }

  module _ {clock next : ℕ} {out : List ℕ} where
    -- what is laid out at the end of the input is owed
    pub closing_owing : Closing Line clock next out → Owing Line clock next out
    closing_owing x =
        record {
          input = x.input;
          put = x.put;
          first = lines x.input;
          others = [];
          moved = x.moved;
          lines_are = sym (append-nil (lines x.input));
          counted = x.counted;
          texts = x.texts;
        }

    pub closing_wrote : {clock' : ℕ} → Closing Line clock next out → Ended clock → Moved clock clock' [] out → Wrote Line Ended lines clock'
    closing_wrote x e y =
        record { input = x.input; before = x.put; after = out; end = clock; came = x.moved; how = e; rest = y; texts = x.texts }

    -- a front of what is owed was taken, and not all
    module _ (o : Owing Line clock next out) {clock' k : ℕ} (x : (k < length out) × Moved clock clock' [] (take k out) × Short clock') where
      rest : Owing Line clock' next (drop k out)
      rest =
          record {
            input = o.input;
            put = o.put ++ take k out;
            first = o.first;
            others = o.others;
            moved = rw (append-nil o.input) at (moved_then o.moved x.1);
            lines_are = o.lines_are;
            counted = o.counted;
            texts = rw (append_assoc o.put (take k out) (drop k out), take-append-drop k out) o.texts;
          }

      some : 0 < length (drop k out)
      some = rw (length-drop k out) (omega (arith, x.0))

      pub owed_rest : Owing Line clock' next (take (length out - k) (drop k out)) × (0 < length (take (length out - k) (drop k out)))
      owed_rest = rw (tail_part k out) (rest, some)

      pub owed_cut : Cut Line clock'
      owed_cut = record { next = next; owed = drop k out; some = some; short = x.2; owing = rest }

-- the last line of a report whose text was written whole
module _ {clock next : ℕ} {lost : List ℕ} (o : Owing LineReport clock next lost) where
  pub owed_few : ends lost < next
  owed_few =
      let all = ends_append o.put lost in
      omega (arith, o.counted, texts_ends report_line o.texts)

  pub owed_last : {k : ℕ} → 0 < length lost → k ≡ ends lost → LastWhole LineReport clock (next - 1 - k)
  owed_last {k} h e =
      record {
        input = o.input;
        put = o.put;
        first = o.first;
        others = o.others;
        moved = o.moved;
        lines_are = o.lines_are;
        reaches = reached report_line o.first o.put lost (o.put ++ lost) o.texts refl h (omega (arith, o.counted, owed_few));
      }
