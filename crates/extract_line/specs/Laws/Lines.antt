-- One extract for any lines; extracts one after another; only what is judged of a line decides; how long they are.
use Rattle.std.specs.Prelude.{ℕ, ◌+◌, ◌-◌, ◌*◌, ◌≤◌, min, ◌≡◌, refl, Bool, true, false, cond, List, [], ◌++◌, eqb, length, take, drop}
use Rattle.std.proofs.Common.{sym, ap, ◌∙◌, arith, length-drop, length-take, eqb-true, eq-eqb, ne_eqb}
use Rattle.std.proofs.Math.Seq.{take-length}
use Rattle.demand.specs.Laws.Cells.{tail_part}
use Rattle.demand.specs.Numbers.{ACCEPTED}
use Rattle.label.specs.declared.Edition.{Edition}
use Rattle.text.specs.Laws.Laid.{part_laid}
use Rattle.text.specs.Buffer.{laid}
use Rattle.message.specs.declared.Reading.{Reading}
use Rattle.message.specs.Reading.{Answers}
use Rattle.message.specs.Theorems.{one_result}
use Rattle.message.specs.Laws.Answers.{accepted_reading}
use Rattle.lines.specs.Lines.{JUDGED, judged}
use Rattle.lines.specs.Buffer.{Lays}
use Rattle.lines.specs.Laws.Judged.{judged_part, some_reading}
use Rattle.message.specs.declared.Written.{Written}
use Rattle.extract_line.specs.Extract.{line_of}
use Rattle.extract_line.specs.Extracts.{Gives, row_refused, row_room, row_extracted, Extracts}
use Rattle.extract_line.specs.Lines.{extract_of, extract_room, LineExtract, Extract}
use Rattle.lines.specs.Laws.Upto.{one_texts, some_texts}
use Rattle.extract_line.specs.Laws.Short.{line_short}

one_line : {line a b : List ℕ} → LineExtract line a → LineExtract line b → a ≡ b
one_line {line} x y = x.is ∙ ap extract_of (one_result Edition.Current (judged line) x.reading y.reading x.answers y.answers) ∙ sym y.is

pub one_extract : {n : ℕ} {ls : List (List ℕ)} {a b : List ℕ} → Extract n ls a → Extract n ls b → a ≡ b
one_extract x y = one_texts (λ n line a b u v. one_line u v) x y

pub some_extract : (n : ℕ) (ls : List (List ℕ)) → (text : List ℕ) × Extract n ls text
some_extract n ls =
    some_texts (λ m line. let (r, a) = some_reading Edition.Current (judged line) in (extract_of r, record { reading = r; answers = a; is = refl })) n ls

pub line_alike : {u v text : List ℕ} → judged u ≡ judged v → LineExtract u text → LineExtract v text
line_alike e x = record { reading = x.reading; answers = rw e at x.answers; is = x.is }

-- how long the extract of a line is
accepted_short : {s : List ℕ} {r : Reading} → Answers Edition.Current s r → r.refusal ≡ ACCEPTED → length (line_of r.message) ≤ 2 * length s + 2
accepted_short {s} {r} a z = line_short (accepted_reading Edition.Current s r a z).0

pub extract_short : {line text : List ℕ} → LineExtract line text → length text ≤ extract_room (length line)
extract_short {line} x = rw x.is (by (eqb x.reading.refusal ACCEPTED) refl)
  where
    by : (t : Bool) → eqb x.reading.refusal ACCEPTED ≡ t → length (cond t (line_of x.reading.message) []) ≤ extract_room (length line)
    by true e = omega (arith, accepted_short x.answers (eqb-true x.reading.refusal ACCEPTED e), length-take JUDGED line)
    by false e = omega arith

-- the number of a row
same_number : {e : Written} {n k : ℕ} → e ≡ record { place = k; refusal = n } → e.refusal ≡ n
same_number is = ap (λ (e : Written). e.refusal) is

-- `extract` lays out the extract of a line where it has so much room
module _ (line out : List ℕ) (at : ℕ) {k : ℕ} {part : List ℕ} {e : Written} (room : at + extract_room (length line) ≤ length out)
    (size : k ≡ min (length line) JUDGED) (x : Extracts (take k line) (take (length out - at) (drop at out)) part e) where
  abbrev r : Reading
  r = x.reading

  abbrev behind : List ℕ
  behind = take (length out - at) (drop at out)

  abbrev after : List ℕ
  after = take at out ++ (part ++ drop (length out - at) (drop at out))

  answers : Answers Edition.Current (judged line) r
  answers = rw (size, judged_part (length line) line, take-length line) at x.answers

  whole : length behind ≡ length out - at
  whole = ap length (tail_part at out) ∙ length-drop at out

  short : r.refusal ≡ ACCEPTED → at + length (line_of r.message) ≤ length out
  short z = omega (arith, room, accepted_short answers z, length-take JUDGED line)

  laying : (text : List ℕ) → text ≡ extract_of r → part ≡ laid text behind → {end : ℕ} → end ≡ at + length text
      → Lays (LineExtract line) at out after end
  laying text is here ends =
      record { text = text; due = record { reading = r; answers = answers; is = is }; is = part_laid at text out here; ends = ends }

  -- a line that was extracted ends within the output
  pub lays_extracted : e.refusal ≡ ACCEPTED → Lays (LineExtract line) at out after (at + e.place) × (at + e.place ≤ length out)
  lays_extracted z = by x.gives
    where
      by : Gives r behind part e → Lays (LineExtract line) at out after (at + e.place) × (at + e.place ≤ length out)
      by (row_refused f is here) = absurd (f (sym (same_number is) ∙ z))
      by (row_room y l is here) = absurd (omega (arith, same_number is))
      by (row_extracted y l is here) =
          let place : e.place ≡ length (line_of r.message) = ap (λ (e : Written). e.place) is in
          (laying (line_of r.message) (rw (eq-eqb r.refusal ACCEPTED y)) here (ap (at +◌) place), omega (arith, short y))

  pub lays_refused : (e.refusal ≡ ACCEPTED → ⊥) → Lays (LineExtract line) at out after at
  lays_refused f = by x.gives
    where
      by : Gives r behind part e → Lays (LineExtract line) at out after at
      by (row_refused g is here) = laying [] (rw (ne_eqb r.refusal ACCEPTED g)) here (omega arith)
      by (row_room y l is here) = absurd (omega (arith, short y, whole))
      by (row_extracted y l is here) = absurd (f (same_number is))
