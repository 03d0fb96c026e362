-- A field and a line, laid out part after part.
use Rattle.std.specs.Prelude.{ℕ, ◌+◌, ◌≤◌, ◌≡◌, refl, List, [], ◌∷◌, ◌++◌, length, take, drop, set}
use Rattle.std.proofs.Common.{sym, ap, ◌∙◌, zero-add, arith, length-append}
use Rattle.std.proofs.Math.Seq.{take-length}
use Rattle.text.specs.Bytes.{byte}
use Rattle.text.specs.Decimal.{digits}
use Rattle.text.specs.Buffer.{laid, laid_at}
use Rattle.text.specs.Laws.Laid.{length_laid_at, laid_stores, laid_then}
use Rattle.label.specs.declared.Structure.{Structure}
use Rattle.label.specs.declared.Message.{Message}
use Rattle.structure.specs.Laws.Kinds.{number_in}
use Rattle.message.specs.Writing.{structures_of}
use Rattle.lines.specs.Lines.{LF}
use Rattle.extract_line.specs.Extract.{shown, letter, field, fields, line_of}

-- a copy
pub copied_laid : {s x after : List ℕ} (before : List ℕ) → s ≡ x → after ≡ take (length s) s ++ drop (length s) before → after ≡ laid x before
copied_laid {s} before e is = is ∙ ap (◌++ drop (length s) before) (take-length s) ∙ ap (λ (u : List ℕ). laid u before) e

-- a byte and three digits behind it
module _ (before : List ℕ) (b n : ℕ) {mid : List ℕ} (room : 4 ≤ length before) (numbers : mid ≡ laid_at 1 (digits 3 n) (set before 0 b)) where
  pub numbered : mid ≡ laid_at 0 (b ∷ digits 3 n) before
  numbered = laid_then 0 1 (b ∷ []) (digits 3 n) before (omega arith) refl (laid_stores 0 (b ∷ []) before (omega arith)) numbers

  pub numbered_long : length mid ≡ length before
  numbered_long = ap length numbered ∙ length_laid_at 0 (b ∷ digits 3 n) before (omega arith)

-- a field
pub lays_field : (x : Structure) (before : List ℕ) {n : ℕ} {mid after : List ℕ} → 5 ≤ length before
    → mid ≡ laid_at 1 (digits 3 n) (set before 0 (byte " ")) → n ≡ number_in x → after ≡ laid_at 5 (shown x) (set mid 4 (byte " "))
    → after ≡ laid (field x) before
lays_field x before {n} {mid} room numbers named shows =
    let first = byte " " ∷ digits 3 n in
    let blank = byte " " ∷ [] in
    let second = laid_stores 4 blank mid (omega (arith, numbered_long before (byte " ") n (omega arith) numbers)) in
    let parted = laid_then 0 4 first blank before (omega arith) refl (numbered before (byte " ") n (omega arith) numbers) second in
    laid_then 0 5 (first ++ blank) (shown x) before (omega arith) refl parted shows
    ∙ ap (λ (k : ℕ). laid (byte " " ∷ (digits 3 k ++ byte " " ∷ shown x)) before) named

-- a line
pub line_room : (m : Message) → length (line_of m) ≡ 5 + length (fields (structures_of m))
line_room m = omega (arith, length-append (fields (structures_of m)) (LF ∷ []))

module _ (m : Message) (before : List ℕ) (room : length (line_of m) ≤ length before) {b : ℕ} {mid after : List ℕ} (named : b ≡ letter m.form)
    (numbers : mid ≡ laid_at 1 (digits 3 m.bbb) (set before 0 b)) (follow : after ≡ laid_at 4 (fields (structures_of m)) mid) where
  abbrev front : List ℕ
  front = b ∷ (digits 3 m.bbb ++ fields (structures_of m))

  fronted : after ≡ laid_at 0 front before
  fronted =
      laid_then 0 4 (b ∷ digits 3 m.bbb) (fields (structures_of m)) before (omega arith) refl
      (numbered before b m.bbb (omega (arith, line_room m)) numbers) follow

  pub fronted_long : length after ≡ length before
  fronted_long = ap length fronted ∙ length_laid_at 0 front before (omega (arith, line_room m))

  pub lays_line : {end : ℕ} → end ≡ 4 + length (fields (structures_of m)) → set after end LF ≡ laid (line_of m) before
  lays_line {end} e =
      let last = laid_stores end (LF ∷ []) after (omega (arith, fronted_long, line_room m))
      ∙ ap (λ (k : ℕ). laid_at k (LF ∷ []) after) (sym (zero-add end)) in
      laid_then 0 end front (LF ∷ []) before (omega arith) (omega arith) fronted last
      ∙ ap (λ (k : ℕ). laid (k ∷ (digits 3 m.bbb ++ (fields (structures_of m) ++ LF ∷ []))) before) named
