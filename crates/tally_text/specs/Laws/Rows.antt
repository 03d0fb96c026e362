-- The rows of a tally laid out one behind the other.
use Rattle.std.specs.Prelude.{ℕ, ◌+◌, ◌*◌, ◌≤◌, ◌≡◌, refl, List, [], ◌∷◌, ◌++◌, length, set}
use Rattle.std.proofs.Common.{ap, sym, ◌∙◌, append_assoc, append-nil, arith, length-set, length-append}
use Rattle.text.specs.Bytes.{byte}
use Rattle.text.specs.Buffer.{laid_at}
use Rattle.text.specs.Laws.Laid.{length_laid_at}
use Rattle.lines.specs.Lines.{LF}
use Rattle.lines.specs.Buffer.{Lays}
use Rattle.lines.specs.Laws.Laid.{LaysNumber, Then, both, Cell, lays_none, lays_byte, lays_cell, lays_then, lays_as}
use Rattle.tally_text.specs.Text.{FIGURE_ROOM, Row, Rows, no_row, row_then}

-- a row laid out
pub record LaysRow (name : List ℕ) (v at : ℕ) (before after : List ℕ) (r : ℕ) : Type 0 where
  pub lays : Lays (Row name v) at before after r
  pub long : length after ≡ length before
  pub near : r ≤ at + length name + FIGURE_ROOM

whole : {name : List ℕ} {v : ℕ} {t : List ℕ} → Then (Then (◌≡ name) (◌≡ byte " " ∷ [])) (Cell v LF) t → Row name v t
whole {name} (both (both n blank) (both {a = d} x end)) =
    record { decimal = d; figure = x; is = rw (n, blank, end) (append_assoc name (byte " " ∷ []) (d ++ LF ∷ [])) }

pub lays_row : {name : List ℕ} {v at e : ℕ} {s t u : List ℕ} → at + length name + FIGURE_ROOM ≤ length s → t ≡ laid_at at name s
    → LaysNumber v (at + length name + 1) (set t (at + length name) (byte " ")) u e → LaysRow name v at s (set u e LF) (e + 1)
lays_row {name} {v} {at} {e} {s} {t} {u} h is x =
    let blank = at + length name in
    let long : length t ≡ length s = ap length is ∙ length_laid_at at name s (omega arith) in
    let stored : length (set t blank (byte " ")) ≡ length t = length-set t blank (byte " ") in
    let first : Lays (◌≡ name) at s t blank = record { text = name; due = refl; is = is; ends = refl } in
    let second = lays_byte (byte " ") blank t (omega arith) in
    record {
      lays = lays_as (λ t y. whole y) (lays_then (omega arith) (lays_then (omega arith) first second) (lays_cell (omega arith) x));
      long = length-set u e LF ∙ x.long ∙ stored ∙ long;
      near = omega (arith, x.near);
    }

-- one row more
one_row : {name here : List ℕ} {v : ℕ} → Row name v here → Rows (name ∷ []) (v ∷ []) here
one_row {name} {here} {v} x = let one : Rows (name ∷ []) (v ∷ []) (here ++ []) = row_then x no_row in rw (append-nil here) at one

rows_append : {ns ms : List (List ℕ)} {vs ws a b : List ℕ} → Rows ns vs a → Rows ms ws b → Rows (ns ++ ms) (vs ++ ws) (a ++ b)
rows_append no_row y = y
rows_append {b = b} (row_then {here = here} {rest = rest} x xs) y = rw (append_assoc here rest b) (row_then x (rows_append xs y))

more_rows : {name : List ℕ} {v : ℕ} {ns : List (List ℕ)} {vs t : List ℕ} → Then (Rows ns vs) (Row name v) t
    → Rows (ns ++ name ∷ []) (vs ++ v ∷ []) t
more_rows (both x y) = rows_append x (one_row y)

-- so long are names one behind the other, with a byte behind each
abbrev pub all_long : List (List ℕ) → ℕ
all_long [] = 0
all_long (n ∷ ns) = length n + 1 + all_long ns

-- a name for each figure, and room for all rows
pub record Fits (names : List (List ℕ)) (figures out : List ℕ) : Type 0 where
  pub named : length names ≡ length figures
  pub room : all_long names + FIGURE_ROOM * length figures ≤ length out

-- all of them
pub record LaysRows (names : List (List ℕ)) (figures before after : List ℕ) (r : ℕ) : Type 0 where
  pub lays : Lays (Rows names figures) 0 before after r
  pub near : r ≤ all_long names + FIGURE_ROOM * length figures

all_long_append : (ns ms : List (List ℕ)) → all_long (ns ++ ms) ≡ all_long ns + all_long ms
all_long_append [] ms = omega arith
all_long_append (n ∷ ns) ms = omega (arith, all_long_append ns ms)

-- some rows are laid out, and the names and figures of the others are ahead
pub record Laying (names : List (List ℕ)) (figures before : List ℕ) (ahead : List (List ℕ)) (left : List ℕ) (used : ℕ) (after : List ℕ) : Type 0 where
  pub done : List (List ℕ)
  pub told : List ℕ
  pub names_are : names ≡ done ++ ahead
  pub figures_are : figures ≡ told ++ left
  pub even : length ahead ≡ length left
  pub long : length after ≡ length before
  pub near : used ≤ all_long done + FIGURE_ROOM * length told
  pub lays : Lays (Rows done told) 0 before after used

pub laying_first : {names : List (List ℕ)} {figures before : List ℕ} {ahead : List (List ℕ)} {left : List ℕ} → Fits names figures before → ahead ≡ names
    → left ≡ figures → Laying names figures before ahead left 0 before
laying_first h e f =
    record {
      done = [];
      told = [];
      names_are = sym e;
      figures_are = sym f;
      even = omega (arith, h.named, ap length e, ap length f);
      long = refl;
      near = omega arith;
      lays = lays_none no_row;
    }

none : {A : Type 0} (xs : List A) → length xs ≡ 0 → xs ≡ []
none [] h = refl
none (x ∷ xs) h = absurd (omega arith)

module _ {names : List (List ℕ)} {figures before : List ℕ} (h : Fits names figures before) {ahead : List (List ℕ)} {left : List ℕ} {used : ℕ} {after : List ℕ}
    (u : Laying names figures before ahead left used after) where
  -- no figure is left
  pub laying_all : length left ≡ 0 → LaysRows names figures before after used
  laying_all e =
      let all : names ≡ u.done = u.names_are ∙ ap (u.done ++◌) (none ahead (omega (arith, u.even))) ∙ append-nil u.done in
      let every : figures ≡ u.told = u.figures_are ∙ ap (u.told ++◌) (none left e) ∙ append-nil u.told in
      record { lays = rw (all, every) u.lays; near = omega (arith, u.near, ap all_long all, ap length every) }

  module _ {name : List ℕ} {v : ℕ} {ahead' : List (List ℕ)} {left' : List ℕ} (e : ahead ≡ name ∷ ahead') (f : left ≡ v ∷ left') where
    pub row_room : used + length name + FIGURE_ROOM ≤ length after
    row_room =
        let ns = ap all_long (u.names_are ∙ ap (u.done ++◌) e) ∙ all_long_append u.done (name ∷ ahead') in
        let vs = ap length (u.figures_are ∙ ap (u.told ++◌) f) ∙ length-append u.told (v ∷ left') in
        omega (arith, h.room, u.near, u.long)

    pub laying_next : {used' : ℕ} {after' : List ℕ} → LaysRow name v used after after' used' → Laying names figures before ahead' left' used' after'
    laying_next x =
        record {
          done = u.done ++ name ∷ [];
          told = u.told ++ v ∷ [];
          names_are = u.names_are ∙ ap (u.done ++◌) e ∙ sym (append_assoc u.done (name ∷ []) ahead');
          figures_are = u.figures_are ∙ ap (u.told ++◌) f ∙ sym (append_assoc u.told (v ∷ []) left');
          even = omega (arith, u.even, ap length e, ap length f);
          long = x.long ∙ u.long;
          near = omega (arith, u.near, x.near, all_long_append u.done (name ∷ []), length-append u.told (v ∷ []));
          lays = lays_as (λ t y. more_rows y) (lays_then (omega arith) u.lays x.lays);
        }
