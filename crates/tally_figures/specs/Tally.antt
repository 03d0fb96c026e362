-- W-206: the figures of a tally, each defined from the lines as how many have that answer. No reader is named.
use Rattle.std.specs.Prelude.{ℕ, ◌+◌, ◌≡◌, Bool, cond, List, [], ◌∷◌, ◌++◌, map, eqb, ltb, length, take}
use Rattle.demand.specs.Numbers.{ACCEPTED, SHORT, IDENTIFIER, NESTED, CHARACTER, VALUE, TRAILING, CHECK, DAY, TIME, REPEAT}
use Rattle.label.specs.declared.Edition.{Edition}
use Rattle.label.specs.declared.Form.{Form}
use Rattle.label.specs.declared.Entry.{Entry}
use Rattle.label.specs.declared.Message.{Message}
use Rattle.structure.specs.Structures.{number_in}
use Rattle.message.specs.declared.Reading.{Reading}
use Rattle.message.specs.Reading.{Answers}
use Rattle.lines.specs.Lines.{judged}

-- the readings of lines, each of what is judged of its line, in the current edition (W-212)
pub data Readings : List (List ℕ) → List Reading → Type 0 where
  no_line : Readings [] []
  line_then : {line : List ℕ} {r : Reading} {ls : List (List ℕ)} {rs : List Reading} → Answers Edition.Current (judged line) r
      → Readings ls rs → Readings (line ∷ ls) (r ∷ rs)

-- "as how many have that answer": so many of a list have the number n
abbrev pub how_many : {A : Type 0} → (A → ℕ) → List A → ℕ → ℕ
how_many number [] n = 0
how_many number (x ∷ xs) n = cond (eqb (number x) n) 1 0 + how_many number xs n

-- "accepted messages"
abbrev pub accepted : List Reading → List Message
accepted [] = []
accepted (r ∷ rs) = cond (eqb r.refusal ACCEPTED) (r.message ∷ accepted rs) (accepted rs)

-- their structures, those of each within its count
abbrev pub structures : List Message → List Entry
structures [] = []
structures (m ∷ ms) = take m.count m.entries ++ structures ms

-- the forms in the tally's order
abbrev pub form_number : Form → ℕ
form_number Form.Single = 0
form_number Form.Pair = 1
form_number Form.Compound = 2

-- a reading's refusal number, a message's form, an entry's kind by the papers' number
abbrev pub refusal_of : Reading → ℕ
refusal_of r = r.refusal

abbrev pub form_of : Message → ℕ
form_of m = form_number m.form

abbrev pub kind_of : Entry → ℕ
kind_of e = number_in e.structure

-- how many are accepted, and how many refused
abbrev pub all_accepted : List Reading → ℕ
all_accepted rs = length (accepted rs)

abbrev pub all_refused : List Reading → ℕ
all_refused [] = 0
all_refused (r ∷ rs) = cond (eqb r.refusal ACCEPTED) 0 1 + all_refused rs

-- "of refusals by number", "of accepted messages by form", "of structures by kind"
abbrev pub refused : List Reading → ℕ → ℕ
refused rs n = how_many refusal_of rs n

abbrev pub of_form : List Reading → ℕ → ℕ
of_form rs n = how_many form_of (accepted rs) n

abbrev pub of_kind : List Reading → ℕ → ℕ
of_kind rs n = how_many kind_of (structures (accepted rs)) n

-- the rows of the tally: forms, kinds (023 is none), and every refusal number that reading gives
abbrev pub forms : List ℕ
forms = 0 ∷ 1 ∷ 2 ∷ []

abbrev pub kinds : List ℕ
kinds = 1 ∷ 2 ∷ 3 ∷ 4 ∷ 5 ∷ 6 ∷ 7 ∷ 8 ∷ 9 ∷ 10 ∷ 12 ∷ 18 ∷ 31 ∷ []

abbrev pub refusal_numbers : List ℕ
refusal_numbers = SHORT ∷ IDENTIFIER ∷ NESTED ∷ CHARACTER ∷ VALUE ∷ TRAILING ∷ CHECK ∷ DAY ∷ TIME ∷ REPEAT ∷ []

-- the figures in the tally's order: the lines, the accepted and the refused ones, then these by form, kind and number
abbrev pub figures : List Reading → List ℕ
figures rs = length rs ∷ all_accepted rs ∷ all_refused rs ∷ (map (of_form rs) forms ++ (map (of_kind rs) kinds ++ map (refused rs) refusal_numbers))

-- figures added up, and added one by one
abbrev pub total : List ℕ → ℕ
total [] = 0
total (x ∷ xs) = x + total xs

abbrev pub sums : List ℕ → List ℕ → List ℕ
sums [] ys = []
sums (x ∷ xs) [] = []
sums (x ∷ xs) (y ∷ ys) = (x + y) ∷ sums xs ys

-- the tally of lines
pub record Tally (ls : List (List ℕ)) (shown : List ℕ) : Type 0 where
  pub readings : List Reading
  pub answers : Readings ls readings
  pub is : shown ≡ figures readings

-- "up to 4,000,000,000 lines"
abbrev pub MOST : ℕ
MOST = 4000000000

-- the tally of lines up to a limit; "beyond that the tally says it stopped" and tells what it had
pub record Tallied (limit : ℕ) (ls : List (List ℕ)) (shown : List ℕ) (stopped : Bool) : Type 0 where
  pub tally : Tally (take limit ls) shown
  pub says : stopped ≡ ltb limit (length ls)
