-- W-211: what the extract writes for lines. No reader is named.
use Rattle.std.specs.Prelude.{ℕ, ◌+◌, ◌*◌, ◌≡◌, cond, List, [], eqb}
use Rattle.demand.specs.Numbers.{ACCEPTED}
use Rattle.label.specs.declared.Edition.{Edition}
use Rattle.message.specs.declared.Reading.{Reading}
use Rattle.message.specs.Reading.{Answers}
use Rattle.lines.specs.Lines.{judged}
use Rattle.lines.specs.Texts.{Texts}
use Rattle.extract_line.specs.Extract.{line_of}

-- "one line per accepted message", and nothing for a refused one
abbrev pub extract_of : Reading → List ℕ
extract_of r = cond (eqb r.refusal ACCEPTED) (line_of r.message) []

-- the extract of a line: of the reading that answers to what is judged of it
pub record LineExtract (line text : List ℕ) : Type 0 where
  pub reading : Reading
  pub answers : Answers Edition.Current (judged line) reading
  pub is : text ≡ extract_of reading

-- room for it: no more than two bytes for each of the line's and two more
abbrev pub extract_room : (length : ℕ) → ℕ
extract_room n = 2 * n + 2

-- and of lines, one after the other
abbrev pub Extract : (n : ℕ) → List (List ℕ) → (text : List ℕ) → Type 0
Extract = Texts (λ n line text. LineExtract line text)
