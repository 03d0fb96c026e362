-- What is written for the lines of an input, whatever is written for one: `Line n line text` says that text is what is written for a line with the number n.
use Rattle.std.specs.Prelude.{ℕ, ◌+◌, ◌<◌, List, [], ◌∷◌, ◌++◌, length}

-- the texts of lines, one after the other; the first line has the number n
pub data Texts (Line : ℕ → List ℕ → List ℕ → Type 0) : (n : ℕ) → List (List ℕ) → (text : List ℕ) → Type 0 where
  no_line : {n : ℕ} → Texts Line n [] []
  line_then : {n : ℕ} {line here rest : List ℕ} {ls : List (List ℕ)} → Line n line here → Texts Line (n + 1) ls rest
      → Texts Line n (line ∷ ls) (here ++ rest)

-- of the texts of lines after the line n the output took all up to the line `last`, and of the next no more than a front
pub data Reaches (Line : ℕ → List ℕ → List ℕ → Type 0) : (n : ℕ) → List (List ℕ) → (put : List ℕ) (last : ℕ) → Type 0 where
  cut_in : {n : ℕ} {line begun : List ℕ} {ls : List (List ℕ)} (lost : List ℕ) → Line (n + 1) line (begun ++ lost) → 0 < length lost
      → Reaches Line n (line ∷ ls) begun n
  line_then : {n last : ℕ} {line here put : List ℕ} {ls : List (List ℕ)} → Line (n + 1) line here → Reaches Line (n + 1) ls put last
      → Reaches Line n (line ∷ ls) (here ++ put) last
