-- W-206: the text of a tally, a line for each figure: its name, one blank and the figure. docs/TALLY.md has the names.
use Rattle.std.specs.Prelude.{ℕ, ◌+◌, ◌≡◌, List, [], ◌∷◌, ◌++◌, Bool, cond}
use Rattle.text.specs.Bytes.{byte, bytes}
use Rattle.lines.specs.Lines.{LF}
use Rattle.lines.specs.Report.{Decimal, DECIMAL_ROOM}

-- the line of one figure
pub record Row (name : List ℕ) (v : ℕ) (text : List ℕ) : Type 0 where
  pub decimal : List ℕ
  pub figure : Decimal v decimal
  pub is : text ≡ name ++ byte " " ∷ (decimal ++ LF ∷ [])

-- the lines of figures, each under its name
pub data Rows : List (List ℕ) → List ℕ → List ℕ → Type 0 where
  no_row : Rows [] [] []
  row_then : {name here rest : List ℕ} {v : ℕ} {names : List (List ℕ)} {vs : List ℕ} → Row name v here → Rows names vs rest
      → Rows (name ∷ names) (v ∷ vs) (here ++ rest)

-- the names in the tally's order: lines, accepted and refused ones, forms, kinds, refusals by their names in 01 and 02, and what kept it from counting on
abbrev pub names : List (List ℕ)
names =
    bytes "lines" ∷ bytes "accepted" ∷ bytes "refused" ∷ bytes "single" ∷ bytes "pair" ∷ bytes "compound"
    ∷ bytes "structures-001" ∷ bytes "structures-002" ∷ bytes "structures-003"
    ∷ bytes "structures-004" ∷ bytes "structures-005" ∷ bytes "structures-006" ∷ bytes "structures-007" ∷ bytes "structures-008"
    ∷ bytes "structures-009" ∷ bytes "structures-010" ∷ bytes "structures-012" ∷ bytes "structures-018" ∷ bytes "structures-031"
    ∷ bytes "refused-SHORT" ∷ bytes "refused-IDENTIFIER" ∷ bytes "refused-NESTED" ∷ bytes "refused-CHARACTER" ∷ bytes "refused-VALUE"
    ∷ bytes "refused-TRAILING" ∷ bytes "refused-CHECK" ∷ bytes "refused-DAY" ∷ bytes "refused-TIME" ∷ bytes "refused-REPEAT"
    ∷ bytes "stopped" ∷ bytes "failed" ∷ []

-- "the tally says it stopped", and that its input failed: 1 in that row, else 0
abbrev pub said : Bool → ℕ
said t = cond t 1 0

-- the text of a tally: of its figures, whether it stopped, and whether its input failed
pub record TallyText (figures : List ℕ) (stopped failed : Bool) (text : List ℕ) : Type 0 where
  pub rows : Rows names (figures ++ said stopped ∷ said failed ∷ []) text

-- room for a figure, the blank before it and the LF behind
abbrev pub FIGURE_ROOM : ℕ
FIGURE_ROOM = DECIMAL_ROOM + 2

-- so many rows there are, and room for their text
abbrev pub ROWS : ℕ
ROWS = 31

abbrev pub TEXT_ROOM : ℕ
TEXT_ROOM = 2048
