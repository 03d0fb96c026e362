-- 01, "Blood group codes", rows of eight code numbers, and the four rows that W-201 adds.
use Rattle.std.specs.Prelude.{ℕ, List, [], ◌∷◌, get_or, length}

-- "default, directed, emergency, directed biohazard, directed crossover, autologous crossover, autologous only, autologous biohazard"
abbrev pub table : List (List ℕ)
table =
    -- O neg
    (95 ∷ 91 ∷ 92 ∷ 93 ∷ 94 ∷ 96 ∷ 97 ∷ 98 ∷ [])
    -- O pos
    ∷ (51 ∷ 47 ∷ 48 ∷ 49 ∷ 50 ∷ 52 ∷ 53 ∷ 54 ∷ [])
    -- A neg
    ∷ (6 ∷ 2 ∷ 3 ∷ 4 ∷ 5 ∷ 7 ∷ 8 ∷ 9 ∷ [])
    -- A pos
    ∷ (62 ∷ 58 ∷ 59 ∷ 60 ∷ 61 ∷ 63 ∷ 64 ∷ 65 ∷ [])
    -- B neg
    ∷ (17 ∷ 13 ∷ 14 ∷ 15 ∷ 16 ∷ 18 ∷ 19 ∷ 20 ∷ [])
    -- B pos
    ∷ (73 ∷ 69 ∷ 70 ∷ 71 ∷ 72 ∷ 74 ∷ 75 ∷ 76 ∷ [])
    -- AB neg
    ∷ (28 ∷ 24 ∷ 25 ∷ 26 ∷ 27 ∷ 29 ∷ 30 ∷ 31 ∷ [])
    -- AB pos
    ∷ (84 ∷ 80 ∷ 81 ∷ 82 ∷ 83 ∷ 85 ∷ 86 ∷ 87 ∷ [])
    ∷ []

-- as many rows as the table has
abbrev pub rows : ℕ
rows = length table

-- the code number at a row and a column, "both counted from 0"
abbrev pub code_number : ℕ → ℕ → ℕ
code_number row column = get_or (get_or table row []) column 0
