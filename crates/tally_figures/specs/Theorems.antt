-- What follows of the figures: every input has one tally, accepted and refused lines make all, and tallies add up.
use Rattle.std.specs.Prelude.{ℕ, ◌+◌, ◌≡◌, List, [], ◌∷◌, ◌++◌, map, length}
use Rattle.std.proofs.Common.{sym, ◌∙◌}
use Rattle.message.specs.declared.Reading.{Reading}
use Rattle.lines.specs.Lines.{LF, lines}
use Rattle.tally_figures.specs.Tally.{Readings, all_accepted, all_refused, of_form, refused, forms, refusal_numbers, total, sums, Tally}
use Rattle.tally_figures.specs.Laws.Readings as readings
use Rattle.tally_figures.specs.Laws.Figures as laws

-- any lines have a tally
pub some_tally : (ls : List (List ℕ)) → (t : List ℕ) × Tally ls t
some_tally ls = laws.some_tally ls

-- and only one
pub one_tally : (ls : List (List ℕ)) (a b : List ℕ) → Tally ls a → Tally ls b → a ≡ b
one_tally ls a b x y = laws.one_tally x y

-- there is a reading for each line
pub as_many : (ls : List (List ℕ)) (rs : List Reading) → Readings ls rs → length rs ≡ length ls
as_many ls rs x = readings.readings_long x

-- "accepted plus refused makes all the lines"
pub all_lines : (ls : List (List ℕ)) (rs : List Reading) → Readings ls rs → length ls ≡ all_accepted rs + all_refused rs
all_lines ls rs x = sym (readings.readings_long x) ∙ laws.accepted_or_refused rs

-- every accepted message has a row by its form, and every refusal one by its number
pub by_form : (rs : List Reading) → all_accepted rs ≡ total (map (of_form rs) forms)
by_form rs = laws.by_form rs

pub by_number : (ls : List (List ℕ)) (rs : List Reading) → Readings ls rs → all_refused rs ≡ total (map (refused rs) refusal_numbers)
by_number ls rs x = laws.by_number x

-- the tally of two inputs one after the other, the first ended by LF, is the sum of their tallies
pub one_after_other : (u t a b : List ℕ) → Tally (lines (u ++ LF ∷ [])) a → Tally (lines t) b → Tally (lines ((u ++ LF ∷ []) ++ t)) (sums a b)
one_after_other u t a b x y = rw (laws.lines_after u t) (laws.tally_append x y)
