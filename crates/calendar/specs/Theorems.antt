-- What follows from the rules of a date.
use Rattle.std.specs.Prelude.{ℕ, ◌%◌, ◌≤◌, ◌≡◌}
use Rattle.calendar.specs.Calendar.{year_of, century_of, FIRST_YEAR, LAST_YEAR}
use Rattle.calendar.specs.Laws.Date.{year_back, year_forth}

-- "the year is 2000 + 100c + yy": each year from the first to the last is the one that its c and its two last digits name
pub year_named_by : (y : ℕ) → FIRST_YEAR ≤ y → y ≤ LAST_YEAR → (century_of y ≤ 9) × (year_of (century_of y) (y % 100) ≡ y)
year_named_by y first late = year_back y first late

-- and each c and yy name such a year, whose c and last two digits they are
pub named_year : (c yy : ℕ) → c ≤ 9 → yy ≤ 99
    → (FIRST_YEAR ≤ year_of c yy) × (year_of c yy ≤ LAST_YEAR) × (century_of (year_of c yy) ≡ c) × (year_of c yy % 100 ≡ yy)
named_year c yy h g = year_forth c yy h g
