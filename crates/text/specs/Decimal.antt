-- A number in n decimal digits, and the number that digits stand for.
use Rattle.std.specs.Prelude.{ℕ, zero, suc, ◌+◌, ◌-◌, ◌*◌, ◌/◌, ◌%◌, ◌^◌, ◌≤◌, ◌<◌, ◌≡◌, true, List, [], ◌∷◌, length, get_or}
use Rattle.text.specs.Bytes.{byte, digit}

-- the digit of the highest power of ten first, and so on down to the ones
abbrev pub digits : ℕ → ℕ → List ℕ
digits zero v = []
digits (suc n) v = (byte "0" + v / 10 ^ n % 10) ∷ digits n v

-- what digits stand for, the highest power of ten first
abbrev pub number : List ℕ → ℕ
number [] = 0
number (b ∷ c) = (b - byte "0") * 10 ^ length c + number c

-- n bytes from an index on, all of them "digit"
pub record DigitsAt (s : List ℕ) (i n : ℕ) : Type 0 where
  pub inside : i + n ≤ length s
  pub all : (j : ℕ) → j < n → digit (get_or s (i + j) 0) ≡ true
