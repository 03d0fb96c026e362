-- 02, W-214, "What a mistyped number can do": what is typed, and an exchange in it.
use Rattle.std.specs.Prelude.{ℕ, ◌<◌, ◌≡◌, true, List, length, get_or, set}
use Rattle.text.specs.Bytes.{upper_digit}

-- "any thirteen characters of A-Z and 0-9": also those that are no donation number
pub record Characters (s : List ℕ) : Type 0 where
  pub long : length s ≡ 13
  pub each : (i : ℕ) → i < 13 → upper_digit (get_or s i 0) ≡ true

-- "exchanging any two places": each gets what the other holds
abbrev pub exchange : List ℕ → ℕ → ℕ → List ℕ
exchange s i j = set (set s i (get_or s j 0)) j (get_or s i 0)
