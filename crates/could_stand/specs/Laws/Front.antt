-- The beginning of a scan.
use Rattle.std.specs.Prelude.{ℕ, ◌≡◌, List, length, take}

-- an array begins with the first i bytes of s
pub record FrontOf (s : List ℕ) (i : ℕ) (l : List ℕ) : Type 0 where
  pub size : length l ≡ 328
  pub same : take i l ≡ take i s
