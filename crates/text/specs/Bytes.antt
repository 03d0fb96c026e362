-- 01, "The structures": the sets of bytes that a position of a content may have.
use Rattle.std.specs.Prelude.{ℕ, Bool, ◌&&◌, ◌||◌, List, [], ◌∷◌, leb, eqb}
use Prim.Native.Char.{Char, code}
use Prim.Native.String.{String}

-- the byte of a character
abbrev pub byte : Char → ℕ
byte c = code c

-- the bytes of a quoted text
abbrev pub bytes : String → List ℕ
bytes String.[] = []
bytes (String.◌∷◌ c s) = byte c ∷ bytes s

-- the bytes from one character to another
abbrev pub from : Char → Char → ℕ → Bool
from lo hi b = leb (byte lo) b && leb b (byte hi)

-- "digit" is 0-9
abbrev pub digit : ℕ → Bool
digit = from "0" "9"

-- "upper" is A-Z
abbrev pub upper : ℕ → Bool
upper = from "A" "Z"

-- "lower" is a-z
abbrev pub lower : ℕ → Bool
lower = from "a" "z"

-- "upper or digit"
abbrev pub upper_digit : ℕ → Bool
upper_digit b = upper b || digit b

-- "lower or digit"
abbrev pub lower_digit : ℕ → Bool
lower_digit b = lower b || digit b

-- "upper, lower or digit"
abbrev pub upper_lower_digit : ℕ → Bool
upper_lower_digit b = upper b || (lower b || digit b)

-- 001: "one of A-N, P-Z, 1-9"
abbrev pub first_character : ℕ → Bool
first_character b = from "A" "N" b || (from "P" "Z" b || from "1" "9" b)

-- keyboard entry: "the check's set is upper, digit and *"
abbrev pub check_character : ℕ → Bool
check_character b = upper b || (digit b || eqb b (byte "*"))
