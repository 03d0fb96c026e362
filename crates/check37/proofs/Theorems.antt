-- What the check character sees of a mistyped number, and what not. It stands here so that an edit of the rule is read, and refused.
use Rattle.std.specs.Prelude.{ℕ, ◌<◌, ◌≡◌, refl, true, List, ◌≢◌, get_or, set}
use Rattle.text.specs.Bytes.{bytes, upper_digit}
use Rattle.check37.specs.Check.{check_of}
use Rattle.check37.specs.Typed.{Characters, exchange}
use Rattle.check37.proofs.Mistyped as mistyped

-- "altering any one place to another of these characters" alters the check character
pub altered : (s : List ℕ) (i b : ℕ) → Characters s → i < 13 → upper_digit b ≡ true → b ≢ get_or s i 0 → check_of (set s i b) ≢ check_of s
altered s i b = mistyped.altered i b

-- and so does "exchanging any two places that hold different characters"
pub exchanged : (s : List ℕ) (i j : ℕ) → Characters s → i < 13 → j < 13 → get_or s i 0 ≢ get_or s j 0 → check_of (exchange s i j) ≢ check_of s
exchanged s i j = mistyped.exchanged i j

-- two altered places may not: the last two of a number, 56 typed as 80
pub two_altered : check_of (bytes "W000021123480") ≡ check_of (bytes "W000021123456")
two_altered = refl
