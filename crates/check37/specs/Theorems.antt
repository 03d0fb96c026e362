-- What follows from the rules of the check character.
use Rattle.std.specs.Prelude.{ℕ, ◌≡◌, true, List, Option}
use Rattle.text.specs.Bytes.{check_character}
use Rattle.check37.specs.Check.{worth, check_worth, check_of, Checks}
use Rattle.check37.specs.Laws.Worth as worths
use Rattle.check37.specs.Laws.Number as number

-- `check_character`'s contract leaves one answer for any bytes
pub one_check : (s : List ℕ) (q r : Option ℕ) → Checks s q → Checks s r → q ≡ r
one_check s q r x y = number.one_check x y

-- a check character is in the check's set, "upper, digit and *"
pub check_in_set : (s : List ℕ) → check_character (check_of s) ≡ true
check_in_set s = (worths.of_check s).0

-- and has the check's worth
pub worth_of_check : (s : List ℕ) → worth (check_of s) ≡ check_worth s
worth_of_check s = (worths.of_check s).1
