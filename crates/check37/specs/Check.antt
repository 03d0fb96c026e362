-- 01, "Check character and keyboard entry": ISO 7064 modulo 37,2.
use Rattle.std.specs.Prelude.{ℕ, ◌+◌, ◌-◌, ◌*◌, ◌%◌, ◌≤◌, ◌<◌, ◌≡◌, true, cond, List, [], ◌∷◌, ltb, length, get_or, Option, Some, None}
use Rattle.text.specs.Bytes.{byte, digit, upper, first_character}

-- "digits are worth 0 to 9, A to Z 10 to 35, * 36"; any other byte is given 36 as well, and no lawful donation number has one
abbrev pub worth : ℕ → ℕ
worth b = cond (digit b) (b - byte "0") (cond (upper b) (b - byte "A" + 10) 36)

-- the same rule read back: the character that has a worth
abbrev pub character : ℕ → ℕ
character w = cond (ltb w 10) (w + byte "0") (cond (ltb w 36) (w - 10 + byte "A") (byte "*"))

-- "for each of the 13 characters, add its worth, double, take the remainder by 37"
abbrev pub remainder : ℕ → List ℕ → ℕ
remainder r [] = r
remainder r (b ∷ s) = remainder ((r + worth b) * 2 % 37) s

-- "start from 0"; "the check's worth is 38 minus that, by 37"
abbrev pub check_worth : List ℕ → ℕ
check_worth s = (38 - remainder 0 s) % 37

-- the check character: the one that has "the check's worth"
abbrev pub check_of : List ℕ → ℕ
check_of s = character (check_worth s)

-- 001: 13 characters, "one of A-N, P-Z, 1-9", then pppp, yy and nnnnnn, which are digits
pub record DonationNumber (s : List ℕ) : Type 0 where
  pub long : length s ≡ 13
  pub first : first_character (get_or s 0 0) ≡ true
  pub later : (i : ℕ) → 1 ≤ i → i < 13 → digit (get_or s i 0) ≡ true

-- what is answered of any bytes: "the check character of 13 bytes", or that "they are no donation number"
pub data Checks (s : List ℕ) (r : Option ℕ) : Type 0 where
  donation : DonationNumber s → r ≡ Some (check_of s) → Checks s r
  no_donation : (DonationNumber s → ⊥) → r ≡ None → Checks s r

-- 01, "Terminal and bench program": the character's byte, and 0 where there is no donation number
abbrev pub check_byte : Option ℕ → ℕ
check_byte (Some c) = c
check_byte None = 0
