-- 01, "001": the donation number, on a label and at the keyboard, and the flags behind it on a label.
use Rattle.std.specs.Prelude.{ℕ, ◌+◌, ◌≤◌, ◌≡◌, true, List, ◌∷◌, ◌++◌}
use Rattle.text.specs.Bytes.{first_character}
use Rattle.text.specs.Decimal.{digits}
use Rattle.check37.specs.Check.{check_worth}
use Rattle.label.specs.declared.Donation.{Donation}
use Rattle.label.specs.declared.Flags.{Flags}

-- "one of A-N, P-Z, 1-9"; "then pppp, yy, nnnnnn", all digits
pub record LawfulDonation (d : Donation) : Type 0 where
  pub first : first_character d.first ≡ true
  pub facility : d.facility ≤ 9999
  pub year : d.year ≤ 99
  pub sequence : d.sequence ≤ 999999

-- pppp, yy and nnnnnn
abbrev pub donation_digits : Donation → List ℕ
donation_digits d = digits 4 d.facility ++ (digits 2 d.year ++ digits 6 d.sequence)

-- "the 13 characters before ff are the donation number itself"
abbrev pub donation_text : Donation → List ℕ
donation_text d = d.first ∷ donation_digits d

-- W-203: "ff is 00 to 59, or 60 plus the worth of that number's own check"
pub data LawfulFlags (d : Donation) (f : Flags) : Type 0 where
  plain : f.number ≤ 59 → LawfulFlags d f
  carries_check : f.number ≡ 60 + check_worth (donation_text d) → LawfulFlags d f
