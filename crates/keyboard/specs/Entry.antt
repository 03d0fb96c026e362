-- 01, "Check character and keyboard entry": the language of keyboard entries and the rows of their refusals.
use Rattle.std.specs.Prelude.{ℕ, ◌<◌, ◌≡◌, Bool, true, false, List, [], ◌∷◌, ◌++◌, length, get_or, replicate}
use Rattle.demand.specs.Demand.{Acceptable, Answer, Right, Delivers}
use Rattle.demand.specs.Numbers.{CHARACTER, CHECK, TRAILING}
use Rattle.text.specs.Bytes.{digit, first_character, check_character}
use Rattle.label.specs.declared.Donation.{Donation}
use Rattle.label.specs.Zeros.{no_donation}
use Rattle.check37.specs.Check.{check_of}
use Rattle.structure.specs.Donation.{LawfulDonation, donation_text}
use Rattle.keyboard.specs.declared.Entered.{Entered}

-- "14 bytes: the donation number, then its check"
pub data Types (d : Donation) (s : List ℕ) : Type 0 where
  typed : LawfulDonation d → s ≡ donation_text d ++ check_of (donation_text d) ∷ [] → Types d s

-- "first character and check included; the check's set is upper, digit and *"
abbrev pub sets : List (ℕ → Bool)
sets = first_character ∷ (replicate 12 digit ++ check_character ∷ [])

-- the set of one position
abbrev pub set_at : ℕ → ℕ → Bool
set_at i = get_or sets i (λ b. false)

-- the rows of an entry's fatal byte b after p
pub data Fatal (p : List ℕ) (b n : ℕ) : Type 0 where
  row_character : length p < 14 → set_at (length p) b ≡ false → n ≡ CHARACTER → Fatal p b n
  -- "check character in its set but wrong"
  row_check : length p ≡ 13 → check_character b ≡ true → n ≡ CHECK → Fatal p b n
  row_trailing : Acceptable Types p → n ≡ TRAILING → Fatal p b n

-- the answers that are right for an entry: donation number, refusal number and place
abbrev pub RightEntry : List ℕ → Answer Donation → Type 0
RightEntry s a = Right Types Fatal s a

-- what `enter` must give, by the language and the table: "refused, a number whose parts are all zero"
abbrev pub Enters : List ℕ → Entered → Type 0
Enters s r = Delivers Types Fatal no_donation s r.donation r.refusal r.place
