-- The donation number's twelve digits, in and out: one proof for the label and the keyboard.
use Rattle.std.specs.Prelude.{ℕ, ◌≡◌, refl, true, List, ◌++◌, get_or, take, drop, replicate}
use Rattle.std.proofs.Common.{ap₂, ◌∙◌, arith}
use Rattle.demand.specs.Each.{Each}
use Rattle.demand.specs.Numbers.{VALUE}
use Rattle.demand.specs.Laws.Each.{each_replicate, each_append}
use Rattle.demand.specs.Laws.Content.{Position, Fits, Opens, free_opens, fits_join, fits_split}
use Rattle.text.specs.Bytes.{digit, first_character}
use Rattle.text.specs.Decimal.{number}
use Rattle.text.specs.Laws.Decimal.{number_digits, digit_position, digits_in, digits_out}
use Rattle.label.specs.declared.Donation.{Donation}
use Rattle.structure.specs.Donation.{LawfulDonation, donation_digits, donation_text}

abbrev pub decimal : ℕ → List Position
decimal n = replicate n (digit_position VALUE)

-- pppp, yy and nnnnnn
abbrev pub donation_positions : List Position
donation_positions = decimal 4 ++ (decimal 2 ++ decimal 6)

pub decimal_opens : (n : ℕ) → Each Opens (decimal n)
decimal_opens n = each_replicate Opens n (digit_position VALUE) (free_opens digit VALUE 48 refl)

pub donation_opens : Each Opens donation_positions
donation_opens =
    each_append Opens (decimal 4) (decimal 2 ++ decimal 6) (decimal_opens 4) (each_append Opens (decimal 2) (decimal 6) (decimal_opens 2) (decimal_opens 6))

pub donation_in : {b : ℕ} {p c : List ℕ} → first_character b ≡ true → Fits donation_positions p c
    → (d : Donation) × LawfulDonation d × (d.first ≡ b) × (c ≡ donation_digits d)
donation_in {b} first fs =
    let pppp = fits_split (decimal 4) fs in
    let yy = fits_split (decimal 2) pppp.right_fits in
    let (f, fe) = digits_in 4 VALUE pppp.left_fits in
    let (y, ye) = digits_in 2 VALUE yy.left_fits in
    let (s, se) = digits_in 6 VALUE yy.right_fits in (
      record { sequence = number yy.right; facility = number pppp.left; first = b; year = number yy.left },
      record { first = first; facility = omega arith; year = omega arith; sequence = omega arith },
      refl,
      pppp.whole ∙ ap₂ ◌++◌ fe (yy.whole ∙ ap₂ ◌++◌ ye se),
    )

pub donation_out : (d : Donation) (p : List ℕ) → Fits donation_positions p (donation_digits d)
donation_out d p =
    fits_join (digits_out 4 VALUE p d.facility) (fits_join (digits_out 2 VALUE _ d.year) (digits_out 6 VALUE _ d.sequence))

-- the donation number that thirteen characters stand for
abbrev pub donation_of : List ℕ → Donation
donation_of c =
    record { sequence = number (take 6 (drop 7 c)); facility = number (take 4 (drop 1 c)); first = get_or c 0 0; year = number (take 2 (drop 5 c)) }

pub donation_back : (d : Donation) (s : List ℕ) → LawfulDonation d → donation_of (donation_text d ++ s) ≡ d
donation_back d s h =
    let facility = number_digits 4 d.facility (omega arith) in
    let year = number_digits 2 d.year (omega arith) in
    let sequence = number_digits 6 d.sequence (omega arith) in
    λ i. record { sequence = sequence i; facility = facility i; first = d.first; year = year i }
