-- The thirteen bytes that have a check character are the text of a donation number.
use Rattle.std.specs.Prelude.{ℕ, zero, suc, ◌≤◌, ◌<◌, ◌≡◌, refl, true, List, [], ◌∷◌, length, get_or}
use Rattle.std.proofs.Common.{sym, ap, ap₂, ◌∙◌, arith}
use Rattle.std.proofs.lemmas.List.{get_or-replicate}
use Rattle.demand.specs.Numbers.{VALUE}
use Rattle.demand.specs.Laws.Content.{Position, Fits, nowhere, fits_inside}
use Rattle.text.specs.Bytes.{digit}
use Rattle.text.specs.Laws.Decimal.{digit_position, digits_fit}
use Rattle.label.specs.declared.Donation.{Donation}
use Rattle.check37.specs.Check.{DonationNumber}
use Rattle.structure.specs.Donation.{LawfulDonation, donation_text}
use Rattle.structure.specs.Laws.Donation.{donation_positions, donation_in, donation_out}

pub number_in : (s : List ℕ) → DonationNumber s → (d : Donation) × LawfulDonation d × (s ≡ donation_text d)
number_in [] n = absurd (omega (arith, n.long))
number_in (b ∷ c) n =
    let twelve : length c ≡ 12 = omega (arith, n.long) in
    let fits : Fits donation_positions [] c = rw twelve at (digits_fit VALUE c [] (λ i l. n.later (suc i) (omega arith) (omega arith))) in
    let (d, lawful, first, digits) = donation_in n.first fits in
    (d, lawful, ap₂ ◌∷◌ (sym first) digits)

pub number_out : (d : Donation) → LawfulDonation d → DonationNumber (donation_text d)
number_out d h = record { long = refl; first = h.first; later = at }
  where
    at : (i : ℕ) → 1 ≤ i → i < 13 → digit (get_or (donation_text d) i 0) ≡ true
    at zero l g = absurd (omega arith)
    at (suc i) l g =
        let here : get_or donation_positions i nowhere ≡ digit_position VALUE = get_or-replicate 12 i (digit_position VALUE) nowhere (omega arith) in
        sym (ap (λ (π : Position). π.set (get_or (donation_text d) (suc i) 0)) here) ∙ fits_inside nowhere (donation_out d []) i (omega arith)
