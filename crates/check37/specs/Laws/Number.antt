-- The tests of a donation number's characters, and the one answer about any bytes.
use Rattle.std.specs.Prelude.{ℕ, ◌+◌, ◌-◌, ◌<◌, ◌≡◌, Bool, true, List, length, get_or, drop, Option}
use Rattle.std.proofs.Common.{sym, ap, ◌∙◌, subst, arith, length-drop, get_or-drop}
use Rattle.text.specs.Bytes.{digit, first_character}
use Rattle.text.specs.Decides.{Decides}
use Rattle.text.specs.Laws.Decides.{decides_as}
use Rattle.check37.specs.Check.{DonationNumber, Checks, donation, no_donation}

-- all bytes are digits
pub record Digits (s : List ℕ) : Type 0 where
  pub each : (i : ℕ) → i < length s → digit (get_or s i 0) ≡ true

-- a donation number is thirteen bytes with a first character and digits past it
pub tells_number : {s : List ℕ} {u : Bool} → length s ≡ 13 → first_character (get_or s 0 0) ≡ true → Decides u (Digits (drop 1 s))
    → Decides u (DonationNumber s)
tells_number {s} long h x =
    decides_as x
    (λ d. record {
      long = long;
      first = h;
      later = λ i l g.
          let at : i ≡ 1 + (i - 1) = omega arith in
          let within : i - 1 < length (drop 1 s) = simp length-drop (omega arith) in
          subst (λ (k : ℕ). digit (get_or s k 0) ≡ true) (sym at) (sym (ap digit (get_or-drop 1 s (i - 1) 0)) ∙ d.each (i - 1) within);
    })
    (λ d. record {
      each = λ i l.
          let within : 1 + i < 13 = omega (arith, length-drop 1 s) in
          ap digit (get_or-drop 1 s i 0) ∙ d.later (1 + i) (omega arith) within;
    })

pub one_check : {s : List ℕ} {q r : Option ℕ} → Checks s q → Checks s r → q ≡ r
one_check (donation d e) (donation d' e') = e ∙ sym e'
one_check (donation d e) (no_donation n e') = absurd (n d)
one_check (no_donation n e) (donation d e') = absurd (n d)
one_check (no_donation n e) (no_donation n' e') = e ∙ sym e'
