-- The first four characters of an 031: lawful next digits, and their laws in and out.
use Rattle.std.specs.Prelude.{ℕ, ◌+◌, ◌/◌, ◌%◌, ◌≤◌, ◌≡◌, refl, Bool, ◌&&◌, List, [], ◌∷◌, ◌++◌, leb, length, get_or, take, drop, replicate}
use Rattle.std.proofs.Common.{sym, ap, ap₂, subst, arith, get_or-take}
use Rattle.demand.specs.Each.{Each}
use Rattle.demand.specs.Numbers.{VALUE}
use Rattle.demand.specs.Laws.Content.{Position, Fits, none, more, Opens, free_fit, part_within}
use Rattle.text.specs.Bytes.{byte}
use Rattle.text.specs.Decimal.{digits, number}
use Rattle.text.specs.Decides.{Decides}
use Rattle.text.specs.Laws.Decides.{decides_both, decides_as, decides_most}
use Rattle.text.specs.Laws.Decimal.{number_digits, digits_in, digit_position, digit_from, DigitSets, digit_set, Bounded, bounded, bounds_in, bounds_out}
use Rattle.flexible.specs.declared.Flexible.{Flexible}
use Rattle.flexible.specs.Flexible.{LawfulFlexible, type_text}

-- first character and type that the first four characters stand for
abbrev pub type_of : List ℕ → Flexible
type_of c = record { first = get_or c 0 0; timetype = number (take 2 (drop 2 c)) }

-- a digit between two that nothing decides
abbrev pub span : ℕ → ℕ → Position
span lo hi = digit_from (λ p. lo) (λ p. hi) VALUE

-- the lawful next digits: 1 or 2, 0, 0, 1 to 5
abbrev pub type_positions : List Position
type_positions = span (byte "1") (byte "2") ∷ span (byte "0") (byte "0") ∷ span (byte "0") (byte "0") ∷ span (byte "1") (byte "5") ∷ []

pub type_opens : Each Opens type_positions
type_opens = (one, (zero_fits, (zero_fits, (one_to_five, tt))))
  where
    one : Opens (span 49 50)
    one p = (49, record { inside = refl; lawful = refl })

    zero_fits : Opens (span 48 48)
    zero_fits p = (48, record { inside = refl; lawful = refl })

    one_to_five : Opens (span 49 53)
    one_to_five p = (49, record { inside = refl; lawful = refl })

pub type_digits : DigitSets type_positions
type_digits = (digit_set, (digit_set, (digit_set, (digit_set, tt))))

pub type_in : {c : List ℕ} → Fits type_positions [] c → LawfulFlexible (type_of c) × (c ≡ type_text (type_of c))
type_in (more {b = b0} f0 (more {b = b1} f1 (more {b = b2} f2 (more {b = b3} f3 none)))) =
    let first = bounds_in (λ p. 49) (λ p. 50) f0 in
    let second = bounds_in (λ p. 48) (λ p. 48) f1 in
    let tens = bounds_in (λ p. 48) (λ p. 48) f2 in
    let ones = bounds_in (λ p. 49) (λ p. 53) f3 in
    let two : b1 ≡ 48 = omega (arith, second.low, second.high) in
    let type : b2 ∷ b3 ∷ [] ≡ digits 2 (number (b2 ∷ b3 ∷ [])) =
    (digits_in 2 VALUE {p = []} (more (free_fit f2.inside) (more (free_fit f3.inside) none))).1 in (
      record {
        least_first = first.low;
        most_first = first.high;
        least_type = omega (arith, ones.low);
        most_type = omega (arith, tens.low, tens.high, ones.high);
      },
      ap₂ (λ (n : ℕ) (r : List ℕ). b0 ∷ n ∷ r) two type,
    )

pub type_out : (f : Flexible) → LawfulFlexible f → Fits type_positions [] (type_text f)
type_out f h =
    let ones : Bounded 49 53 (48 + f.timetype / 1 % 10) =
    bounded (omega arith) (omega arith) (omega (arith, h.least_type, h.most_type)) (omega (arith, h.most_type)) in
    let tens : Bounded 48 48 (48 + f.timetype / 10 % 10) =
    bounded (omega arith) (omega arith) (omega arith) (omega (arith, h.most_type)) in
    let first : Bounded 49 50 f.first =
    bounded (omega (arith, h.least_first)) (omega (arith, h.most_first)) h.least_first h.most_first in
    more (bounds_out (λ p. 49) (λ p. 50) first) (more record { inside = refl; lawful = refl }
    (more (bounds_out (λ p. 48) (λ p. 48) tens) (more (bounds_out (λ p. 49) (λ p. 53) ones) none)))

pub type_back : (f : Flexible) (s : List ℕ) → LawfulFlexible f → type_of (type_text f ++ s) ≡ f
type_back f s h = let n = number_digits 2 f.timetype (omega (arith, h.most_type)) in λ i. record { first = f.first; timetype = n i }

-- what a content's front stands for
pub type_front : (c : List ℕ) → 4 ≤ length c → type_of (take 4 c) ≡ type_of c
type_front c l =
    let first = get_or-take 4 c 0 0 (omega arith) in
    let type = ap number (part_within c 2 2 4 (omega arith) (omega arith)) in
    λ i. record { first = first i; timetype = type i }

-- four digits, the second of them 0, that stand for a lawful type fit
pub type_fits : {p c : List ℕ} → Fits (replicate 4 (digit_position VALUE)) p c → get_or c 1 0 ≡ byte "0"
    → LawfulFlexible (type_of c) → Fits type_positions [] c
type_fits (more {b = b0} f0 (more f1 (more {b = b2} f2 (more {b = b3} f3 none)))) e h =
    let type : b2 ∷ b3 ∷ [] ≡ digits 2 (number (b2 ∷ b3 ∷ [])) = (digits_in 2 VALUE (more f2 (more f3 none))).1 in
    subst (Fits type_positions []) (sym (ap₂ (λ (n : ℕ) (r : List ℕ). b0 ∷ n ∷ r) e type))
    (type_out record { first = b0; timetype = number (b2 ∷ b3 ∷ []) } h)

-- a lawful type as the test that code makes
abbrev pub type_test : Flexible → Bool
type_test f = (leb (byte "1") f.first && leb f.first (byte "2")) && (leb 1 f.timetype && leb f.timetype 5)

pub type_tells : (f : Flexible) → Decides (type_test f) (LawfulFlexible f)
type_tells f =
    decides_as (decides_both (decides_both (decides_most 49 f.first) (decides_most f.first 50))
    (decides_both (decides_most 1 f.timetype) (decides_most f.timetype 5)))
    (λ h. record { least_first = h.0.0; most_first = h.0.1; least_type = h.1.0; most_type = h.1.1 })
    (λ h. ((h.least_first, h.most_first), (h.least_type, h.most_type)))
