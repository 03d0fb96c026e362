-- Some characters and then their check, which they decide: its one byte, and the antigen structure of 2001, in and out.
use Rattle.std.specs.Prelude.{ℕ, ◌≡◌, refl, List, [], ◌∷◌, ◌++◌, eqb, take, drop}
use Rattle.std.proofs.Common.{ap, ap₂, ◌∙◌, arith, eqb-true, eq-eqb}
use Rattle.demand.specs.Each.{Each}
use Rattle.demand.specs.Numbers.{VALUE, CHECK}
use Rattle.demand.specs.Laws.Each.{each_append}
use Rattle.demand.specs.Laws.Content.{Position, Fit, Fits, none, more, Opens, fits_join, fits_split}
use Rattle.text.specs.Bytes.{check_character}
use Rattle.text.specs.Decimal.{number}
use Rattle.text.specs.Laws.Decimal.{number_digits, digits_in, digits_out}
use Rattle.check37.specs.Check.{check_of}
use Rattle.check37.specs.Theorems.{check_in_set}
use Rattle.label.specs.declared.Antigens2001.{Antigens2001}
use Rattle.structure.specs.Structures.{LawfulAntigens2001, antigen_digits}
use Rattle.structure.specs.Laws.Donation.{decimal, decimal_opens}

-- one byte of the set goes on, the check of those before it
abbrev pub check_position : Position
check_position = record { set = check_character; rule = λ p b. eqb b (check_of p); refusal = CHECK }

pub check_fit : (p : List ℕ) → Fit check_position p (check_of p)
check_fit p = record { inside = check_in_set p; lawful = eq-eqb (check_of p) (check_of p) refl }

pub check_opens : Opens check_position
check_opens p = (check_of p, check_fit p)

-- the check is the only byte that fits last
pub only_check : {p c : List ℕ} → Fits (check_position ∷ []) p c → c ≡ check_of p ∷ []
only_check {p} (more {b = b} f none) = ap (◌∷ []) (eqb-true b (check_of p) f.lawful)

-- eighteen digits and their check
abbrev pub antigen_positions : List Position
antigen_positions = decimal 18 ++ check_position ∷ []

pub antigen_opens : Each Opens antigen_positions
antigen_opens = each_append Opens (decimal 18) (check_position ∷ []) (decimal_opens 18) (check_opens, tt)

-- the antigen structure that a content stands for
abbrev pub antigens_of : List ℕ → Antigens2001
antigens_of c = record { results = number (take 16 c); ii = number (take 2 (drop 16 c)) }

pub antigens_in : {c : List ℕ} → Fits antigen_positions [] c
    → (a : Antigens2001) × LawfulAntigens2001 a × (c ≡ antigen_digits a ++ check_of (antigen_digits a) ∷ [])
antigens_in fs =
    let parts = fits_split (decimal 18) fs in
    let sides = fits_split (decimal 16) {ρs = decimal 2} parts.left_fits in
    let (r, re) = digits_in 16 VALUE sides.left_fits in
    let (i, ie) = digits_in 2 VALUE sides.right_fits in
    let a : Antigens2001 = record { results = number sides.left; ii = number sides.right } in
    let text : parts.left ≡ antigen_digits a = sides.whole ∙ ap₂ ◌++◌ re ie in (
      a,
      record { results = omega arith; ii = omega arith },
      parts.whole ∙ ap (parts.left ++◌) (only_check parts.right_fits) ∙ ap (λ (t : List ℕ). t ++ check_of t ∷ []) text,
    )

pub antigens_out : (a : Antigens2001) → Fits antigen_positions [] (antigen_digits a ++ check_of (antigen_digits a) ∷ [])
antigens_out a =
    let front = fits_join {πs = decimal 16} (digits_out 16 VALUE [] a.results) (digits_out 2 VALUE _ a.ii) in
    fits_join {πs = decimal 18} front (more (check_fit (antigen_digits a)) none)

pub antigens_back : (a : Antigens2001) (s : List ℕ) → LawfulAntigens2001 a → antigens_of (antigen_digits a ++ s) ≡ a
antigens_back a s h =
    let results = number_digits 16 a.results (omega arith) in
    let ii = number_digits 2 a.ii (omega arith) in
    λ i. record { results = results i; ii = ii i }
