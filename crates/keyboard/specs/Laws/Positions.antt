-- The fourteen positions of an entry: the first character, twelve digits and the check, which the thirteen before it decide.
use Rattle.std.specs.Prelude.{ℕ, zero, suc, ◌<◌, ◌≡◌, refl, true, false, List, [], ◌∷◌, ◌++◌, length, get_or}
use Rattle.std.proofs.Common.{sym, ap, ap₂, ◌∙◌, subst, true≢false, ⊎_elim, eq-or-lt_of_le, le_of_suc-le-suc, arith}
use Rattle.std.proofs.lemmas.List.{get_or-replicate}
use Rattle.std.proofs.Math.ListN.{get_or-map, get_or-append}
use Rattle.demand.specs.Each.{Each}
use Rattle.demand.specs.Numbers.{VALUE, CHECK}
use Rattle.demand.specs.Laws.Each.{each_append}
use Rattle.demand.specs.Laws.Content.{Position, Fits, none, more, free, free_fit, free_opens, nowhere, Opens, fits_join, fits_split, fits_length}
use Rattle.text.specs.Bytes.{byte, first_character}
use Rattle.text.specs.Laws.Decimal.{digit_position}
use Rattle.label.specs.declared.Donation.{Donation}
use Rattle.check37.specs.Check.{check_of}
use Rattle.structure.specs.Donation.{donation_text}
use Rattle.structure.specs.Laws.Checked.{check_position, check_fit, check_opens, only_check}
use Rattle.structure.specs.Laws.Donation.{donation_positions, donation_opens, donation_in, donation_out, donation_of, donation_back}
use Rattle.keyboard.specs.Entry.{set_at, Types, typed}

-- the whole set goes on, so its VALUE is never told
abbrev pub first_position : Position
first_position = free first_character VALUE

-- past the first character
abbrev pub later_positions : List Position
later_positions = donation_positions ++ check_position ∷ []

abbrev pub entry_positions : List Position
entry_positions = first_position ∷ later_positions

-- after any bytes there is a lawful next one
pub entry_opens : Each Opens entry_positions
entry_opens = (
  free_opens first_character VALUE (byte "A") refl,
  each_append Opens donation_positions (check_position ∷ []) donation_opens
      (check_opens, tt),
)

-- fourteen fitting bytes are the entry of a donation number, and its entry fits
pub entry_in : {c : List ℕ} → Fits entry_positions [] c → Types (donation_of c) c
entry_in (more {b = b} {c = c} f fs) =
    let parts = fits_split donation_positions fs in
    let (d, lawful, first, left) = donation_in f.inside parts.left_fits in
    let text : b ∷ parts.left ≡ donation_text d = ap₂ ◌∷◌ (sym first) left in
    let whole : b ∷ c ≡ donation_text d ++ check_of (donation_text d) ∷ [] =
    ap (b ∷◌) (parts.whole ∙ ap (parts.left ++◌) (only_check parts.right_fits)) ∙ ap (λ (t : List ℕ). t ++ check_of t ∷ []) text
    in
    let back : donation_of (b ∷ c) ≡ d = ap donation_of whole ∙ donation_back d (check_of (donation_text d) ∷ []) lawful in
    subst (λ (e : Donation). Types e (b ∷ c)) (sym back) (typed lawful whole)

pub entry_out : {d : Donation} {s : List ℕ} → Types d s → Fits entry_positions [] s × (donation_of s ≡ d)
entry_out {d} (typed h e) = (
  rw e (more (free_fit h.first) (fits_join (donation_out d (d.first ∷ [])) (more (check_fit (donation_text d)) none))),
  ap donation_of e ∙ donation_back d (check_of (donation_text d) ∷ []) h,
)

pub entry_length : {d : Donation} {s : List ℕ} → Types d s → length s ≡ 14
entry_length w = fits_length (entry_out w).0

-- the positions' sets are the table's
pub set_of : (i : ℕ) → (get_or entry_positions i nowhere).set ≡ set_at i
set_of i = sym (get_or-map (λ (π : Position). π.set) entry_positions i nowhere)

-- the twelve and the last past the first character
pub digit_at : (i : ℕ) → i < 12 → get_or later_positions i nowhere ≡ digit_position VALUE
digit_at i l = get_or-append donation_positions (check_position ∷ []) nowhere i l ∙ get_or-replicate 12 i (digit_position VALUE) nowhere l

pub check_at : (i : ℕ) → i ≡ 12 → get_or later_positions i nowhere ≡ check_position
check_at i e = rw e

-- only the check has unlawful bytes in its set
pub unlawful_at : (i : ℕ) (p : List ℕ) (b : ℕ) → i < 14 → (get_or entry_positions i nowhere).rule p b ≡ false
    → (i ≡ 13) × ((get_or entry_positions i nowhere).refusal ≡ CHECK)
unlawful_at zero p b l e = absurd (true≢false e)
unlawful_at (suc i) p b l e =
    ⊎_elim (λ h. (omega arith, rw (check_at i h)))
    (λ h. let z : true ≡ false = ap (λ (π : Position). π.rule p b) (sym (digit_at i h)) ∙ e in absurd (true≢false z))
    (eq-or-lt_of_le (le_of_suc-le-suc (le_of_suc-le-suc l)))

-- every unlawful byte past the first character has a number
pub refuses : (i : ℕ) → i < 13 → (get_or later_positions i nowhere).refusal ≡ 0 → ⊥
refuses i l z =
    ⊎_elim (λ h. let e = ap (λ (π : Position). π.refusal) (check_at i h) in omega arith)
    (λ h. let e = ap (λ (π : Position). π.refusal) (digit_at i h) in omega arith) (eq-or-lt_of_le (le_of_suc-le-suc l))
