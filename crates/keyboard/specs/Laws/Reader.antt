-- What the code finds byte by byte, and the answer that follows.
use Rattle.std.specs.Prelude.{ℕ, ◌+◌, ◌≤◌, ◌<◌, ◌≡◌, refl, Bool, true, false, cond, List, [], ◌∷◌, eqb, length, get_or, take, drop}
use Rattle.std.proofs.Common.{ap, ap₂, ◌∙◌, add-one, arith, drop-cons, take_all, get_or-take, get_or-drop}
use Rattle.std.proofs.Math.Seq.{drop-length}
use Rattle.demand.specs.Demand.{Answer, accepted, refused}
use Rattle.demand.specs.Numbers.{SHORT, CHARACTER, VALUE, TRAILING, CHECK}
use Rattle.demand.specs.Laws.Tree.{fatal, walk}
use Rattle.demand.specs.Laws.Content.{nowhere, content, fits_inside}
use Rattle.text.specs.Bytes.{digit, first_character, check_character}
use Rattle.text.specs.Decimal.{DigitsAt}
use Rattle.label.specs.declared.Donation.{Donation}
use Rattle.check37.specs.Check.{check_of}
use Rattle.structure.specs.Laws.Donation.{donation_of}
use Rattle.content_scan.specs.Laws.Scan.{Whole, Early, Unfitting, JudgesBody, whole_walk, short_walk, unfit_walk}
use Rattle.keyboard.specs.Laws.Positions.{later_positions, digit_at}
use Rattle.keyboard.specs.Laws.Tree.{complete, entry}
use Rattle.keyboard.specs.Laws.Answers.{answer}

-- the number of a byte past the first character: a digit, or the check
pub judges_digit : {s : List ℕ} {i r : ℕ} {inside : Bool} → i < 12 → inside ≡ digit (get_or s (i + 1) 0)
    → r ≡ cond inside (cond true 0 VALUE) CHARACTER → JudgesBody later_positions s i r
judges_digit {i = i} l e is = record { is = is ∙ rw (digit_at i l, e) }

pub judges_check : {s : List ℕ} {i r : ℕ} {inside : Bool} {check : ℕ} → i ≡ 12 → inside ≡ check_character (get_or s (i + 1) 0)
    → check ≡ check_of (take 13 s) → r ≡ cond inside (cond (eqb (get_or s (i + 1) 0) check) 0 CHECK) CHARACTER → JudgesBody later_positions s i r
judges_check e f g is = record { is = is ∙ rw (f, g, e) }

-- the answer by the test of the first byte
by_first : ℕ → List ℕ → Bool → Answer Donation
by_first b c t = walk (cond t (content later_positions (b ∷ []) complete) (fatal CHARACTER)) c 1

-- an entry that begins as a donation number does
pub record Begun (s : List ℕ) : Type 0 where
  pub some : 0 < length s
  pub first : first_character (get_or s 0 0) ≡ true

-- the answer of each way that the code takes
pub answer_none : (s : List ℕ) → length s ≡ 0 → answer s ≡ refused SHORT 0
unfolding answer entry
answer_none [] e = refl
answer_none (b ∷ c) e = absurd (omega arith)

pub answer_other : (s : List ℕ) → 0 < length s → first_character (get_or s 0 0) ≡ false → answer s ≡ refused CHARACTER 0
unfolding answer entry by_first
answer_other [] l e = absurd (omega arith)
answer_other (b ∷ c) l e = ap (by_first b c) e

-- past the first character
answer_later : (b : ℕ) (c : List ℕ) → first_character b ≡ true → answer (b ∷ c) ≡ walk (content later_positions (b ∷ []) complete) c 1
unfolding answer entry by_first
answer_later b c e = ap (by_first b c) e

pub answer_short : {s : List ℕ} → Begun s → Early later_positions s → answer s ≡ refused SHORT (length s)
answer_short {s = []} h x = absurd (omega (arith, h.some))
answer_short {s = b ∷ c} h x = answer_later b c h.first ∙ short_walk later_positions b c complete 1 x ∙ ap (refused SHORT) (add-one (length c))

pub answer_unfit : {s : List ℕ} {n i : ℕ} → Begun s → Unfitting later_positions s n i → answer s ≡ refused n (i + 1)
answer_unfit {s = []} h x = absurd (omega (arith, h.some))
answer_unfit {s = b ∷ c} {n} {i} h x = answer_later b c h.first ∙ unfit_walk later_positions b c complete 1 n i x

-- fourteen bytes that fit
pub record Complete (s : List ℕ) : Type 0 where
  pub begun : Begun s
  pub scanned : Whole later_positions s

answer_whole : (b : ℕ) (c : List ℕ) → Complete (b ∷ c) → answer (b ∷ c) ≡ walk (complete (b ∷ take 13 c)) (drop 13 c) 14
answer_whole b c h = answer_later b c h.begun.first ∙ whole_walk later_positions b c complete 1 h.scanned

pub answer_trailing : {s : List ℕ} → Complete s → 14 < length s → answer s ≡ refused TRAILING 14
answer_trailing {s = []} h l = absurd (omega arith)
answer_trailing {s = b ∷ c} h l = answer_whole b c h ∙ ap (λ (r : List ℕ). walk (complete (b ∷ take 13 c)) r 14) (drop-cons c 13 0 (omega arith))

pub answer_complete : {s : List ℕ} → Complete s → length s ≤ 14 → answer s ≡ accepted (donation_of s) 14
answer_complete {s = []} h l = absurd (omega (arith, h.begun.some))
answer_complete {s = b ∷ c} h l =
    let is : 13 ≡ length c = omega (arith, h.scanned.long) in
    let none : drop 13 c ≡ [] = ap (λ (n : ℕ). drop n c) is ∙ drop-length c in
    answer_whole b c h ∙ ap₂ (λ (t r : List ℕ). walk (complete (b ∷ t)) r 14) (take_all 13 c (omega arith)) none

-- the twelve characters past the first are digits
pub complete_digits : {s : List ℕ} → Complete s → DigitsAt s 1 12
complete_digits {s} h = record { inside = omega (arith, h.scanned.long); all = at }
  where
    at : (j : ℕ) → j < 12 → digit (get_or s (1 + j) 0) ≡ true
    at j l =
        let here : (get_or later_positions j nowhere).set (get_or (take 13 (drop 1 s)) j 0) ≡ true = fits_inside nowhere h.scanned.fits j (omega arith) in
        rw (digit_at j l, get_or-take 13 (drop 1 s) j 0 (omega arith), get_or-drop 1 s j 0) at here
