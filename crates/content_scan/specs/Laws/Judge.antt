-- The number of a content's byte by the shape of its kind, as the scanner works it out.
use Rattle.std.specs.Prelude.{ℕ, zero, suc, ◌+◌, ◌-◌, ◌≤◌, ◌<◌, ◌≡◌, refl, Bool, true, false, cond, List, [], ◌∷◌, ◌++◌, map, eqb, length, get_or, take, drop}
use Rattle.std.specs.Prelude.{replicate}
use Rattle.std.proofs.Common.{sym, ap, ◌∙◌, not-suc-le-zero, arith, length-drop, get_or-drop, get_or-take, take-take}
use Rattle.std.proofs.lemmas.List.{get_or-replicate, length-map}
use Rattle.std.proofs.Math.ListN.{get_or-append}
use Rattle.demand.specs.Numbers.{CHARACTER, VALUE, CHECK}
use Rattle.demand.specs.Laws.Cells.{front_cells, tail_part}
use Rattle.demand.specs.Laws.Each.{each_at}
use Rattle.demand.specs.Laws.Content.{Position, Fits, Judges, free, nowhere, verdict, shift, shift_in, shift_verdict}
use Rattle.demand.specs.Laws.Joined.{take_map}
use Rattle.text.specs.Bytes.{digit, upper, upper_digit, lower_digit, upper_lower_digit, check_character}
use Rattle.text.specs.Laws.Decimal.{DigitSet, within}
use Rattle.check37.specs.Check.{check_worth, check_of}
use Rattle.structure.specs.declared.Shape.{Shape}
use Rattle.structure.specs.Laws.Checked.{check_position, antigen_positions}
use Rattle.structure.specs.Laws.Flags.{flag_positions, tens_goes, ones_goes}
use Rattle.structure.specs.Laws.Head.{head_positions}
use Rattle.structure.specs.Laws.Kinds.{groups_positions, shape_positions}
use Rattle.structure.specs.Laws.Product.{product_positions, d_goes, s_goes}
use Rattle.content_scan.specs.Laws.Scan.{JudgesBody, Judging}
use Rattle.content_scan.specs.Laws.Digits.{donation_sets}

-- a content whose positions look at itself alone: the part of s that code lends
module _ (x : Shape) (πs : List Position) (e : shape_positions x ≡ map (shift 1) πs) {s : List ℕ} {i : ℕ} (h : Judging (shape_positions x) s i) where
  pub content_judging : (i < length (take (length s - 1) (drop 1 s))) × (i < length πs) × Fits (take i πs) [] (take i (take (length s - 1) (drop 1 s)))
  content_judging = (
    rw (tail_part 1 s) (simp length-drop (omega (arith, h.inside))),
    rw (e, length-map πs (shift 1)) at h.within,
    rw (tail_part 1 s) (shift_in (get_or s 0 0 ∷ []) (take i πs) {p = []}
        (rw (e, take_map (shift 1) i πs, front_cells s 1 (omega (arith, h.inside))) at h.fits)),
  )

  pub judges_content : {r : ℕ} → Judges πs (take (length s - 1) (drop 1 s)) i r → JudgesBody (shape_positions x) s i r
  judges_content j =
      let one : i + 1 ≡ 1 + i = omega arith in
      let own = rw (tail_part 1 s, get_or-drop 1 s i 0) at j.is in
      record { is = rw (e, one) (own ∙ sym (shift_verdict 1 πs s i (get_or s (1 + i) 0) (omega (arith, h.inside)))) }

ggr : (i : ℕ) → i < 3 → get_or groups_positions i nowhere ≡ free upper_lower_digit VALUE
ggr zero h = refl
ggr (suc zero) h = refl
ggr (suc (suc zero)) h = refl
ggr (suc (suc (suc i))) h = absurd (omega arith)

-- the number of the byte at each position of a blood group label
module _ (i b : ℕ) (p : List ℕ) where
  pub at_ggr : i < 3 → verdict (get_or groups_positions i nowhere) p b ≡ cond (upper_lower_digit b) (cond true 0 VALUE) CHARACTER
  at_ggr h = rw (ggr i h)

  pub at_e : i ≡ 3 → verdict (get_or groups_positions i nowhere) p b ≡ cond (upper_lower_digit b) (cond (eqb b 48) 0 VALUE) CHARACTER
  at_e h = rw h

-- the number of the byte at each position of the antigen structure of 2001
module _ (c : List ℕ) (i : ℕ) where
  abbrev antigen_verdict : ℕ
  antigen_verdict = verdict (get_or antigen_positions i nowhere) (take i c) (get_or c i 0)

  pub at_digit : i < 18 → antigen_verdict ≡ cond (digit (get_or c i 0)) (cond true 0 VALUE) CHARACTER
  at_digit l =
      let π = free digit VALUE in
      let here : get_or (replicate 18 π ++ check_position ∷ []) i nowhere ≡ π = get_or-append (replicate 18 π) (check_position ∷ []) nowhere i l
      ∙ get_or-replicate 18 i π nowhere l in
      ap (λ (ρ : Position). verdict ρ (take i c) (get_or c i 0)) here

  pub at_check : i ≡ 18
      → antigen_verdict ≡ cond (check_character (get_or c i 0)) (cond (eqb (get_or c i 0) (check_of (take 18 c))) 0 CHECK) CHARACTER
  at_check e = rw e

oooo : (i : ℕ) → 0 < i → i < 5 → get_or product_positions i nowhere ≡ free upper_digit VALUE
oooo zero lo hi = absurd (not-suc-le-zero lo)
oooo (suc zero) lo hi = refl
oooo (suc (suc zero)) lo hi = refl
oooo (suc (suc (suc zero))) lo hi = refl
oooo (suc (suc (suc (suc zero)))) lo hi = refl
oooo (suc (suc (suc (suc (suc i))))) lo hi = absurd (omega arith)

-- the number of the byte at each position of a product code
module _ (c : List ℕ) (i : ℕ) where
  abbrev pub product_verdict : ℕ
  product_verdict = verdict (get_or product_positions i nowhere) (take i c) (get_or c i 0)

  pub at_letter : i ≡ 0 → product_verdict ≡ cond (upper (get_or c i 0)) (cond true 0 VALUE) CHARACTER
  at_letter e = rw e

  pub at_oooo : 0 < i → i < 5 → product_verdict ≡ cond (upper_digit (get_or c i 0)) (cond true 0 VALUE) CHARACTER
  at_oooo lo hi = rw (oooo i lo hi)

  pub at_t : i ≡ 5 → product_verdict ≡ cond (upper_lower_digit (get_or c i 0)) (cond true 0 VALUE) CHARACTER
  at_t e = rw e

  pub at_d : i ≡ 6 → i ≤ length c → product_verdict ≡ cond (upper_digit (get_or c i 0)) (cond (d_goes (get_or c 0 0) (get_or c i 0)) 0 VALUE) CHARACTER
  at_d e h = rw (e, front_cells c 6 (omega arith))

  pub at_s : i ≡ 7 → i ≤ length c
      → product_verdict ≡ cond (lower_digit (get_or c i 0)) (cond (s_goes (get_or c 0 0) (get_or c 6 0) (get_or c i 0)) 0 VALUE) CHARACTER
  at_s e h = rw (e, front_cells c 7 (omega arith))

-- the rule of each position of a head, by what stands before it
module _ (c : List ℕ) (i b : ℕ) where
  abbrev pub head_goes : Bool
  head_goes = (get_or head_positions i nowhere).rule (take i c) b

  pub goes_else : i < 5 → (i ≡ 0 → ⊥) → (i ≡ 1 → ⊥) → head_goes ≡ true
  goes_else l f g = by i l f g
    where
      by : (i : ℕ) → i < 5 → (i ≡ 0 → ⊥) → (i ≡ 1 → ⊥) → (get_or head_positions i nowhere).rule (take i c) b ≡ true
      by zero l f g = absurd (f refl)
      by (suc zero) l f g = absurd (g refl)
      by (suc (suc zero)) l f g = refl
      by (suc (suc (suc zero))) l f g = refl
      by (suc (suc (suc (suc zero)))) l f g = refl
      by (suc (suc (suc (suc (suc i))))) l f g = absurd (omega arith)

-- the count's second digit by its first
module _ (a b : ℕ) where
  abbrev pub count_second : Bool
  count_second = within (cond (eqb a 48) 49 48) (cond (eqb a 49) 54 57) b

-- the number of a digit of the number, and of each flag
module _ (s : List ℕ) (i : ℕ) where
  abbrev donation_verdict : ℕ
  donation_verdict = verdict (get_or (shape_positions Shape.Donation) i nowhere) (take (i + 1) s) (get_or s (i + 1) 0)

  -- whether a digit there goes on
  abbrev pub DonationGoes : Bool → Type 0
  DonationGoes goes = donation_verdict ≡ cond (digit (get_or s (i + 1) 0)) (cond goes 0 CHECK) CHARACTER

  pub at_number : i < 12 → DonationGoes true
  at_number l =
      let π = free digit VALUE in
      let here : get_or (replicate 12 π ++ flag_positions) i nowhere ≡ π = get_or-append (replicate 12 π) flag_positions nowhere i l
      ∙ get_or-replicate 12 i π nowhere l in
      ap (λ (ρ : Position). verdict ρ (take (i + 1) s) (get_or s (i + 1) 0)) here

  pub at_tens : {own : ℕ} → i ≡ 12 → own ≡ check_worth (take 13 s) → DonationGoes (tens_goes own (get_or s 13 0))
  at_tens e o = rw (e, take-take 13 13 s (omega arith), o)

  pub at_ones : {own : ℕ} → i ≡ 13 → own ≡ check_worth (take 13 s) → DonationGoes (ones_goes own (get_or s 13 0) (get_or s 14 0))
  at_ones e o = rw (e, take-take 13 14 s (omega arith), get_or-take 14 s 13 0 (omega arith), o)

  -- the number of what is no digit
  pub at_other : i < 14 → digit (get_or s (i + 1) 0) ≡ false → CHARACTER ≡ donation_verdict
  at_other l f = rw ((each_at DigitSet nowhere (shape_positions Shape.Donation) donation_sets i l).set, f)
