-- A content and then another, which looks at its own bytes alone: laws once for whatever two contents are put together.
use Rattle.std.specs.Prelude.{ℕ, zero, suc, ◌+◌, ◌-◌, ◌≤◌, ◌<◌, ◌≡◌, refl, List, [], ◌∷◌, ◌++◌, map, length, get_or, take, drop}
use Rattle.std.proofs.Common.{sym, ap, ap₂, ◌∙◌, append-nil, arith, take-add, take_at, drop_at, get_or-append-add, get_or-drop}
use Rattle.std.proofs.Math.ListN.{get_or-append}
use Rattle.std.proofs.lemmas.List.{take-append-le}
use Rattle.demand.specs.Each.{Each}
use Rattle.demand.specs.Laws.Each.{each_append, each_map}
use Rattle.demand.specs.Laws.Cells.{tail_part}
use Rattle.demand.specs.Laws.Content.{Position, Fits, Opens, fits_length, fits_join, fits_split, shift, shifted, shift_in, shift_out, shift_opens}
use Rattle.demand.specs.Laws.Content.{nowhere, verdict, shift_verdict, Judges, drop_take}

abbrev pub joined : List Position → List Position → List Position
joined πs ρs = πs ++ map (shift (length πs)) ρs

-- a content's two halves, each fitting by itself
pub record Halves (πs ρs : List Position) (c : List ℕ) : Type 0 where
  pub left : List ℕ
  pub right : List ℕ
  pub whole : c ≡ left ++ right
  pub left_fits : Fits πs [] left
  pub right_fits : Fits ρs [] right

module _ (πs ρs : List Position) where
  pub joined_opens : Each Opens πs → Each Opens ρs → Each Opens (joined πs ρs)
  joined_opens os us =
      each_append Opens πs (map (shift (length πs)) ρs) os (each_map Opens (shift (length πs)) (shift_opens (length πs)) ρs us)

  pub joined_out : {a b : List ℕ} → Fits πs [] a → Fits ρs [] b → Fits (joined πs ρs) [] (a ++ b)
  joined_out {a} {b} fs gs =
      let back : Fits (shifted a ρs) (a ++ []) b = shift_out a gs in
      fits_join fs (rw (fits_length fs, append-nil a) at back)

  pub joined_in : {c : List ℕ} → Fits (joined πs ρs) [] c → Halves πs ρs c
  joined_in fs =
      let parts = fits_split πs fs in
      let l = parts.left in
      let back : Fits (shifted l ρs) (l ++ []) parts.right = rw (fits_length parts.left_fits, append-nil l) parts.right_fits in
      record {
        left = l;
        right = parts.right;
        whole = parts.whole;
        left_fits = parts.left_fits;
        right_fits = shift_in l ρs {p = []} back;
      }

-- the first positions of a list that is mapped
pub take_map : (f : Position → Position) (j : ℕ) (ρs : List Position) → take j (map f ρs) ≡ map f (take j ρs)
take_map f zero ρs = refl
take_map f (suc j) [] = refl
take_map f (suc j) (ρ ∷ ρs) = ap (f ρ ∷◌) (take_map f j ρs)

-- what lies past the first n of n + j bytes
right_part : (n j : ℕ) (c l r : List ℕ) → length l ≡ n → take (n + j) c ≡ l ++ r → n ≤ length c → r ≡ take j (drop n c)
right_part n j c l r e w h = sym (drop_at l r n e) ∙ ap (drop n) (sym w) ∙ drop_take n j c h

-- before the second content a byte is judged as the first judges it, from there on as the second does
module _ (πs ρs : List Position) (c : List ℕ) (i : ℕ) where
  pub front_fits : i ≤ length πs → Fits (take i (joined πs ρs)) [] (take i c) → Fits (take i πs) [] (take i c)
  front_fits l fs = rw (take-append-le i πs (map (shift (length πs)) ρs) l) at fs

  pub judges_front : {r : ℕ} → i < length πs → Judges πs c i r → Judges (joined πs ρs) c i r
  judges_front l j = record { is = rw (get_or-append πs (map (shift (length πs)) ρs) nowhere i l) j.is }

  pub back_fits : length πs ≤ i → length πs ≤ length c → Fits (take i (joined πs ρs)) [] (take i c)
      → Fits (take (i - length πs) ρs) [] (take (i - length πs) (take (length c - length πs) (drop (length πs) c)))
  back_fits l h fs =
      let n = length πs in
      let j = i - n in
      let is : i ≡ n + j = omega arith in
      let front : take (n + j) (joined πs ρs) ≡ joined πs (take j ρs) =
      take-add n j (joined πs ρs)
      ∙ ap₂ ◌++◌ (take_at πs (map (shift n) ρs) n refl) (ap (take j) (drop_at πs (map (shift n) ρs) n refl) ∙ take_map (shift n) j ρs)
      in
      let fits : Fits (joined πs (take j ρs)) [] (take (n + j) c) = rw (is, front) at fs in
      let halves = joined_in πs (take j ρs) fits in
      let right = right_part n j c halves.left halves.right (fits_length {c = halves.left} halves.left_fits) halves.whole h in
      rw (tail_part n c, ← right) halves.right_fits

  pub judges_back : {r : ℕ} → length πs ≤ i → length πs ≤ length c
      → Judges ρs (take (length c - length πs) (drop (length πs) c)) (i - length πs) r → Judges (joined πs ρs) c i r
  judges_back l h j =
      let n = length πs in
      let is : n + (i - n) ≡ i = omega arith in
      let at : get_or (joined πs ρs) i nowhere ≡ get_or (map (shift n) ρs) (i - n) nowhere =
      ap (λ (k : ℕ). get_or (joined πs ρs) k nowhere) (sym is) ∙ get_or-append-add πs (map (shift n) ρs) (i - n) nowhere
      in
      let byte : get_or (drop n c) (i - n) 0 ≡ get_or c i 0 = get_or-drop n c (i - n) 0 ∙ ap (λ (k : ℕ). get_or c k 0) is in
      record {
        is = rw (tail_part n c) at j.is
            ∙ ap (verdict (get_or ρs (i - n) nowhere) (take (i - n) (drop n c))) byte
            ∙ sym (shift_verdict n ρs c (i - n) (get_or c i 0) h)
            ∙ sym (ap₂ (λ (π : Position) (k : ℕ). verdict π (take k c) (get_or c i 0)) at (sym is));
      }
