-- A content tested as a whole: if every byte is in its position's set and goes on by its rule, the content fits.
use Rattle.std.specs.Prelude.{ℕ, suc, ◌≤◌, ◌<◌, ◌≡◌, refl, Bool, true, ◌&&◌, List, [], ◌∷◌, ◌++◌, map, length, get_or, take, drop, replicate}
use Rattle.std.proofs.Common.{sym, ap, ◌∙◌, arith, length-drop, length-take-le, take_at, drop_at, take-add, take-suc, drop-drop, get_or-take, get_or-drop}
use Rattle.std.proofs.lemmas.List.{length-replicate}
use Rattle.demand.specs.Laws.Cells.{cells, front_cells, part_cells}
use Rattle.demand.specs.Laws.Content.{Position, Fits, none, more, free, free_fit, shift, shift_out, fits_join, fits_split, fits_length}
use Rattle.demand.specs.Numbers.{VALUE}
use Rattle.text.specs.Bytes.{byte}
use Rattle.text.specs.Decimal.{number}
use Rattle.text.specs.Laws.Decimal.{digits_part, digits_at_fit}
use Rattle.text.specs.Laws.Bytes.{both}
use Rattle.calendar.specs.Calendar.{LawfulDate, LawfulTime, date_of, time_of}
use Rattle.calendar.specs.Laws.Date.{date_positions, date_front, date_fits}
use Rattle.calendar.specs.Laws.Time.{time_front}
use Rattle.calendar.specs.Laws.Stamp.{stamp_positions, stamp_fits}
use Rattle.months.specs.Months.{LawfulDay}
use Rattle.flexible.specs.Flexible.{LawfulFlexible}
use Rattle.flexible.specs.Laws.DateType.{type_of, type_front}
use Rattle.flexible.specs.Laws.Day.{day_of, day_front}
use Rattle.flexible.specs.Laws.Flexible.{flexible_positions, flexible_fits}
use Rattle.structure.specs.declared.Shape.{Shape}
use Rattle.check37.specs.Check.{check_worth, check_of}
use Rattle.structure.specs.Laws.Checked.{check_fit, antigen_positions}
use Rattle.structure.specs.Laws.Donation.{decimal}
use Rattle.structure.specs.Laws.Flags.{tens_goes, ones_goes, flags_fit}
use Rattle.structure.specs.Laws.Head.{head_positions, aa_of, count_is, head_fits}
use Rattle.structure.specs.Laws.Kinds.{shape_positions}
use Rattle.content_scan.specs.Laws.Scan.{Whole}
use Rattle.content_scan.specs.Laws.Digits.{decimal_sets, whole_digits}

-- the tests of the positions, after the test t and the bytes p, from the byte at i of s on
abbrev pub tested_on : Bool → List Position → List ℕ → List ℕ → ℕ → Bool
tested_on t [] p s i = t
tested_on t (π ∷ πs) p s i = tested_on (t && (π.rule p (get_or s i 0) && π.set (get_or s i 0))) πs (p ++ get_or s i 0 ∷ []) s (suc i)

-- s begins with the identifier's second byte
abbrev pub tested : List Position → List ℕ → Bool
tested πs s = tested_on true πs (cells s 0 1) s 1

tested_fits : (t : Bool) (πs : List Position) (p s : List ℕ) (i : ℕ) → tested_on t πs p s i ≡ true
    → (t ≡ true) × Fits πs p (cells s i (length πs))
tested_fits t [] p s i e = (e, none)
tested_fits t (π ∷ πs) p s i e =
    let (f, fs) = tested_fits _ πs (p ++ get_or s i 0 ∷ []) s (suc i) e in
    let (before, here) = both _ _ f in
    let (lawful, inside) = both _ _ here in
    (before, more record { inside = inside; lawful = lawful } fs)

-- the bytes of s that fit, by their cells
cells_whole : {πs : List Position} {s : List ℕ} → length πs < length s → Fits πs (cells s 0 1) (cells s 1 (length πs)) → Whole πs s
cells_whole {πs} {s} l fs = record { long = l; fits = rw (front_cells s 1 (omega arith), part_cells s 1 (length πs) (omega arith)) fs }

pub tested_whole : {πs : List Position} {s : List ℕ} {t : Bool} → length πs < length s → t ≡ tested πs s → t ≡ true → Whole πs s
tested_whole {πs} {s} l is e = cells_whole l (tested_fits true πs (cells s 0 1) s 1 (sym is ∙ e)).1

-- fourteen digits are a number's twelve and two more
number_last : (s c : List ℕ) → c ≡ cells s 1 14 → Fits (decimal 14) (cells s 0 1) c
    → Fits (decimal 12) (cells s 0 1) (cells s 1 12) × Fits (decimal 2) (cells s 0 13) (cells s 13 2)
number_last s c is fs =
    let parts = fits_split (decimal 12) {ρs = decimal 2} fs in
    let whole : parts.left ++ parts.right ≡ cells s 1 14 = sym parts.whole ∙ is in
    let twelve : length parts.left ≡ 12 = fits_length parts.left_fits in
    let left : parts.left ≡ cells s 1 12 = sym (take_at parts.left parts.right 12 twelve) ∙ ap (take 12) whole in
    let right : parts.right ≡ cells s 13 2 = sym (drop_at parts.left parts.right 12 twelve) ∙ ap (drop 12) whole in
    (rw left at parts.left_fits, rw (left, right) at parts.right_fits)

-- digits whose last two are lawful flags
module _ {s : List ℕ} (w : Whole (decimal 14) s) where
  pub flags_whole : {own : ℕ} → own ≡ check_worth (take 13 s) → tens_goes own (get_or s 13 0) ≡ true
      → ones_goes own (get_or s 13 0) (get_or s 14 0) ≡ true → Whole (shape_positions Shape.Donation) s
  flags_whole {own} is tens ones =
      let content : take 14 (drop 1 s) ≡ cells s 1 14 = part_cells s 1 14 (omega (arith, w.long)) in
      let (number, last) = number_last s (take 14 (drop 1 s)) content (rw (← front_cells s 1 (omega (arith, w.long))) w.fits) in
      let worth : check_worth (cells s 0 13) ≡ own = ap check_worth (sym (front_cells s 13 (omega (arith, w.long)))) ∙ sym is in
      cells_whole w.long (fits_join number (flags_fit {p = cells s 0 13} refl last (rw worth tens) (rw worth ones)))

-- a fitting content behind the identifier's second byte, at which its positions do not look
shifted_whole : (πs : List Position) {s : List ℕ} → length (map (shift 1) πs) < length s → Fits πs [] (take (length (map (shift 1) πs)) (drop 1 s))
    → Whole (map (shift 1) πs) s
shifted_whole πs {s} l fs = record { long = l; fits = rw (front_cells s 1 (omega arith)) (shift_out (cells s 0 1) fs) }

-- digits of an 023, digits that stand for a lawful date, for a lawful date and time, and for the values of an 031, and digits with their check
module _ {s : List ℕ} where
  pub antigens_whole : {b : ℕ} → Whole (decimal 18) s → 19 < length s → b ≡ check_of (take 18 (drop 1 s)) → get_or s 19 0 ≡ b
      → Whole (shape_positions Shape.Antigens2001) s
  antigens_whole {b} w l own here =
      let all = whole_digits (decimal_sets 18) w in
      let eighteen = take 18 (drop 1 s) in
      let last : get_or (drop 1 s) 18 0 ≡ check_of eighteen = get_or-drop 1 s 18 0 ∙ here ∙ own in
      let cut : take 19 (drop 1 s) ≡ eighteen ++ check_of eighteen ∷ [] =
      take-suc (drop 1 s) 18 0 (simp length-drop (omega arith)) ∙ ap (λ (n : ℕ). eighteen ++ n ∷ []) last in
      shifted_whole antigen_positions l
      (rw cut (fits_join (digits_at_fit (digits_part all 1 18 (omega arith) (omega arith)) VALUE []) (more (check_fit eighteen) none)))

  pub head_whole : {n : ℕ} → Whole (decimal 5) s → n ≡ number (take 2 (drop 1 s)) → 1 ≤ n → n ≤ 16 → Whole (shape_positions Shape.Head) s
  head_whole w is lo hi =
      let front : aa_of (take 5 (drop 1 s)) ≡ number (take 2 (drop 1 s)) = count_is (drop 1 s) in
      shifted_whole head_positions w.long (head_fits w.fits (omega arith) (omega arith))

  pub date_whole : Whole (decimal 6) s → LawfulDate (date_of (drop 1 s)) → Whole (shape_positions Shape.Date) s
  date_whole w day =
      let front : date_of (take 6 (drop 1 s)) ≡ date_of (drop 1 s) = date_front (drop 1 s) (simp length-drop (omega (arith, w.long))) in
      shifted_whole date_positions w.long (date_fits w.fits (rw front day))

  pub stamp_whole : Whole (decimal 10) s → LawfulDate (date_of (drop 1 s)) → LawfulTime (time_of (drop 7 s)) → Whole (shape_positions Shape.Stamp) s
  stamp_whole w day hour =
      let ten = whole_digits (decimal_sets 10) w in
      let cut : take 10 (drop 1 s) ≡ take 6 (drop 1 s) ++ take 4 (drop 7 s) =
      take-add 6 4 (drop 1 s) ∙ ap (λ (l : List ℕ). take 6 (drop 1 s) ++ take 4 l) (drop-drop 6 1 s) in
      let first = date_front (drop 1 s) (simp length-drop (omega (arith, w.long))) in
      let last = time_front (drop 7 s) (simp length-drop (omega (arith, w.long))) in
      shifted_whole stamp_positions w.long
      (rw cut (stamp_fits (digits_at_fit (digits_part ten 1 6 (omega arith) (omega arith)) VALUE [])
      (digits_at_fit (digits_part ten 7 4 (omega arith) (omega arith)) VALUE []) (rw first day) (rw last hour)))

  pub flexible_whole : Whole (decimal 16) s → get_or s 2 0 ≡ byte "0" → LawfulFlexible (type_of (drop 1 s)) → LawfulDay (day_of (drop 5 s))
      → LawfulTime (time_of (drop 13 s)) → Whole (shape_positions Shape.Flexible) s
  flexible_whole w zeroth type day hour =
      let all = whole_digits (decimal_sets 16) w in
      let cut : take 16 (drop 1 s) ≡ take 4 (drop 1 s) ++ (take 8 (drop 5 s) ++ take 4 (drop 13 s)) =
      take-add 4 12 (drop 1 s) ∙ ap (λ (l : List ℕ). take 4 (drop 1 s) ++ take 12 l) (drop-drop 4 1 s)
      ∙ ap (take 4 (drop 1 s) ++◌) (take-add 8 4 (drop 5 s) ∙ ap (λ (l : List ℕ). take 8 (drop 5 s) ++ take 4 l) (drop-drop 8 5 s)) in
      let second : get_or (take 4 (drop 1 s)) 1 0 ≡ byte "0" = get_or-take 4 (drop 1 s) 1 0 (omega arith) ∙ get_or-drop 1 s 1 0 ∙ zeroth in
      let first = type_front (drop 1 s) (simp length-drop (omega (arith, w.long))) in
      let middle = day_front (drop 5 s) (simp length-drop (omega (arith, w.long))) in
      let last = time_front (drop 13 s) (simp length-drop (omega (arith, w.long))) in
      shifted_whole flexible_positions w.long
      (rw cut (flexible_fits (digits_at_fit (digits_part all 1 4 (omega arith) (omega arith)) VALUE [])
      (digits_at_fit (digits_part all 5 8 (omega arith) (omega arith)) VALUE []) (digits_at_fit (digits_part all 13 4 (omega arith) (omega arith)) VALUE [])
      second (rw first type) (rw middle day) (rw last hour)))

-- bytes of one set, whose whole goes on
set_fit : (set : ℕ → Bool) (r : ℕ) (c p : List ℕ) → ((i : ℕ) → i < length c → set (get_or c i 0) ≡ true) → Fits (replicate (length c) (free set r)) p c
set_fit set r [] p h = none
set_fit set r (b ∷ c) p h = more (free_fit (h 0 (omega arith))) (set_fit set r c (p ++ b ∷ []) (λ i l. h (suc i) (omega (arith, l))))

-- enough bytes are a whole content of one set's positions, if each passes the set's test
pub set_whole : (set : ℕ → Bool) (n : ℕ) {m : ℕ} {s : List ℕ} → m ≡ n → n < length s
    → ((i : ℕ) → i < length (take m (drop 1 s)) → true ≡ set (get_or (take m (drop 1 s)) i 0)) → Whole (replicate n (free set VALUE)) s
set_whole set n {m} {s} is l h =
    let c = take n (drop 1 s) in
    let long : length c ≡ n = length-take-le n (drop 1 s) (simp length-drop (omega (arith, l))) in
    let fits = set_fit set VALUE c (take 1 s) (λ i k. sym ((rw is at h) i k)) in
    record { long = rw length-replicate l; fits = rw length-replicate (rw long at fits) }
