-- The contents that are digits alone: what is whole has digits to its end.
use Rattle.std.specs.Prelude.{ℕ, ◌+◌, ◌-◌, ◌≤◌, ◌<◌, ◌≡◌, true, List, [], ◌∷◌, map, length, get_or, take, drop}
use Rattle.std.proofs.Common.{sym, ap, ◌∙◌, subst, ⊎_elim, zero-add, arith, below_more, length-drop, length-take-le, take-take, take_at, get_or-take}
use Rattle.std.proofs.Common.{get_or-drop}
use Rattle.std.proofs.lemmas.List.{length-replicate}
use Rattle.std.proofs.Math.Seq.{take-length}
use Rattle.demand.specs.Numbers.{VALUE}
use Rattle.demand.specs.Laws.Each.{each_replicate, each_append, each_map}
use Rattle.demand.specs.Laws.Content.{Position, shift, fits_split, fits_length}
use Rattle.demand.specs.Laws.Joined.{joined}
use Rattle.text.specs.Bytes.{digit}
use Rattle.text.specs.Decimal.{DigitsAt}
use Rattle.text.specs.Laws.Decimal.{DigitSet, DigitSets, digit_set, digit_position, fitting_digits, digits_at_fit}
use Rattle.text.specs.Laws.Choice.{by_less}
use Rattle.calendar.specs.Laws.Date.{date_positions, date_digits}
use Rattle.calendar.specs.Laws.Time.{time_positions, time_digits}
use Rattle.calendar.specs.Laws.Stamp.{stamp_positions}
use Rattle.flexible.specs.Laws.DateType.{type_positions, type_digits}
use Rattle.flexible.specs.Laws.Day.{day_positions, day_digits}
use Rattle.flexible.specs.Laws.Flexible.{moment_positions, flexible_positions}
use Rattle.structure.specs.declared.Shape.{Shape}
use Rattle.structure.specs.Laws.Donation.{decimal}
use Rattle.structure.specs.Laws.Checked.{check_position}
use Rattle.structure.specs.Laws.Flags.{flag_positions}
use Rattle.structure.specs.Laws.Head.{head_positions, head_digits}
use Rattle.structure.specs.Laws.Kinds.{shape_positions}
use Rattle.content_scan.specs.Laws.Scan.{Whole}

pub decimal_sets : (n : ℕ) → DigitSets (decimal n)
decimal_sets n = each_replicate DigitSet n (digit_position VALUE) digit_set

shifted_sets : (n : ℕ) (πs : List Position) → DigitSets πs → DigitSets (map (shift n) πs)
shifted_sets n πs h = each_map DigitSet (shift n) (λ π g. record { set = g.set }) πs h

joined_sets : (πs ρs : List Position) → DigitSets πs → DigitSets ρs → DigitSets (joined πs ρs)
joined_sets πs ρs h g = each_append DigitSet πs (map (shift (length πs)) ρs) h (shifted_sets (length πs) ρs g)

pub donation_sets : DigitSets (shape_positions Shape.Donation)
donation_sets = each_append DigitSet (decimal 12) flag_positions (decimal_sets 12) (digit_set, (digit_set, tt))

pub head_sets : DigitSets (shape_positions Shape.Head)
head_sets = shifted_sets 1 head_positions head_digits

pub date_sets : DigitSets (shape_positions Shape.Date)
date_sets = shifted_sets 1 date_positions date_digits

pub stamp_sets : DigitSets (shape_positions Shape.Stamp)
stamp_sets =
    shifted_sets 1 stamp_positions
    (joined_sets date_positions time_positions date_digits time_digits)

pub flexible_sets : DigitSets (shape_positions Shape.Flexible)
flexible_sets =
    shifted_sets 1 flexible_positions
    (joined_sets type_positions moment_positions type_digits (joined_sets day_positions time_positions day_digits time_digits))

-- a whole content of digits has digits to its end
pub whole_digits : {πs : List Position} {s : List ℕ} → DigitSets πs → Whole πs s → DigitsAt s 1 (length πs)
whole_digits {πs} {s} sets w = record { inside = omega (arith, w.long); all = at }
  where
    content : DigitsAt (drop 1 s) 0 (length πs)
    content = fitting_digits πs sets {p = take 1 s} (omega arith) (simp length-drop (omega (arith, w.long))) (rw (take-length πs) w.fits)

    at : (j : ℕ) → j < length πs → digit (get_or s (1 + j) 0) ≡ true
    at j h = rw (← get_or-drop 1 s j 0) (simp zero-add at (content.all j h))

-- one digit more
pub digits_next : {s : List ℕ} {i n : ℕ} → DigitsAt s i n → i + n < length s → digit (get_or s (i + n) 0) ≡ true → DigitsAt s i (n + 1)
digits_next {s} {i} {n} d l here =
    record { inside = omega arith; all = below_more (λ (k : ℕ). digit (get_or s (i + k) 0) ≡ true) n d.all here }

-- digits of a row of some bytes, if each passes a digit's test
pub row_digits : {s : List ℕ} (i n : ℕ) → i + n ≤ length s
    → ((k : ℕ) → k < length (take n (drop i s)) → true ≡ digit (get_or (take n (drop i s)) k 0)) → DigitsAt s i n
row_digits {s} i n l h = record { inside = l; all = at }
  where
    long : length (take n (drop i s)) ≡ n
    long = length-take-le n (drop i s) (simp length-drop (omega arith))

    at : (k : ℕ) → k < n → digit (get_or s (i + k) 0) ≡ true
    at k l = let here = sym (h k (omega (arith, long))) in rw (get_or-take n (drop i s) k 0 l, get_or-drop i s k 0) at here

pub digits_whole : {s : List ℕ} (n : ℕ) → n < length s → DigitsAt s 1 n → Whole (decimal n) s
digits_whole {s} n l d = record { long = rw length-replicate l; fits = rw length-replicate (digits_at_fit d VALUE (take 1 s)) }

-- fourteen digits in two rows of eight
pub two_rows : {s : List ℕ} → 14 < length s → DigitsAt s 1 8 → DigitsAt s 7 8 → Whole (decimal 14) s
two_rows {s} long first last = digits_whole 14 long record { inside = omega arith; all = at }
  where
    at : (k : ℕ) → k < 14 → digit (get_or s (1 + k) 0) ≡ true
    at k l =
        ⊎_elim (λ h. first.all k h.0)
        (λ h. let is : 7 + (k - 6) ≡ 1 + k = omega arith in subst (λ (j : ℕ). digit (get_or s j 0) ≡ true) is (last.all (k - 6) (omega arith)))
        (by_less {A = ℕ} 0 0 k 8)

-- the eighteen digits that stand before the check of the antigen structure of 2001
pub antigens_front : {s : List ℕ} → Whole (shape_positions Shape.Antigens2001) s → DigitsAt s 1 18
antigens_front {s} w =
    let front = map (shift 1) (decimal 18) in
    let parts = fits_split front {ρs = map (shift 1) (check_position ∷ [])} w.fits in
    let left : parts.left ≡ take 18 (drop 1 s) =
    sym (take_at parts.left parts.right 18 (fits_length parts.left_fits))
    ∙ ap (take 18) (sym parts.whole) ∙ take-take 18 19 (drop 1 s) (omega arith)
    in
    whole_digits (shifted_sets 1 (decimal 18) (decimal_sets 18)) record { long = omega (arith, w.long); fits = rw left at parts.left_fits }
