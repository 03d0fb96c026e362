-- What is known of a content that fits, by the kind that code has told.
use Rattle.std.specs.Prelude.{ℕ, suc, ◌+◌, ◌≤◌, ◌≡◌, List, length, take, drop}
use Rattle.std.proofs.Common.{arith, length-drop, take_all}
use Rattle.demand.specs.Laws.Content.{Fits}
use Rattle.text.specs.Decimal.{DigitsAt}
use Rattle.text.specs.Laws.Decimal.{DigitSets, digits_part}
use Rattle.label.specs.declared.Kind.{Kind}
use Rattle.structure.specs.Laws.Kinds.{positions}
use Rattle.content_scan.specs.Laws.Scan.{Whole}
use Rattle.content_scan.specs.Laws.Digits.{whole_digits, antigens_front}

-- the identifier's second byte and a whole content of the kind, which fits
pub record Fitting (k : Kind) (s : List ℕ) : Type 0 where
  pub long : length s ≡ suc (length (positions k))
  pub fits : Fits (positions k) (take 1 s) (drop 1 s)

fitting_whole : {k : Kind} {s : List ℕ} → Fitting k s → Whole (positions k) s
fitting_whole {k} {s} f =
    record { long = omega (arith, f.long); fits = rw (take_all (length (positions k)) (drop 1 s) (simp length-drop (omega (arith, f.long)))) f.fits }

module _ {k y : Kind} {s : List ℕ} (told : k ≡ y) (f : Fitting k s) where
  pub long_told : length s ≡ suc (length (positions y))
  long_told = rw told at f.long

  pub digits_told : (i n : ℕ) → DigitSets (positions y) → 1 ≤ i → i + n ≤ 1 + length (positions y) → DigitsAt s i n
  digits_told i n sets lo hi = let w : Whole (positions y) s = rw told at (fitting_whole f) in digits_part (whole_digits sets w) i n lo hi

-- the eighteen digits before a check
pub front_told : {k : Kind} {s : List ℕ} → k ≡ Kind.Antigens2001 → Fitting k s → DigitsAt s 1 18
front_told {k} {s} told f = let w : Whole (positions Kind.Antigens2001) s = rw told at (fitting_whole f) in antigens_front w
