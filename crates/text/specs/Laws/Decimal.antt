-- Decimal fields: one law over the number of digits, in and out.
use Rattle.std.specs.Prelude.{ℕ, zero, suc, ◌+◌, ◌-◌, ◌*◌, ◌/◌, ◌%◌, ◌^◌, ◌<◌, ◌≤◌, ◌≡◌, refl, Bool, true, false, ◌&&◌, cond, List, [], ◌∷◌, ◌++◌, leb, eqb}
use Rattle.std.specs.Prelude.{length, get_or, take, drop, replicate}
use Rattle.std.proofs.Common.{sym, ap, ap₂, ◌∙◌, subst, zero-add, mul_assoc, pow-suc, mul-le-mul_right, mod-lt, div-add-mod', div-lt_iff_lt-mul, add-one, arith}
use Rattle.std.proofs.Common.{pow-add, leb-true, leb-false, le-leb, eq-eqb, ne_eqb, length-append, length-drop, length-take, length-take-le, take-suc}
use Rattle.std.proofs.Common.{get_or-take, get_or-drop}
use Rattle.std.proofs.Math.Nat.{pow-succ', pow-le-pow_right, mul-add-div_right, div-eq_of_lt}
use Rattle.demand.specs.Each.{Each}
use Rattle.demand.specs.Numbers.{CHARACTER}
use Rattle.demand.specs.Laws.Each.{each_at}
use Rattle.demand.specs.Laws.Cells.{tail_part}
use Rattle.demand.specs.Laws.Content.{Position, Fit, Fits, none, more, free, nowhere, Judges, fits_inside}
use Rattle.text.specs.Bytes.{byte, digit}
use Rattle.text.specs.Decimal.{digits, number, DigitsAt}
use Rattle.text.specs.Laws.Bytes.{both, in_range, range_in}

-- digits in two parts
pub number_append : (a b : List ℕ) → number (a ++ b) ≡ number a * 10 ^ length b + number b
number_append [] b = omega arith
number_append (d ∷ a) b =
    let h = number_append a b in
    rw (length-append a b, pow-add 10 (length a) (length b), h) (omega (arith, mul_assoc (d - 48) (10 ^ length a) (10 ^ length b)))

tens_pos : (n : ℕ) → 0 < 10 ^ n
tens_pos zero = omega arith
tens_pos (suc n) = let h = tens_pos n in rw pow-suc (omega arith)

-- digits do not see what lies above them
above : (n x v : ℕ) → digits n (x * 10 ^ n + v) ≡ digits n v
above zero x v = refl
above (suc n) x v =
    let e : x * 10 ^ suc n + v ≡ x * 10 * 10 ^ n + v = rw pow-suc (omega arith) in
    let q : (x * 10 * 10 ^ n + v) / 10 ^ n ≡ x * 10 + v / 10 ^ n = mul-add-div_right (tens_pos n) (x * 10) v in
    let h : (x * 10 * 10 ^ n + v) / 10 ^ n % 10 ≡ v / 10 ^ n % 10 = rw q (omega arith) in
    rw e (ap₂ ◌∷◌ (ap (byte "0" +◌) h) (above n (x * 10) v))

pub length_digits : (n v : ℕ) → length (digits n v) ≡ n
length_digits zero v = refl
length_digits (suc n) v = ap suc (length_digits n v)

-- a number with its highest digit apart
pub digits_on : (n d v : ℕ) → d < 10 → v < 10 ^ n → digits (suc n) (d * 10 ^ n + v) ≡ (byte "0" + d) ∷ digits n v
digits_on n d v h g =
    let q : (d * 10 ^ n + v) / 10 ^ n ≡ d = mul-add-div_right (tens_pos n) d v ∙ rw (div-eq_of_lt g) (omega arith) in
    ap₂ ◌∷◌ (rw q (omega arith)) (above n d v)

number_on : (n d r : ℕ) → d < 10 → r < 10 ^ n → number (digits n r) ≡ r → number (digits (suc n) (d * 10 ^ n + r)) ≡ d * 10 ^ n + r
number_on n d r h g e =
    let back : 48 + d - 48 ≡ d = omega arith in
    ap number (digits_on n d r h g) ∙ rw (length_digits n r, e, back)

pub number_digits : (n v : ℕ) → v < 10 ^ n → number (digits n v) ≡ v
number_digits zero v h = omega arith
number_digits (suc n) v h =
    let small : v / 10 ^ n < 10 = (div-lt_iff_lt-mul (tens_pos n)).1 (rw pow-succ' at h) in
    let low : v % 10 ^ n < 10 ^ n = mod-lt v (tens_pos n) in
    subst (λ (x : ℕ). number (digits (suc n) x) ≡ x) (div-add-mod' v (10 ^ n))
    (number_on n (v / 10 ^ n) (v % 10 ^ n) small low (number_digits n (v % 10 ^ n) low))

-- fitting digits are the writing of a number, and the writing of a number fits
abbrev pub digit_position : ℕ → Position
digit_position n = free digit n

written : (n r : ℕ) {p c : List ℕ} → Fits (replicate n (digit_position r)) p c → (v : ℕ) × (v < 10 ^ n) × (c ≡ digits n v)
written zero r none = (0, omega arith, refl)
written (suc n) r (more {b = b} f fs) =
    let (v, low, is) = written n r fs in
    let (lo, hi) = in_range "0" "9" b f.inside in
    let d : (d : ℕ) × (b ≡ 48 + d) × (d ≤ 9) = (b - 48, omega arith, omega arith) in
    let top : d.0 * 10 ^ n ≤ 9 * 10 ^ n = mul-le-mul_right (10 ^ n) d.2 in
    (d.0 * 10 ^ n + v, rw pow-succ' (omega arith), ap₂ ◌∷◌ d.1 is ∙ sym (digits_on n d.0 v (omega arith) low))

pub digits_in : (n r : ℕ) {p c : List ℕ} → Fits (replicate n (digit_position r)) p c → (number c < 10 ^ n) × (c ≡ digits n (number c))
digits_in n r {c = c} fs =
    let (v, low, is) = written n r fs in
    let e : number c ≡ v = ap number is ∙ number_digits n v low in
    (rw e low, rw e is)

pub digits_out : (n r : ℕ) (p : List ℕ) (v : ℕ) → Fits (replicate n (digit_position r)) p (digits n v)
digits_out zero r p v = none
digits_out (suc n) r p v =
    let b = 48 + v / 10 ^ n % 10 in
    let hi : b ≤ 57 = omega arith in
    more record { inside = range_in "0" "9" b (omega arith) hi; lawful = refl } (digits_out n r (p ++ b ∷ []) v)

pub digits_fit : (r : ℕ) (c p : List ℕ) → ((i : ℕ) → i < length c → digit (get_or c i 0) ≡ true)
    → Fits (replicate (length c) (digit_position r)) p c
digits_fit r [] p h = none
digits_fit r (b ∷ c) p h =
    more record { inside = h 0 (omega arith); lawful = refl } (digits_fit r c (p ++ b ∷ []) (λ i l. h (suc i) (omega arith)))

-- n digits of a list fit n positions of digits
pub digits_at_fit : {s : List ℕ} {i n : ℕ} → DigitsAt s i n → (r : ℕ) (p : List ℕ) → Fits (replicate n (digit_position r)) p (take n (drop i s))
digits_at_fit {s} {i} {n} d r p =
    let c = take n (drop i s) in
    let long : length c ≡ n = length-take-le n (drop i s) (simp length-drop (omega (arith, d.inside))) in
    let fits = digits_fit r c p (λ j l. rw (get_or-take n (drop i s) j 0 (rw long at l), get_or-drop i s j 0) (d.all j (rw long at l))) in
    rw long at fits

-- a byte between two others
abbrev pub within : ℕ → ℕ → ℕ → Bool
within lo hi b = leb lo b && leb b hi

-- between a byte and itself lies that byte
pub one_byte : (n b : ℕ) → eqb b n ≡ within n n b
one_byte n b = by (leb n b) (leb b n) refl refl
  where
    by : (s t : Bool) → leb n b ≡ s → leb b n ≡ t → eqb b n ≡ (s && t)
    by true true e f = let low = leb-true n b e in let high = leb-true b n f in eq-eqb b n (omega arith)
    by true false e f = let high = leb-false b n f in ne_eqb b n (λ is. omega arith)
    by false t e f = let low = leb-false n b e in ne_eqb b n (λ is. omega arith)

-- a digit between two bytes that the bytes before it may decide
abbrev pub digit_from : (List ℕ → ℕ) → (List ℕ → ℕ) → ℕ → Position
digit_from lo hi n = record { set = digit; rule = λ p b. within (lo p) (hi p) b; refusal = n }

pub record Bounded (lo hi b : ℕ) : Type 0 where
  pub from_zero : byte "0" ≤ b
  pub to_nine : b ≤ byte "9"
  pub low : lo ≤ b
  pub high : b ≤ hi

pub bounded : {lo hi b : ℕ} → byte "0" ≤ b → b ≤ byte "9" → lo ≤ b → b ≤ hi → Bounded lo hi b
bounded f g h i = record { from_zero = f; to_nine = g; low = h; high = i }

module _ (lo hi : List ℕ → ℕ) {n : ℕ} {p : List ℕ} {b : ℕ} where
  pub bounds_in : Fit (digit_from lo hi n) p b → Bounded (lo p) (hi p) b
  bounds_in f =
      let (first, ninth) = in_range "0" "9" b f.inside in
      let (low, high) = both _ _ f.lawful in
      record { from_zero = first; to_nine = ninth; low = leb-true _ _ low; high = leb-true _ _ high }

  pub bounds_out : Bounded (lo p) (hi p) b → Fit (digit_from lo hi n) p b
  bounds_out h = record { inside = range_in "0" "9" b h.from_zero h.to_nine; lawful = rw (le-leb _ _ h.low, le-leb _ _ h.high) }

-- positions of digits alone
pub record DigitSet (π : Position) : Type 0 where
  pub set : π.set ≡ digit

abbrev pub DigitSets : List Position → Type 0
DigitSets πs = Each DigitSet πs

pub digit_set : {n : ℕ} {rule : List ℕ → ℕ → Bool} → DigitSet record { set = digit; rule = rule; refusal = n }
digit_set = record { set = refl }

module _ (πs : List Position) (sets : DigitSets πs) where
  set_at : (i : ℕ) → i < length πs → DigitSet (get_or πs i nowhere)
  set_at i l = each_at DigitSet nowhere πs sets i l

  -- what fits there are digits
  pub fitting_digits : {p c : List ℕ} {i : ℕ} → i ≤ length πs → i ≤ length c → Fits (take i πs) p (take i c) → DigitsAt c 0 i
  fitting_digits {c = c} {i = i} l g fs = record { inside = omega arith; all = at }
    where
      long : length (take i πs) ≡ i
      long = length-take-le i πs l

      at : (j : ℕ) → j < i → digit (get_or c (0 + j) 0) ≡ true
      at j h =
          let here : (get_or (take i πs) j nowhere).set (get_or (take i c) j 0) ≡ true = fits_inside nowhere fs j (rw long h) in
          let set : (get_or πs j nowhere).set (get_or c j 0) ≡ true = rw (get_or-take i πs j nowhere h, get_or-take i c j 0 h) at here in
          rw (zero-add j) (sym (ap (λ (f : ℕ → Bool). f (get_or c j 0)) (set_at j (omega arith)).set) ∙ set)

  -- the number of a byte that is a digit, and of one that is none
  pub judges_digit : {c : List ℕ} {i n r : ℕ} {goes : Bool} → i < length πs → digit (get_or c i 0) ≡ true
      → (i < length πs → (get_or πs i nowhere).refusal ≡ n)
      → goes ≡ (get_or πs i nowhere).rule (take i c) (get_or c i 0) → r ≡ cond goes 0 n → Judges πs c i r
  judges_digit {i = i} l inside refusal rule is = record { is = is ∙ rw (rule, (set_at i l).set, refusal l, inside) }

  pub judges_other : {c : List ℕ} {i : ℕ} → i < length πs → digit (get_or c i 0) ≡ false → Judges πs c i CHARACTER
  judges_other {i = i} l outside = record { is = rw ((set_at i l).set, outside) }

-- a part of some digits
pub digits_part : {s : List ℕ} {i n : ℕ} → DigitsAt s i n → (j m : ℕ) → i ≤ j → j + m ≤ i + n → DigitsAt s j m
digits_part {s} {i} d j m lo hi = record { inside = omega (arith, d.inside); all = at }
  where
    at : (k : ℕ) → k < m → digit (get_or s (j + k) 0) ≡ true
    at k l =
        let is : i + (j - i + k) ≡ j + k = omega arith in
        subst (λ (a : ℕ). digit (get_or s a 0) ≡ true) is (d.all (j - i + k) (omega arith))

-- digits of the part of a list from an index on, as code lends it
pub digits_tail : {s : List ℕ} {i n : ℕ} → DigitsAt s i n → DigitsAt (take (length s - i) (drop i s)) 0 n
digits_tail {s} {i} d =
    record {
      inside = rw (tail_part i s) (simp length-drop (omega (arith, d.inside)));
      all = λ j l. rw (tail_part i s, zero-add j, get_or-drop i s j 0) (d.all j l);
    }

-- the number of n digits from an index on, and that it has no more
pub record DigitsRead (s : List ℕ) (i n v : ℕ) : Type 0 where
  pub is : v ≡ number (take n (drop i s))
  pub small : v < 10 ^ n

module _ {s : List ℕ} {at count : ℕ} (d : DigitsAt s at count) where
  pub digit_bounds : (i : ℕ) → i < count → (byte "0" ≤ get_or s (at + i) 0) × (get_or s (at + i) 0 ≤ byte "9")
  digit_bounds i l = in_range "0" "9" (get_or s (at + i) 0) (d.all i l)

  -- the digits as a part of the bytes
  pub digit_within : {i : ℕ} → i < length (take (at + count - at) (drop at s)) → i < count
  digit_within l = omega (arith, length-take (at + count - at) (drop at s), l)

  pub digit_part : {i : ℕ} → i < count → get_or (take (at + count - at) (drop at s)) i 0 ≡ get_or s (at + i) 0
  digit_part {i} l = get_or-take (at + count - at) (drop at s) i 0 (omega arith) ∙ get_or-drop at s i 0

  pub read_none : DigitsRead s at 0 0
  read_none = record { is = refl; small = omega arith }

  -- one digit more
  pub read_next : {i v : ℕ} → DigitsRead s at i v → i < count → DigitsRead s at (i + 1) (10 * v + (get_or s (at + i) 0 - byte "0"))
  read_next {i} {v} r l =
      let b = get_or s (at + i) 0 in
      let (lo, hi) = digit_bounds i l in
      let far : i < length (drop at s) = simp length-drop (omega (arith, d.inside)) in
      let cut : take (i + 1) (drop at s) ≡ take i (drop at s) ++ b ∷ [] = rw (add-one i, take-suc (drop at s) i 0 far, get_or-drop at s i 0) in
      let more : number (take (i + 1) (drop at s)) ≡ number (take i (drop at s)) * 10 + ((b - 48) * 1 + 0) = ap number cut
      ∙ number_append (take i (drop at s)) (b ∷ []) in
      record { is = omega (arith, r.is); small = rw (add-one i, pow-suc) (omega (arith, r.small)) }

  -- a digit more still fits
  pub read_room : {i v : ℕ} → DigitsRead s at i v → i < count → count ≤ 18 → v < 10 ^ 17
  read_room {i} r l few = let most : 10 ^ i ≤ 10 ^ 17 = pow-le-pow_right {n = 10} (omega arith) {i = i} {j = 17} (omega arith) in omega (arith, r.small)
