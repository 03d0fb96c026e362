-- What one altered place or an exchange does to the remainder: a difference doubles with each place and never comes back to itself.
use Rattle.std.specs.Prelude.{ℕ, zero, suc, ◌+◌, ◌-◌, ◌*◌, ◌/◌, ◌%◌, ◌^◌, ◌≤◌, ◌<◌, ◌≡◌, refl, Bool, true, not, List, [], ◌∷◌, ◌≢◌, eqb, length, get_or, set}
use Rattle.std.proofs.Common.{sym, ap, ◌∙◌, ⊎_elim, not-suc-le-zero, le_of_suc-le-suc, pow-suc, mul_assoc, arith, lt-ltb, le-ltb}
use Rattle.std.proofs.Math.Logic.{Ne-symm}
use Rattle.std.proofs.lemmas.List.{set-get_or, set_comm}
use Rattle.std.proofs.lemmas.Bool.{eqb-false, not-true}
use Rattle.text.specs.Bytes.{upper_digit}
use Rattle.text.specs.Laws.Bytes.{either, in_range}
use Rattle.text.specs.Laws.Choice.{by_less}
use Rattle.text.specs.Laws.Every.{every, every_at}
use Rattle.check37.specs.Check.{worth, character, remainder, check_worth, check_of}
use Rattle.check37.specs.Typed.{Characters, exchange}
use Rattle.check37.specs.Laws.Worth.{by_37, digit_worth, upper_worth, worth_below, of_check}

-- a remainder after one character more
abbrev next : ℕ → ℕ → ℕ
next r b = remainder r (b ∷ [])

remainder_below : (s : List ℕ) {r : ℕ} → r < 37 → remainder r s < 37
remainder_below [] h = h
remainder_below (b ∷ s) h = remainder_below s (omega arith)

-- one check character is one remainder
same_remainder : (s t : List ℕ) → check_of s ≡ check_of t → remainder 0 s ≡ remainder 0 t
same_remainder s t e =
    let same : check_worth s ≡ check_worth t = sym (of_check s).1 ∙ ap worth e ∙ (of_check t).1 in
    omega (arith, remainder_below s {r = 0} (omega arith), remainder_below t {r = 0} (omega arith))

-- 2 has an inverse by 37, which is 19
halved : (r b : ℕ) → next r b * 19 % 37 ≡ (r + worth b) % 37
halved r b = by_37 (next r b * 19) (r + worth b) ((r + worth b) * 2 / 37 * 19) (r + worth b) (omega arith)

one_before : (q r b c : ℕ) → next q b ≡ next r c → (q + worth b) % 37 ≡ (r + worth c) % 37
one_before q r b c e = sym (halved q b) ∙ ap (λ (n : ℕ). n * 19 % 37) e ∙ halved r c

-- so what the same characters bring to one remainder was one before them
same_before : (s : List ℕ) {q r : ℕ} → q < 37 → r < 37 → remainder q s ≡ remainder r s → q ≡ r
same_before [] h g e = e
same_before (b ∷ s) {q} {r} h g e =
    let f = one_before q r b b (same_before s (omega arith) (omega arith) e) in
    omega arith

-- a difference of two remainders, with that of the characters that they get, doubles
doubled : (q r b c ε δ : ℕ) → q % 37 ≡ (r + ε) % 37 → worth b + ε ≡ worth c + δ → next q b % 37 ≡ (next r c + 2 * δ) % 37
doubled q r b c ε δ d e =
    by_37 (next q b) (next r c + 2 * δ) ((q + worth b) * 2 / 37 + (r + ε) / 37 * 2) ((r + worth c) * 2 / 37 + q / 37 * 2) (omega arith)

-- until at place k it is the difference of the two characters there, if the remainders are one again
made_up : (s : List ℕ) (k q r ε x y : ℕ) → k < length s → q % 37 ≡ (r + ε) % 37 → worth x ≤ worth y
    → remainder q (set s k x) ≡ remainder r (set s k y) → 2 ^ k * ε % 37 ≡ worth y - worth x
made_up [] k q r ε x y l d h e = absurd (not-suc-le-zero l)
made_up (b ∷ s) zero q r ε x y l d h e =
    let f = one_before q r x y (same_before s (omega arith) (omega arith) e) in
    omega (arith, worth_below y)
made_up (b ∷ s) (suc k) q r ε x y l d h e =
    rw (pow-suc, mul_assoc) (made_up s k (next q b) (next r b) (2 * ε) x y (le_of_suc-le-suc l) (doubled q r b b ε ε d refl) h e)

-- 2 has order 36 by 37: after 1 to 35 doublings no difference is itself again
abbrev goes_away : ℕ → ℕ → Bool
goes_away k δ = not (eqb (2 ^ k * (2 * suc δ) % 37) (suc δ))

tested : every (λ k. every (goes_away k) 36) 35 ≡ true
tested = refl

never_back : (k δ : ℕ) → k < 35 → δ < 36 → 2 ^ k * (2 * suc δ) % 37 ≢ suc δ
never_back k δ l h = eqb-false _ _ (not-true _ (every_at (goes_away k) 36 δ (every_at (λ k. every (goes_away k) 36) 35 k tested l) h))

-- a character of A-Z and 0-9 is the one that has its worth
typed_back : (b : ℕ) → upper_digit b ≡ true → character (worth b) ≡ b
typed_back b e =
    ⊎_elim
    (λ u.
    let (lo, hi) = in_range "A" "Z" b u in
    rw (← upper_worth b lo (omega arith), le-ltb (b - 65 + 10) 10 (omega arith), lt-ltb (b - 65 + 10) 36 (omega arith)) (omega arith))
    (λ d. let (lo, hi) = in_range "0" "9" b d in rw (← digit_worth b lo (omega arith), lt-ltb (b - 48) 10 (omega arith)) (omega arith))
    (either _ _ e)

in_order : {P : Type 0} {m n : ℕ} → m ≢ n → (m < n → P) → (n < m → P) → P
in_order {m = m} {n = n} d f g = ⊎_elim (λ h. f h.0) (λ h. g (omega arith)) (by_less m n m n)

-- what holds of two characters either way round, and never with the lesser worth first, holds of no two different ones
either_way : {P : ℕ → ℕ → Type 0} → ((x y : ℕ) → worth x < worth y → P x y → ⊥) → (x y : ℕ)
    → upper_digit x ≡ true → upper_digit y ≡ true → x ≢ y → P x y → P y x → ⊥
either_way never x y u v d p q =
    let apart : worth x ≢ worth y = λ e. d (sym (typed_back x u) ∙ ap character e ∙ typed_back y v) in
    in_order apart (λ h. never x y h p) (λ h. never y x h q)

-- one place altered: a difference of 0 stays 0
one_altered : (s : List ℕ) (i : ℕ) → i < length s → (x y : ℕ) → worth x < worth y → remainder 0 (set s i x) ≢ remainder 0 (set s i y)
one_altered s i l x y h e = omega (arith, made_up s i 0 0 0 x y l refl (omega arith) e)

pub altered : {s : List ℕ} (i b : ℕ) → Characters s → i < 13 → upper_digit b ≡ true → b ≢ get_or s i 0 → check_of (set s i b) ≢ check_of s
altered {s} i b c l u d e =
    let same : remainder 0 (set s i b) ≡ remainder 0 (set s i (get_or s i 0)) = rw set-get_or (same_remainder (set s i b) s e) in
    either_way (one_altered s i (omega (arith, c.long))) b (get_or s i 0) u (c.each i l) d same (sym same)

-- two places exchanged: the difference at the first is not made up for at the second
two_crossed : (s : List ℕ) (k r : ℕ) → k < length s → k < 35 → (x y : ℕ) → worth x < worth y
    → remainder (next r y) (set s k x) ≢ remainder (next r x) (set s k y)
two_crossed s k r l m x y h e =
    let δ = worth y - worth x - 1 in
    let is : worth y - worth x ≡ suc δ = omega arith in
    let start = doubled r r y x 0 (suc δ) (omega arith) (omega arith) in
    never_back k δ m (omega (arith, worth_below y)) (made_up s k (next r y) (next r x) (2 * suc δ) x y l start (omega arith) e ∙ is)

two_exchanged : (s : List ℕ) (i j r : ℕ) → i < j → j < length s → length s ≤ 36 → upper_digit (get_or s i 0) ≡ true
    → upper_digit (get_or s j 0) ≡ true → get_or s i 0 ≢ get_or s j 0 → remainder r (exchange s i j) ≢ remainder r s
two_exchanged [] i j r l h m u v d e = absurd (not-suc-le-zero h)
two_exchanged (b ∷ s) i zero r l h m u v d e = absurd (not-suc-le-zero l)
two_exchanged (b ∷ s) zero (suc k) r l h m u v d e =
    let y = get_or s k 0 in
    let same : remainder (next r y) (set s k b) ≡ remainder (next r b) (set s k y) = rw set-get_or e in
    either_way (two_crossed s k r (le_of_suc-le-suc h) (omega arith)) b y u v d same (sym same)
two_exchanged (b ∷ s) (suc i) (suc j) r l h m u v d e =
    two_exchanged s i j (next r b) (le_of_suc-le-suc l) (le_of_suc-le-suc h) (omega arith) u v d e

pub exchanged : {s : List ℕ} (i j : ℕ) → Characters s → i < 13 → j < 13 → get_or s i 0 ≢ get_or s j 0 → check_of (exchange s i j) ≢ check_of s
exchanged {s} i j c l m d e =
    let apart : i ≢ j = λ h. d (ap (λ (k : ℕ). get_or s k 0) h) in
    let same = same_remainder (exchange s i j) s e in
    in_order apart
    (λ h. two_exchanged s i j 0 h (omega (arith, c.long)) (omega (arith, c.long)) (c.each i l) (c.each j m) d same)
    (λ h. two_exchanged s j i 0 h (omega (arith, c.long)) (omega (arith, c.long)) (c.each j m) (c.each i l) (Ne-symm d)
    (rw (set_comm s j i (get_or s i 0) (get_or s j 0) (Ne-symm apart)) same))
