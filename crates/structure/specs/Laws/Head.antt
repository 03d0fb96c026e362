-- The content of 023: lawful next digits of the count, and its laws in and out.
use Rattle.std.specs.Prelude.{ℕ, ◌+◌, ◌/◌, ◌%◌, ◌≤◌, ◌≡◌, refl, cond, List, [], ◌∷◌, ◌++◌, eqb, length, get_or, take, drop}
use Rattle.std.proofs.Common.{sym, ap, ap₂, subst, ⊎_elim, arith, take-take}
use Rattle.demand.specs.Each.{Each}
use Rattle.demand.specs.Numbers.{VALUE}
use Rattle.demand.specs.Laws.Content.{Position, Fits, none, more, Opens, free_fit, part_within}
use Rattle.text.specs.Bytes.{byte}
use Rattle.text.specs.Decimal.{digits, number}
use Rattle.text.specs.Laws.Choice.{by_equal, either_way}
use Rattle.text.specs.Laws.Decimal.{number_digits, digits_in, digits_out, digit_from, DigitSets, digit_set, Bounded, bounded, bounds_in, bounds_out}
use Rattle.structure.specs.Laws.Donation.{decimal, decimal_opens}

-- the count's second digit: after 0 at least 1, after 1 at most 6
abbrev pub count_low : List ℕ → ℕ
count_low p = cond (eqb (get_or p 0 0) (byte "0")) (byte "1") (byte "0")

abbrev pub count_high : List ℕ → ℕ
count_high p = cond (eqb (get_or p 0 0) (byte "1")) (byte "6") (byte "9")

abbrev pub head_positions : List Position
head_positions = digit_from (λ p. byte "0") (λ p. byte "1") VALUE ∷ digit_from count_low count_high VALUE ∷ decimal 3

pub head_opens : Each Opens head_positions
head_opens = ((λ p. (48, record { inside = refl; lawful = refl })), ((λ p. (49, bounds_out count_low count_high (one p))), decimal_opens 3))
  where
    one : (p : List ℕ) → Bounded (count_low p) (count_high p) 49
    one p =
        bounded (omega arith) (omega arith) (either_way {A = ℕ} 49 48 (◌≤ 49) (eqb (get_or p 0 0) 48) (omega arith) (omega arith))
        (either_way {A = ℕ} 54 57 (49 ≤◌) (eqb (get_or p 0 0) 49) (omega arith) (omega arith))

count_in : (a b : ℕ) → Bounded 48 49 a → Bounded (cond (eqb a 48) 49 48) (cond (eqb a 49) 54 57) b
    → (1 ≤ number (a ∷ b ∷ [])) × (number (a ∷ b ∷ []) ≤ 16)
count_in a b x y =
    ⊎_elim (λ u. ⊎_elim (λ v. omega arith) (λ v. omega arith) (by_equal {A = ℕ} 54 57 a 49))
    (λ u. ⊎_elim (λ v. omega arith) (λ v. omega arith) (by_equal {A = ℕ} 54 57 a 49))
    (by_equal {A = ℕ} 49 48 a 48)

-- the count and the bbb that a content stands for
abbrev pub aa_of : List ℕ → ℕ
aa_of c = number (take 2 c)

abbrev pub bbb_of : List ℕ → ℕ
bbb_of c = number (take 3 (drop 2 c))

-- aa and bbb of a whole content are those of the bytes it begins
pub count_is : (c : List ℕ) → aa_of (take 5 c) ≡ number (take 2 c)
count_is c = ap number (take-take 2 5 c (omega arith))

pub bbb_is : (c : List ℕ) → 2 ≤ length c → bbb_of (take 5 c) ≡ number (take 3 (drop 2 c))
bbb_is c l = ap number (part_within c 2 3 5 (omega arith) l)

-- five digits are the writing of the two
head_written : {p c : List ℕ} → Fits (decimal 5) p c → c ≡ digits 2 (aa_of c) ++ digits 3 (bbb_of c)
head_written (more f0 (more f1 (more f2 (more f3 (more f4 none))))) =
    ap₂ ◌++◌ (digits_in 2 VALUE (more f0 (more f1 none))).1 (digits_in 3 VALUE (more f2 (more f3 (more f4 none)))).1

pub head_in : {c : List ℕ} → Fits head_positions [] c
    → (1 ≤ aa_of c) × (aa_of c ≤ 16) × (bbb_of c ≤ 999) × (c ≡ digits 2 (aa_of c) ++ digits 3 (bbb_of c))
head_in (more {b = b0} f0 (more {b = b1} f1 (more {b = b2} f2 (more {b = b3} f3 (more {b = b4} f4 none))))) =
    let (lo, hi) = count_in b0 b1 (bounds_in _ _ f0) (bounds_in count_low count_high f1) in
    let small = (digits_in 3 VALUE (more f2 (more f3 (more f4 none)))).0 in
    (lo, hi, omega arith, head_written {p = []} (more (free_fit f0.inside) (more (free_fit f1.inside) (more f2 (more f3 (more f4 none))))))

count_out : (n : ℕ) → 1 ≤ n → n ≤ 16
    → Bounded 48 49 (48 + n / 10 % 10) × Bounded (cond (eqb (48 + n / 10 % 10) 48) 49 48) (cond (eqb (48 + n / 10 % 10) 49) 54 57) (48 + n / 1 % 10)
count_out n lo hi =
    let e = number_digits 2 n (omega arith) in (
      bounded (omega arith) (omega arith) (omega arith) (omega arith),
      bounded (omega arith) (omega arith)
          (⊎_elim (λ c. rw c.1 (omega arith)) (λ c. rw c.1 (omega arith)) (by_equal {A = ℕ} 49 48 (48 + n / 10 % 10) 48))
          (⊎_elim (λ c. rw c.1 (omega arith)) (λ c. rw c.1 (omega arith)) (by_equal {A = ℕ} 54 57 (48 + n / 10 % 10) 49)),
    )

pub head_out : (aa bbb : ℕ) → 1 ≤ aa → aa ≤ 16 → Fits head_positions [] (digits 2 aa ++ digits 3 bbb)
head_out aa bbb lo hi =
    let (f, g) = count_out aa lo hi in
    more (bounds_out _ _ f) (more (bounds_out count_low count_high g) (digits_out 3 VALUE _ bbb))

-- five digits with a lawful count fit
pub head_fits : {p c : List ℕ} → Fits (decimal 5) p c → 1 ≤ aa_of c → aa_of c ≤ 16 → Fits head_positions [] c
head_fits {c = c} fs lo hi = subst (Fits head_positions []) (sym (head_written fs)) (head_out (aa_of c) (bbb_of c) lo hi)

pub head_back : (aa bbb : ℕ) → aa ≤ 16 → bbb ≤ 999 → (aa_of (digits 2 aa ++ digits 3 bbb) ≡ aa) × (bbb_of (digits 2 aa ++ digits 3 bbb) ≡ bbb)
head_back aa bbb h g = (number_digits 2 aa (omega arith), number_digits 3 bbb (omega arith))

pub head_digits : DigitSets head_positions
head_digits = (digit_set, (digit_set, (digit_set, (digit_set, (digit_set, tt)))))
