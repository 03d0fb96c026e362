-- Numbers laid end to end: a number from 1 to their sum falls into exactly one of them. Said of any list, so of the months of any year.
use Rattle.std.specs.Prelude.{ℕ, zero, suc, ◌+◌, ◌-◌, ◌≤◌, ◌<◌, ◌≡◌, refl, List, [], ◌∷◌, length, get_or, take}
use Rattle.std.proofs.Common.{ap, ⊎_elim, arith}
use Rattle.text.specs.Laws.Choice.{by_less}
use Rattle.months.specs.Months.{together}

-- n is the k-th of the i-th number
pub record Falls (ns : List ℕ) (n i k : ℕ) : Type 0 where
  pub first : 1 ≤ k
  pub last : k ≤ get_or ns i 0
  pub sum : together (take i ns) + k ≡ n

pub together_next : (ns : List ℕ) (i : ℕ) → together (take (suc i) ns) ≡ together (take i ns) + get_or ns i 0
together_next [] zero = refl
together_next [] (suc i) = refl
together_next (n ∷ ns) zero = omega arith
together_next (n ∷ ns) (suc i) = omega (arith, together_next ns i)

pub together_most : (ns : List ℕ) (i : ℕ) → together (take i ns) ≤ together ns
together_most [] zero = omega arith
together_most [] (suc i) = omega arith
together_most (n ∷ ns) zero = omega arith
together_most (n ∷ ns) (suc i) = omega (arith, together_most ns i)

-- what is left after the first i numbers is there only where an i-th follows
pub still_within : (ns : List ℕ) (i k : ℕ) → 1 ≤ k → together (take i ns) + k ≤ together ns → i < length ns
still_within [] zero k f l = omega arith
still_within [] (suc i) k f l = absurd (omega arith)
still_within (n ∷ ns) zero k f l = omega arith
still_within (n ∷ ns) (suc i) k f l = let h = still_within ns i k f (omega arith) in omega arith

pub falls_below : {ns : List ℕ} {n i k : ℕ} → Falls ns n i k → (1 ≤ n) × (n ≤ together ns)
falls_below {ns} {n} {i} {k} x = omega (arith, together_next ns i, together_most ns (suc i))

pub falls_somewhere : (ns : List ℕ) (n : ℕ) → 1 ≤ n → n ≤ together ns → (i : ℕ) × (k : ℕ) × Falls ns n i k
falls_somewhere [] n f l = absurd (omega arith)
falls_somewhere (m ∷ ns) n f l =
    ⊎_elim (λ w. (zero, n, record { first = f; last = omega arith; sum = omega arith }))
    (λ w.
    let (i, k, x) = falls_somewhere ns (n - m) (omega arith) (omega arith) in
    (suc i, k, record { first = x.first; last = x.last; sum = omega (arith, x.sum) }))
    (by_less m m n (suc m))

past_first : {m n i k : ℕ} {ns : List ℕ} → Falls (m ∷ ns) n (suc i) k → Falls ns (n - m) i k
past_first x = record { first = x.first; last = x.last; sum = omega (arith, x.sum) }

pub falls_once : (ns : List ℕ) {n i j k l : ℕ} → Falls ns n i k → Falls ns n j l → (i ≡ j) × (k ≡ l)
falls_once [] x y = absurd (omega (arith, x.first, x.last))
falls_once (m ∷ ns) {i = zero} {j = zero} x y = (refl, omega arith)
falls_once (m ∷ ns) {i = zero} {j = suc j} x y = absurd (omega arith)
falls_once (m ∷ ns) {i = suc i} {j = zero} x y = absurd (omega arith)
falls_once (m ∷ ns) {i = suc i} {j = suc j} x y = let (e, f) = falls_once ns (past_first x) (past_first y) in (ap suc e, f)
