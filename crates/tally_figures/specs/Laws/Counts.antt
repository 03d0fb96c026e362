-- Counting by a number: nothing, one more, one list after another, and how high a counter gets.
use Rattle.std.specs.Prelude.{ℕ, ◌+◌, ◌^◌, ◌≤◌, ◌<◌, ◌≡◌, refl, Bool, true, false, cond, List, [], ◌∷◌, ◌++◌, eqb, length, get_or, set}
use Rattle.std.proofs.Common.{sym, ap, ◌∙◌, ⊎_elim, arith, length-set, get_or-set_same, get_or-set_other, ext_get_or}
use Rattle.std.proofs.Math.ListN.{get_or-eq_default}
use Rattle.text.specs.Laws.Choice.{by_equal, by_less}
use Rattle.tally_figures.specs.Tally.{how_many}
use Rattle.tally_figures.specs.Counters.{Counts, Below}

module _ {A : Type 0} (number : A → ℕ) where
  pub how_many_append : (xs ys : List A) (n : ℕ) → how_many number (xs ++ ys) n ≡ how_many number xs n + how_many number ys n
  how_many_append [] ys n = omega arith
  how_many_append (x ∷ xs) ys n = omega (arith, how_many_append xs ys n)

  one_most : (t : Bool) → cond t 1 0 ≤ 1
  one_most true = omega arith
  one_most false = omega arith

  pub how_many_most : (xs : List A) (n : ℕ) → how_many number xs n ≤ length xs
  how_many_most [] n = omega arith
  how_many_most (x ∷ xs) n = omega (arith, one_most (eqb (number x) n), how_many_most xs n)

pub counts_none : {A : Type 0} {number : A → ℕ} {c : List ℕ} → Counts number [] c c
counts_none = record { long = refl; each = λ n h. omega arith }

-- one counter one higher
bumped : (c : List ℕ) (k n : ℕ) → k < length c → get_or (set c k (get_or c k 0 + 1)) n 0 ≡ get_or c n 0 + (cond (eqb k n) 1 0 + 0)
bumped c k n h =
    ⊎_elim
    (λ z. rw (z.1, ← z.0) (get_or-set_same c k (get_or c k 0 + 1) 0 h))
    (λ z. rw z.1 (get_or-set_other c k n (get_or c k 0 + 1) 0 (λ e. z.0 (sym e)) ∙ omega arith))
    (by_equal {A = ℕ} 1 0 k n)

pub counts_one : {A : Type 0} {number : A → ℕ} {x : A} {c c' : List ℕ} {k : ℕ} → k ≡ number x → k < length c
    → c' ≡ set c k (get_or c k 0 + 1) → Counts number (x ∷ []) c c'
counts_one {number = number} {x} {c} {c'} {k} e h is =
    record { long = ap length is ∙ length-set c k (get_or c k 0 + 1); each = λ n l. rw (is, ← e) (bumped c k n h) }

pub counts_then : {A : Type 0} {number : A → ℕ} {xs ys : List A} {a b c : List ℕ} → Counts number xs a b → Counts number ys b c
    → Counts number (xs ++ ys) a c
counts_then {number = number} {xs} {ys} x y =
    record {
      long = y.long ∙ x.long;
      each = λ n l. omega (arith, x.each n l, y.each n (omega (arith, x.long)), how_many_append number xs ys n);
    }

-- how high they get
pub below_counts : {A : Type 0} {number : A → ℕ} {xs : List A} {a c : List ℕ} {size b b' : ℕ} → Below size b a → Counts number xs a c
    → b + length xs ≤ b' → Below size b' c
below_counts {number = number} {xs} {a} {c} low x h =
    record {
      long = x.long ∙ low.long;
      each =
          λ n.
          ⊎_elim
          (λ z. omega (arith, x.each n z.0, low.each n, how_many_most number xs n))
          (λ z. let none : get_or c n 0 ≡ 0 = get_or-eq_default c 0 (omega (arith, z.0, x.long)) in omega arith)
          (by_less n n n (length a));
    }

pub below_more : {size b b' : ℕ} {c : List ℕ} → Below size b c → b ≤ b' → Below size b' c
below_more low h = record { long = low.long; each = λ n. omega (arith, low.each n) }

-- a counter that can be one higher
pub room_at : {size b k : ℕ} {c : List ℕ} → Below size b c → k < size → b ≤ 2 ^ 63 + 16 → (k < length c) × (get_or c k 0 ≤ 2 ^ 63 + 16)
room_at {k = k} low h g = (omega (arith, low.long), omega (arith, low.each k))

-- a list is counted in one way
pub one_count : {A : Type 0} {number : A → ℕ} {xs : List A} {a b c : List ℕ} → Counts number xs a b → Counts number xs a c → b ≡ c
one_count {b = b} {c} x y =
    ext_get_or 0 b c (x.long ∙ sym y.long) (λ i h. x.each i (omega (arith, x.long)) ∙ sym (y.each i (omega (arith, x.long))))
