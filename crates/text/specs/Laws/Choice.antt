-- A choice by a test: which way it went, and what the test says there.
use Rattle.std.specs.Prelude.{ℕ, ◌≤◌, ◌<◌, ◌≡◌, refl, Bool, true, false, cond, ◌⊎◌, ◌≢◌, eqb, ltb}
use Rattle.std.proofs.Common.{inl, inr, eqb-true, ltb-true, ltb-false}
use Rattle.std.proofs.lemmas.Bool.{eqb-false}

module _ {A : Type 0} (u v : A) where
  abbrev pub Chosen : Type 0 → Type 0 → Bool → Type 0
  Chosen Y N t = (Y × (cond t u v ≡ u)) ⊎ (N × (cond t u v ≡ v))

  pub either_way : (P : A → Type 0) (t : Bool) → P u → P v → P (cond t u v)
  either_way P true x y = x
  either_way P false x y = y

  chosen : (Y N : Type 0) (t : Bool) → (t ≡ true → Y) → (t ≡ false → N) → Chosen Y N t
  chosen Y N true y n = inl (y refl, refl)
  chosen Y N false y n = inr (n refl, refl)

  pub by_equal : (x k : ℕ) → Chosen (x ≡ k) (x ≢ k) (eqb x k)
  by_equal x k = chosen _ _ (eqb x k) (eqb-true x k) (eqb-false x k)

  pub by_less : (x k : ℕ) → Chosen (x < k) (k ≤ x) (ltb x k)
  by_less x k = chosen _ _ (ltb x k) (ltb-true x k) (ltb-false x k)

  pub by_test : (t : Bool) → Chosen (t ≡ true) (t ≡ false) t
  by_test t = chosen _ _ t (λ e. e) (λ e. e)
