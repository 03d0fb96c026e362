-- What demand 3's place says, over any language and any table.
use Rattle.std.specs.Prelude.{ℕ, ◌≤◌, List, ◌∷◌, ◌++◌, length, take}
use Rattle.demand.specs.Demand.{Acceptable, Begins, Place, Refused}
use Rattle.demand.specs.Laws.Place as place

module _ {M : Type 0} (W : M → List ℕ → Type 0) where
  -- demand 3: every beginning up to the place begins some acceptable message
  pub could_be_saved : (s : List ℕ) (j k : ℕ) → Place W s k → j ≤ k → Begins W (take j s)
  could_be_saved s j k at l = place.before_place s j k at l

  -- demand 3: where a byte b stands at the place, no bytes v after it make the message acceptable
  pub beyond_saving : (p : List ℕ) (b : ℕ) (u v : List ℕ) → Place W (p ++ b ∷ u) (length p) → Acceptable W (p ++ b ∷ v) → ⊥
  beyond_saving p b u v at a = place.at_place p b u at v a

  -- demand 3: what stands behind the fatal byte b, u or v, changes neither refusal number nor place
  pub decided_there : (F : List ℕ → ℕ → ℕ → Type 0) (p : List ℕ) (b : ℕ) (u v : List ℕ) (n : ℕ) → Refused W F (p ++ b ∷ u) n (length p)
      → Refused W F (p ++ b ∷ v) n (length p)
  decided_there F p b u v n x = place.behind_place p b u v n x
