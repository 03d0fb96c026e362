-- A property of every element, of lists that are put together.
use Rattle.std.specs.Prelude.{ℕ, zero, suc, ◌<◌, List, [], ◌∷◌, ◌++◌, map, length, get_or, replicate}
use Rattle.std.proofs.Common.{not-suc-le-zero, le_of_suc-le-suc}
use Rattle.demand.specs.Each.{Each}

module _ {A : Type 0} (P : A → Type 0) where
  pub each_replicate : (n : ℕ) (x : A) → P x → Each P (replicate n x)
  each_replicate zero x h = tt
  each_replicate (suc n) x h = (h, each_replicate n x h)

  pub each_append : (xs ys : List A) → Each P xs → Each P ys → Each P (xs ++ ys)
  each_append [] ys h g = g
  each_append (x ∷ xs) ys (f, h) g = (f, each_append xs ys h g)

  pub each_map : (f : A → A) → ((x : A) → P x → P (f x)) → (xs : List A) → Each P xs → Each P (map f xs)
  each_map f k [] h = tt
  each_map f k (x ∷ xs) (g, h) = (k x g, each_map f k xs h)

  pub each_at : (d : A) (xs : List A) → Each P xs → (i : ℕ) → i < length xs → P (get_or xs i d)
  each_at d [] h i l = absurd (not-suc-le-zero l)
  each_at d (x ∷ xs) h zero l = h.0
  each_at d (x ∷ xs) h (suc i) l = each_at d xs h.1 i (le_of_suc-le-suc l)
