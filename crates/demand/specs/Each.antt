-- Every element of a list has a property.
use Rattle.std.specs.Prelude.{List, [], ◌∷◌}

abbrev pub Each {ℓ} : {A : Type ℓ} → (A → Type 0) → List A → Type 0
Each P [] = Unit
Each P (x ∷ xs) = P x × Each P xs
