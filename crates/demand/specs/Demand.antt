-- What every answer must meet, over any language `W`, where `W m s` says that s is a writing of m, and any table `F`, where `F p b n`
-- says that a byte b which is fatal after p has the refusal number n. No reader is named here.
use Rattle.std.specs.Prelude.{ℕ, ◌≤◌, ◌≡◌, cond, List, ◌∷◌, ◌++◌, eqb, length, take}
use Rattle.demand.specs.Numbers.{ACCEPTED, SHORT}

-- demand 1: an answer is a value and the place, or a refusal number and the place
pub data Answer (M : Type 0) : Type 0 where
  accepted : (m : M) (place : ℕ) → Answer M
  refused : (refusal place : ℕ) → Answer M

-- 01, "Refusal numbers": what a value, a refusal number and a place answer; row 0 is "accepted", any other number a refusal's
abbrev pub answer_of : {M : Type 0} → M → ℕ → ℕ → Answer M
answer_of m n k = cond (eqb n ACCEPTED) (accepted m k) (refused n k)

module _ {M : Type 0} (W : M → List ℕ → Type 0) where
  -- demand 3: the language can produce the bytes
  abbrev pub Acceptable : List ℕ → Type 0
  Acceptable s = (m : M) × W m s

  -- demand 3: the bytes begin some acceptable message
  abbrev pub Begins : List ℕ → Type 0
  Begins p = (u : List ℕ) × Acceptable (p ++ u)

  -- demand 3: k is the length of the longest beginning of s that also begins some acceptable message
  pub record Place (s : List ℕ) (k : ℕ) : Type 0 where
    pub within : k ≤ length s
    pub begins : Begins (take k s)
    pub longest : (j : ℕ) → j ≤ length s → Begins (take j s) → j ≤ k

  module _ (F : List ℕ → ℕ → ℕ → Type 0) where
    -- 01, "Refusal numbers": SHORT where no byte is fatal, else the row of the byte at the place
    pub data Reason (s : List ℕ) (k n : ℕ) : Type 0 where
      short : k ≡ length s → n ≡ SHORT → Reason s k n
      fatal : (p : List ℕ) (b : ℕ) (r : List ℕ) → s ≡ p ++ b ∷ r → k ≡ length p → F p b n → Reason s k n

    -- demands 1 and 3: a refusal, with its refusal number and its place
    pub record Refused (s : List ℕ) (n k : ℕ) : Type 0 where
      pub not_acceptable : Acceptable s → ⊥
      pub place : Place s k
      pub reason : Reason s k n

    -- demands 1 and 3: the answers that are right for the byte string s
    abbrev pub Right : List ℕ → Answer M → Type 0
    Right s (accepted m k) = W m s × (k ≡ length s)
    Right s (refused n k) = Refused s n k

    -- demand 1: value m, refusal number n and place k are what is due for s; a refusal's value is `nothing`
    pub record Delivers (nothing : M) (s : List ℕ) (m : M) (n k : ℕ) : Type 0 where
      pub right : Right s (answer_of m n k)
      pub empty : (n ≡ ACCEPTED → ⊥) → m ≡ nothing
