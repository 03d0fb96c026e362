-- 01, "Refusal numbers": where a structure is due and where the byte after p stands, for each way of laying an 023 and a structure: as a label's
-- bytes, or as fields of a record (W-213). No reader is named.
use Rattle.std.specs.Prelude.{ℕ, ◌+◌, ◌≤◌, ◌<◌, ◌≡◌, Bool, false, List, [], ◌∷◌, ◌++◌, length, get_or}
use Rattle.std.proofs.Math.Option.{some}
use Rattle.demand.specs.Each.{Each}
use Rattle.demand.specs.Numbers.{VALUE}
use Rattle.label.specs.declared.Structure.{Structure}
use Rattle.label.specs.declared.Kind.{Kind}
use Rattle.label.specs.declared.Edition.{Edition}
use Rattle.structure.specs.Structures.{kind_of, kinds_of, Among, Lawful, LawfulIn}
use Rattle.message.specs.Grammar.{Pairs, in_turn, donation_in, donations, HasCompounds}

-- how an 023 and a structure are laid: the bytes, those that name it, and for each byte past these its set and refusal number
pub record Layout : Type 0 where
  pub head : ℕ → ℕ → List ℕ
  pub head_name : List ℕ
  pub head_sets : List (ℕ → Bool)
  pub head_refusals : List ℕ
  pub structure : Structure → List ℕ
  pub name : Structure → List ℕ
  pub sets : Kind → List (ℕ → Bool)
  pub refusals : Kind → List ℕ

module _ (ℓ : Layout) (ed : Edition) where
  -- p ends "within a compound" where a further structure is due, and has so many 001s
  pub data Within (p : List ℕ) (had : ℕ) : Type 0 where
    within : HasCompounds ed → (aa bbb : ℕ) (xs : List Structure) → aa ≤ 16 → bbb ≤ 999 → Each (LawfulIn ed) xs → had ≡ donations xs
        → had ≤ 1 → length xs < aa → p ≡ ℓ.head aa bbb ++ in_turn ℓ.structure xs → Within p had

  -- "where a structure is due": at the start and within a compound
  pub data Due (p : List ℕ) : Type 0 where
    at_start : p ≡ [] → Due p
    in_compound : (had : ℕ) → Within p had → Due p

  -- p is the first of a pair, and a "hoped-for second" has kind l
  pub data Hoped (p : List ℕ) (l : Kind) : Type 0 where
    hoped : (x : Structure) (h : LawfulIn ed x) → Pairs h.kind l → p ≡ ℓ.structure x → Hoped p l

  -- a structure of kind k may stand after p: W-212, one of the edition's kinds
  pub data May (p : List ℕ) (k : Kind) : Type 0 where
    because_first : Among k (kinds_of ed) → p ≡ [] → May p k
    -- W-208: no second 001
    because_within : Among k (kinds_of ed) → (had : ℕ) → Within p had → had + donation_in (some k) ≤ 1 → May p k
    because_hoped : Hoped p k → May p k

  -- the byte after p is "in a content, past the identifier" or the tag, at a position whose set is σ and whose refusal number is v
  pub data Inside (p : List ℕ) (σ : ℕ → Bool) (v : ℕ) : Type 0 where
    of_structure : (q : List ℕ) (x : Structure) (k : Kind) (c : List ℕ) → May q k → Lawful x → kind_of x ≡ some k
        → length c < length (ℓ.sets k) → p ≡ q ++ (ℓ.name x ++ c) → σ ≡ get_or (ℓ.sets k) (length c) (λ b. false)
        → v ≡ get_or (ℓ.refusals k) (length c) VALUE → Inside p σ v
    of_head : HasCompounds ed → (c : List ℕ) → length c < length ℓ.head_sets → p ≡ ℓ.head_name ++ c
        → σ ≡ get_or ℓ.head_sets (length c) (λ b. false) → v ≡ get_or ℓ.head_refusals (length c) VALUE → Inside p σ v

  -- 3: p and b end with the name of an 023 "within a compound"
  pub data Nested (p : List ℕ) (b : ℕ) : Type 0 where
    nests : (q : List ℕ) (had : ℕ) → Within q had → p ++ b ∷ [] ≡ q ++ ℓ.head_name → Nested p b

  -- 13: p and b end with the name of a second 001 in a compound, "where that character could begin a donation number"
  pub data Repeated (p : List ℕ) (b : ℕ) : Type 0 where
    repeats : (q : List ℕ) (x : Structure) → Within q 1 → Lawful x → kind_of x ≡ some Kind.Donation → p ++ b ∷ [] ≡ q ++ ℓ.name x
        → Repeated p b
