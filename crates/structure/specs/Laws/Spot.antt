-- The places where a structure may stand: which kinds, and the numbers of what is none of them.
use Rattle.std.specs.Prelude.{ℕ, Bool, cond, ◌&&◌, List, [], ◌∷◌, eqb}
use Rattle.demand.specs.Numbers.{IDENTIFIER, NESTED, TRAILING, REPEAT}
use Rattle.text.specs.Bytes.{byte}
use Rattle.label.specs.declared.Kind.{Kind}
use Rattle.label.specs.declared.Edition.{Edition}
use Rattle.structure.specs.Structures.{kinds_of}
use Rattle.structure.specs.declared.Spot.{Spot}
use Rattle.structure.specs.Laws.Due.{other_kinds, names}

-- = and + begin an 023
abbrev pub is_head : ℕ → ℕ → Bool
is_head a b = eqb a (byte "=") && eqb b (byte "+")

abbrev pub kinds_at : Spot → List Kind
kinds_at Spot.First = kinds_of Edition.Current
kinds_at Spot.First2001 = kinds_of Edition.Of2001
kinds_at Spot.Within = kinds_of Edition.Current
kinds_at Spot.Holding = other_kinds
kinds_at Spot.AfterDonation = Kind.Groups ∷ []
kinds_at Spot.AfterProduct = Kind.ExpiryTime ∷ []

-- the number of a byte that begins none of the kinds
abbrev pub refusal_at : Spot → ℕ
refusal_at Spot.First = IDENTIFIER
refusal_at Spot.First2001 = IDENTIFIER
refusal_at Spot.Within = IDENTIFIER
refusal_at Spot.Holding = IDENTIFIER
refusal_at Spot.AfterDonation = TRAILING
refusal_at Spot.AfterProduct = TRAILING

-- the number of a second byte that names none of the kinds
abbrev pub miss_of : Spot → ℕ → ℕ → ℕ
miss_of Spot.First a b = IDENTIFIER
miss_of Spot.First2001 a b = IDENTIFIER
miss_of Spot.Within a b = cond (is_head a b) NESTED IDENTIFIER
miss_of Spot.Holding a b = cond (is_head a b) NESTED (cond (names Kind.Donation a b) REPEAT IDENTIFIER)
miss_of Spot.AfterDonation a b = TRAILING
miss_of Spot.AfterProduct a b = TRAILING
