-- Which second may be hoped for after a first structure, and where the reader goes on.
use Rattle.std.specs.Prelude.{ℕ, zero, suc, pred, ◌-◌, ◌≡◌, refl, Bool, true, false, [], ◌⊎◌, Option, Some, None}
use Rattle.std.proofs.Common.{sym, ap, true≢false, inl, inr, ⊎_elim, arith}
use Rattle.std.proofs.Math.Option.{some}
use Rattle.label.specs.declared.Structure.{Structure}
use Rattle.label.specs.declared.Kind.{Kind}
use Rattle.message_reader.specs.declared.Next.{Next}
use Rattle.structure.specs.declared.Spot.{Spot}
use Rattle.structure.specs.Structures.{kind_of}
use Rattle.message.specs.Grammar.{donation_in}
use Rattle.message.specs.Laws.Donations.{spot_of}
use Rattle.message.specs.Laws.Tree.{seconds}

-- the second that may be hoped for after a structure
abbrev pub second_of : Structure → Option Spot
second_of Structure.Empty = None
second_of (Structure.Donation d f) = Some Spot.AfterDonation
second_of (Structure.Groups g) = None
second_of (Structure.Product p) = Some Spot.AfterProduct
second_of (Structure.Expiry d) = None
second_of (Structure.ExpiryTime d t) = None
second_of (Structure.Collection d) = None
second_of (Structure.CollectionTime d t) = None
second_of (Structure.Production d) = None
second_of (Structure.ProductionTime d t) = None
second_of (Structure.Testing t) = None
second_of (Structure.Antigens a) = None
second_of (Structure.Lot l) = None
second_of (Structure.Flexible f d t) = None
second_of (Structure.Antigens2001 a) = None

-- a first structure is due there
abbrev pub is_first : Spot → Bool
is_first Spot.First = true
is_first Spot.First2001 = true
is_first Spot.Within = false
is_first Spot.Holding = false
is_first Spot.AfterDonation = false
is_first Spot.AfterProduct = false

-- after a first structure, by the second that may be hoped for
abbrev pub after_first : Spot → Option Spot → ℕ → Next
after_first here (Some spot) left = record { left = 1; spot = spot }
after_first here None left = record { left = pred left; spot = here }

-- the spot after a structure of the same message: a compound holds its donation number from there on
abbrev pub moved : Spot → Structure → Spot
moved Spot.First x = Spot.First
moved Spot.First2001 x = Spot.First2001
moved Spot.Within x = spot_of (donation_in (kind_of x))
moved Spot.Holding x = Spot.Holding
moved Spot.AfterDonation x = Spot.AfterDonation
moved Spot.AfterProduct x = Spot.AfterProduct

-- a hoped-for second, where bytes follow a first structure, else one structure fewer to come
abbrev pub next_of : Spot → Structure → Bool → ℕ → Next
next_of Spot.First x true left = after_first Spot.First (second_of x) left
next_of Spot.First x false left = record { left = pred left; spot = Spot.First }
next_of Spot.First2001 x true left = after_first Spot.First2001 (second_of x) left
next_of Spot.First2001 x false left = record { left = pred left; spot = Spot.First2001 }
next_of Spot.Within x more left = record { left = pred left; spot = moved Spot.Within x }
next_of Spot.Holding x more left = record { left = pred left; spot = Spot.Holding }
next_of Spot.AfterDonation x more left = record { left = pred left; spot = Spot.AfterDonation }
next_of Spot.AfterProduct x more left = record { left = pred left; spot = Spot.AfterProduct }

pub first_spots : (spot : Spot) → is_first spot ≡ true → (spot ≡ Spot.First) ⊎ (spot ≡ Spot.First2001)
first_spots Spot.First e = inl refl
first_spots Spot.First2001 e = inr refl
first_spots Spot.Within e = absurd (true≢false (sym e))
first_spots Spot.Holding e = absurd (true≢false (sym e))
first_spots Spot.AfterDonation e = absurd (true≢false (sym e))
first_spots Spot.AfterProduct e = absurd (true≢false (sym e))

hopeless : (spot : Spot) → None ≡ Some spot → ⊥
hopeless spot e = let z : ◌≡◌ {A = ℕ} 0 1 = cc in omega arith

-- the hoped-for second is of the kind that the first calls for
pub second_kind : (y : Structure) (spot : Spot) → second_of y ≡ Some spot
    → ((spot ≡ Spot.AfterDonation) × (kind_of y ≡ some Kind.Donation)) ⊎ ((spot ≡ Spot.AfterProduct) × (kind_of y ≡ some Kind.Product))
second_kind Structure.Empty spot e = absurd (hopeless spot e)
second_kind (Structure.Donation d f) spot e = inl (let i : spot ≡ Spot.AfterDonation = cc in i, refl)
second_kind (Structure.Groups g) spot e = absurd (hopeless spot e)
second_kind (Structure.Product p) spot e = inr (let i : spot ≡ Spot.AfterProduct = cc in i, refl)
second_kind (Structure.Expiry d) spot e = absurd (hopeless spot e)
second_kind (Structure.ExpiryTime d t) spot e = absurd (hopeless spot e)
second_kind (Structure.Collection d) spot e = absurd (hopeless spot e)
second_kind (Structure.CollectionTime d t) spot e = absurd (hopeless spot e)
second_kind (Structure.Production d) spot e = absurd (hopeless spot e)
second_kind (Structure.ProductionTime d t) spot e = absurd (hopeless spot e)
second_kind (Structure.Testing t) spot e = absurd (hopeless spot e)
second_kind (Structure.Antigens a) spot e = absurd (hopeless spot e)
second_kind (Structure.Lot l) spot e = absurd (hopeless spot e)
second_kind (Structure.Flexible f d t) spot e = absurd (hopeless spot e)
second_kind (Structure.Antigens2001 a) spot e = absurd (hopeless spot e)

-- what calls for no second begins no pair, and is no donation number
pub second_none : (y : Structure) → second_of y ≡ None → (seconds (kind_of y) ≡ []) × (moved Spot.Within y ≡ Spot.Within)
second_none Structure.Empty e = (refl, refl)
second_none (Structure.Donation d f) e = absurd (hopeless _ (sym e))
second_none (Structure.Groups g) e = (refl, refl)
second_none (Structure.Product p) e = absurd (hopeless _ (sym e))
second_none (Structure.Expiry d) e = (refl, refl)
second_none (Structure.ExpiryTime d t) e = (refl, refl)
second_none (Structure.Collection d) e = (refl, refl)
second_none (Structure.CollectionTime d t) e = (refl, refl)
second_none (Structure.Production d) e = (refl, refl)
second_none (Structure.ProductionTime d t) e = (refl, refl)
second_none (Structure.Testing t) e = (refl, refl)
second_none (Structure.Antigens a) e = (refl, refl)
second_none (Structure.Lot l) e = (refl, refl)
second_none (Structure.Flexible f d t) e = (refl, refl)
second_none (Structure.Antigens2001 a) e = (refl, refl)

one_less : (n : ℕ) → n - 1 ≡ pred n
one_less zero = refl
one_less (suc n) = let e : suc n - 1 ≡ n = omega arith in e

-- where code goes on after a structure
module _ (x : Structure) (left : ℕ) where
  less : (spot : Spot) → ◌≡◌ {A = Next} (record { left = left - 1; spot = spot }) (record { left = pred left; spot = spot })
  less spot = ap (λ (n : ℕ). record { left = n; spot = spot }) (one_less left)

  pub hopes : (spot z : Spot) → is_first spot ≡ true → second_of x ≡ Some z → record { left = 1; spot = z } ≡ next_of spot x true left
  hopes spot z e f = ⊎_elim (λ i. rw i (rw f)) (λ i. rw i (rw f)) (first_spots spot e)

  pub ends_first : (spot : Spot) → is_first spot ≡ true → left ≡ 1 → record { left = 0; spot = spot } ≡ next_of spot x false left
  ends_first spot e l = ⊎_elim (λ i. rw i (rw l)) (λ i. rw i (rw l)) (first_spots spot e)

  pub hopes_nothing : (spot : Spot) (more : Bool) → second_of x ≡ None → record { left = left - 1; spot = spot } ≡ next_of spot x more left
  hopes_nothing Spot.First true f = rw f (less Spot.First)
  hopes_nothing Spot.First false f = less Spot.First
  hopes_nothing Spot.First2001 true f = rw f (less Spot.First2001)
  hopes_nothing Spot.First2001 false f = less Spot.First2001
  hopes_nothing Spot.Within more f = rw (second_none x f).1 (less Spot.Within)
  hopes_nothing Spot.Holding more f = less Spot.Holding
  hopes_nothing Spot.AfterDonation more f = less Spot.AfterDonation
  hopes_nothing Spot.AfterProduct more f = less Spot.AfterProduct

  pub steps_on : (spot : Spot) (more : Bool) → is_first spot ≡ false → record { left = left - 1; spot = moved spot x } ≡ next_of spot x more left
  steps_on Spot.First more e = absurd (true≢false e)
  steps_on Spot.First2001 more e = absurd (true≢false e)
  steps_on Spot.Within more e = less (moved Spot.Within x)
  steps_on Spot.Holding more e = less Spot.Holding
  steps_on Spot.AfterDonation more e = less Spot.AfterDonation
  steps_on Spot.AfterProduct more e = less Spot.AfterProduct
