-- W-207: the host's list of records, the units that may be entered, and what the three calls answer and leave. No search is named.
use Rattle.std.specs.Prelude.{ℕ, ◌<◌, ◌≡◌, List, ◌≢◌, length, get_or, set}
use Rattle.demand.specs.Numbers.{ACCEPTED, FIELD, ALREADY, FULL, ABSENT}
use Rattle.calendar.specs.declared.Date.{Date}
use Rattle.calendar.specs.declared.Time.{Time}
use Rattle.calendar.specs.declared.Expiry.{Expiry}
use Rattle.calendar.specs.Expiry.{untimed, timed, no_expiry}
use Rattle.label.specs.declared.Donation.{Donation}
use Rattle.label.specs.declared.Product.{Product}
use Rattle.label.specs.declared.Structure.{Structure}
use Rattle.label.specs.Zeros.{no_donation, no_product}
use Rattle.structure.specs.Donation.{LawfulDonation}
use Rattle.structure.specs.Structures.{LawfulProduct, Lawful}
use Rattle.shelf.specs.declared.ShelfUnit.{ShelfUnit}
use Rattle.shelf.specs.declared.Record.{Record}
use Rattle.shelf.specs.declared.ShelfAnswer.{ShelfAnswer}

-- an expiry that a reading gives: "(004 or 005)"; C's padding byte is not looked at
pub data LawfulExpiry (e : Expiry) : Type 0 where
  expiry : (d : Date) → Lawful (Structure.Expiry d) → e ≡ untimed e.pad d → LawfulExpiry e
  expiry_time : (d : Date) (t : Time) → Lawful (Structure.ExpiryTime d t) → e ≡ timed e.pad d t → LawfulExpiry e

-- a unit that a reading could give
pub record LawfulUnit (u : ShelfUnit) : Type 0 where
  pub donation : LawfulDonation u.donation
  pub product : LawfulProduct u.product
  pub expiry : LawfulExpiry u.expiry

-- "each free or holding": used 0 is free, whatever else the record has
pub record Free (r : Record) : Type 0 where
  pub unused : r.used ≡ 0

-- "one unit when donation number and product code are equal", in a record that is in use
pub record Holds (d : Donation) (p : Product) (r : Record) : Type 0 where
  pub used : r.used ≢ 0
  pub donation : r.unit.donation ≡ d
  pub product : r.unit.product ≡ p

-- a freed record has zeros in every field
abbrev pub freed : Record
freed = record {
  unit = record {
    donation = no_donation;
    product = no_product;
    expiry = no_expiry;
  };
  used = 0;
}

-- "its donation number, product code and expiry, as given"
abbrev pub holding : ShelfUnit → Record
holding u = record { unit = u; used = 1 }

-- the record at an index
abbrev pub at : List Record → ℕ → Record
at rs i = get_or rs i freed

-- "the lowest record" of a kind
pub record Lowest (P : Record → Type 0) (rs : List Record) (i : ℕ) : Type 0 where
  pub within : i < length rs
  pub here : P (at rs i)
  pub below : (k : ℕ) → k < i → P (at rs k) → ⊥

-- no record of the list is of a kind
pub record None (P : Record → Type 0) (rs : List Record) : Type 0 where
  pub nowhere : (k : ℕ) → k < length rs → P (at rs k) → ⊥

-- "all three tell the record's index"
abbrev pub indexed : ℕ → ShelfAnswer
indexed i = record { place = i; refusal = ACCEPTED }

-- a refusal: "the place is 0"
abbrev pub refusal : ℕ → ShelfAnswer
refusal n = record { place = 0; refusal = n }

-- looking up: "16 ABSENT exactly when no record holds it"
pub data LooksUp (rs : List Record) (d : Donation) (p : Product) (a : ShelfAnswer) : Type 0 where
  found : (i : ℕ) → Lowest (Holds d p) rs i → a ≡ indexed i → LooksUp rs d p a
  not_found : None (Holds d p) rs → a ≡ refusal ABSENT → LooksUp rs d p a

-- removing: "frees that record and touches no other"
pub data Removes (rs : List Record) (d : Donation) (p : Product) (a : ShelfAnswer) (zs : List Record) : Type 0 where
  removed : (i : ℕ) → Lowest (Holds d p) rs i → a ≡ indexed i → zs ≡ set rs i freed → Removes rs d p a zs
  not_there : None (Holds d p) rs → a ≡ refusal ABSENT → zs ≡ rs → Removes rs d p a zs

-- entering: FIELD, "then 14 ALREADY when the lookup finds it, then 15 FULL, given exactly when no record is free"
pub data Enters (rs : List Record) (u : ShelfUnit) (a : ShelfAnswer) (zs : List Record) : Type 0 where
  field : (LawfulUnit u → ⊥) → a ≡ refusal FIELD → zs ≡ rs → Enters rs u a zs
  already : LawfulUnit u → (i : ℕ) → Lowest (Holds u.donation u.product) rs i → a ≡ refusal ALREADY → zs ≡ rs → Enters rs u a zs
  full : LawfulUnit u → None (Holds u.donation u.product) rs → None Free rs → a ≡ refusal FULL → zs ≡ rs → Enters rs u a zs
  entered : LawfulUnit u → None (Holds u.donation u.product) rs → (i : ℕ) → Lowest Free rs i → a ≡ indexed i
      → zs ≡ set rs i (holding u) → Enters rs u a zs
