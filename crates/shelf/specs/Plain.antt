-- W-207: a sequence of calls, and the plain set of units whose answers it has.
use Rattle.std.specs.Prelude.{ℕ, ◌<◌, ◌≤◌, ◌≡◌, Bool, true, false, ◌&&◌, ◌||◌, cond, List, [], ◌∷◌, eqb, length}
use Rattle.demand.specs.Numbers.{ACCEPTED, FIELD, ALREADY, FULL, ABSENT}
use Rattle.label.specs.declared.Donation.{Donation}
use Rattle.label.specs.declared.Product.{Product}
use Rattle.shelf.specs.declared.ShelfUnit.{ShelfUnit}
use Rattle.shelf.specs.declared.Record.{Record}
use Rattle.shelf.specs.declared.ShelfAnswer.{ShelfAnswer}
use Rattle.shelf.specs.Shelf.{LawfulUnit, Holds, at, LooksUp, Removes, Enters}

-- a call with what it is given
pub data Call : Type 0 where
  enter : (u : ShelfUnit) → Call
  look_up : (d : Donation) (p : Product) → Call
  remove : (d : Donation) (p : Product) → Call

-- a call, its answer, and the list after it; looking up leaves the list as it is
pub data Does (rs : List Record) : Call → ShelfAnswer → List Record → Type 0 where
  enters : {u : ShelfUnit} {a : ShelfAnswer} {zs : List Record} → Enters rs u a zs → Does rs (enter u) a zs
  looks_up : {d : Donation} {p : Product} {a : ShelfAnswer} → LooksUp rs d p a → Does rs (look_up d p) a rs
  removes : {d : Donation} {p : Product} {a : ShelfAnswer} {zs : List Record} → Removes rs d p a zs → Does rs (remove d p) a zs

-- "any sequence of calls", each on the list that the one before left
pub data Runs : List Record → List Call → List ShelfAnswer → List Record → Type 0 where
  ended : {rs : List Record} → Runs rs [] [] rs
  next : {rs ys zs : List Record} {c : Call} {cs : List Call} {a : ShelfAnswer} {answers : List ShelfAnswer} → Does rs c a ys → Runs ys cs answers zs
      → Runs rs (c ∷ cs) (a ∷ answers) zs

-- two records of the list hold the unit
pub record Twice (d : Donation) (p : Product) (rs : List Record) : Type 0 where
  pub lower : ℕ
  pub upper : ℕ
  pub apart : lower < upper
  pub within : upper < length rs
  pub first : Holds d p (at rs lower)
  pub second : Holds d p (at rs upper)

-- "a list with no unit twice"
abbrev pub NoneTwice : List Record → Type 0
NoneTwice rs = (d : Donation) (p : Product) → Twice d p rs → ⊥

-- which unit it is: donation number and product code, and no expiry
pub record Which : Type 0 where
  pub donation : Donation
  pub product : Product

-- "equal", part by part
abbrev pub same_donation : Donation → Donation → Bool
same_donation x y = eqb x.first y.first && eqb x.year y.year && eqb x.facility y.facility && eqb x.sequence y.sequence

abbrev pub same_product : Product → Product → Bool
same_product x y =
    eqb x.letter y.letter && eqb x.o0 y.o0 && eqb x.o1 y.o1 && eqb x.o2 y.o2 && eqb x.o3 y.o3
    && eqb x.t y.t && eqb x.d y.d && eqb x.s y.s

abbrev pub same : Which → Which → Bool
same x y = same_donation x.donation y.donation && same_product x.product y.product

abbrev pub which : ShelfUnit → Which
which u = record { donation = u.donation; product = u.product }

-- a plain set of units, each once, in whichever order
abbrev pub Units : Type 0
Units = List Which

-- whether a set has a unit
abbrev pub has : Units → Which → Bool
has [] x = false
has (y ∷ s) x = same y x || has s x

-- a set without a unit
abbrev pub without : Units → Which → Units
without [] x = []
without (y ∷ s) x = cond (same y x) (without s x) (y ∷ without s x)

-- entering into a set that holds at most n: its refusal number, and the set after it
pub data Adds (n : ℕ) (s : Units) (u : ShelfUnit) (a : ℕ) (t : Units) : Type 0 where
  unlawful : (LawfulUnit u → ⊥) → a ≡ FIELD → t ≡ s → Adds n s u a t
  member : LawfulUnit u → has s (which u) ≡ true → a ≡ ALREADY → t ≡ s → Adds n s u a t
  no_room : LawfulUnit u → has s (which u) ≡ false → n ≤ length s → a ≡ FULL → t ≡ s → Adds n s u a t
  added : LawfulUnit u → has s (which u) ≡ false → length s < n → a ≡ ACCEPTED → t ≡ which u ∷ s → Adds n s u a t

-- a call of a plain set that holds at most n units: its refusal number, and the set after it
abbrev pub Answers : ℕ → Units → Call → ℕ → Units → Type 0
Answers n s (enter u) a t = Adds n s u a t
Answers n s (look_up d p) a t = (a ≡ cond (has s (record { donation = d; product = p })) ACCEPTED ABSENT) × (t ≡ s)
Answers n s (remove d p) a t =
    (a ≡ cond (has s (record { donation = d; product = p })) ACCEPTED ABSENT) × (t ≡ without s (record { donation = d; product = p }))

-- a sequence of calls of a plain set, and its refusal numbers
pub data AnswersAll (n : ℕ) : Units → List Call → List ℕ → Type 0 where
  none : {s : Units} → AnswersAll n s [] []
  more : {s t : Units} {c : Call} {cs : List Call} {a : ℕ} {answers : List ℕ} → Answers n s c a t → AnswersAll n t cs answers
      → AnswersAll n s (c ∷ cs) (a ∷ answers)

-- the set of the units that stand on a list
abbrev pub units : List Record → Units
units [] = []
units (r ∷ rs) = cond (eqb r.used 0) (units rs) (which r.unit ∷ units rs)
