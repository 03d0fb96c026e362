-- How often a unit stands on a list, and how many units stand there: what a set has, and what a changed record adds and takes.
use Rattle.std.specs.Prelude.{ℕ, zero, suc, ◌+◌, ◌<◌, ◌≤◌, ◌≡◌, Bool, true, false, cond, not, ◌||◌, List, [], ◌∷◌, eqb, length, set}
use Rattle.std.proofs.Math.Path.{refl}
use Rattle.std.proofs.Common.{ap, ◌∙◌, not-suc-le-zero, le_of_suc-le-suc, arith, eq-eqb, eqb-true}
use Rattle.text.specs.Decides.{Decides}
use Rattle.shelf.specs.declared.Record.{Record}
use Rattle.shelf.specs.Shelf.{Free, Holds, at, None}
use Rattle.shelf.specs.Plain.{Which, which, same, Units, has, without, units, Twice}
use Rattle.shelf.specs.Laws.Search.{same_tells, unit_of, is_wanted, unit_tells}

abbrev pub one : Bool → ℕ
one b = cond b 1 0

-- how often a unit is in a list of units
abbrev pub count : Units → Which → ℕ
count [] x = 0
count (y ∷ s) x = one (same y x) + count s x

-- a set has what it counts
some_at : (b g : Bool) (n : ℕ) → (1 ≤ n → g ≡ true) → 1 ≤ one b + n → (b || g) ≡ true
some_at true g n h l = refl
some_at false g n h l = h (omega arith)

pub has_some : (s : Units) (x : Which) → 1 ≤ count s x → has s x ≡ true
has_some [] x l = absurd (not-suc-le-zero l)
has_some (y ∷ s) x l = some_at (same y x) (has s x) (count s x) (has_some s x) l

none_at : (b g : Bool) (n : ℕ) → (n ≡ 0 → g ≡ false) → one b + n ≡ 0 → (b || g) ≡ false
none_at true g n h l = absurd (omega arith)
none_at false g n h l = h (omega arith)

pub has_none : (s : Units) (x : Which) → count s x ≡ 0 → has s x ≡ false
has_none [] x l = refl
has_none (y ∷ s) x l = none_at (same y x) (has s x) (count s x) (has_none s x) l

-- a unit that was taken out is not there, and every other is as often there as before
module _ (x : Which) where
  taken_at : (y : Which) (s : Units) (b : Bool) → same y x ≡ b → count (without s x) x ≡ 0 → count (cond b (without s x) (y ∷ without s x)) x ≡ 0
  taken_at y s true e h = h
  taken_at y s false e h = rw e (omega arith)

  pub taken_out : (s : Units) → count (without s x) x ≡ 0
  taken_out [] = refl
  taken_out (y ∷ s) = taken_at y s (same y x) refl (taken_out s)

  module _ (z : Which) (other : same x z ≡ false) where
    left_at : (y : Which) (s : Units) (b : Bool) → same y x ≡ b → count (without s x) z ≡ count s z
        → count (cond b (without s x) (y ∷ without s x)) z ≡ one (same y z) + count s z
    left_at y s true e h = rw (ap (λ (w : Which). same w z) ((same_tells y x).passed e) ∙ other) (omega arith)
    left_at y s false e h = ap (one (same y z) +◌) h

    pub left_in : (s : Units) → count (without s x) z ≡ count s z
    left_in [] = refl
    left_in (y ∷ s) = left_at y s (same y x) refl (left_in s)

  size_at : (y : Which) (s : Units) (b : Bool) → length (without s x) + count s x ≡ length s
      → length (cond b (without s x) (y ∷ without s x)) + (one b + count s x) ≡ suc (length s)
  size_at y s true h = omega arith
  size_at y s false h = omega arith

  pub size_without : (s : Units) → length (without s x) + count s x ≡ length s
  size_without [] = refl
  size_without (y ∷ s) = size_at y s (same y x) (size_without s)

-- a record by whether it is in use, and whether it holds the unit
abbrev pub in_use : Record → ℕ
in_use r = one (not (eqb r.used 0))

module _ (x : Which) where
  abbrev pub holds : Record → Bool
  holds r = is_wanted r (unit_of x.donation x.product)

  pub holds_tells : (r : Record) → Decides (holds r) (Holds x.donation x.product r)
  holds_tells r = unit_tells x.donation x.product r

  count_at : (b g : Bool) (u : Which) (s : Units) → same u x ≡ g → count (cond b s (u ∷ s)) x ≡ one (cond b false g) + count s x
  count_at true g u s e = omega arith
  count_at false g u s e = rw e

  pub count_cons : (r : Record) (rs : List Record) → count (units (r ∷ rs)) x ≡ one (holds r) + count (units rs) x
  unfolding is_wanted
  count_cons r rs = count_at (eqb r.used 0) (same (which r.unit) x) (which r.unit) (units rs) refl

  -- a unit that a record holds is counted
  pub stands : (rs : List Record) (i : ℕ) → i < length rs → Holds x.donation x.product (at rs i) → 1 ≤ count (units rs) x
  stands [] i l h = absurd (not-suc-le-zero l)
  stands (r ∷ rs) zero l h = rw (count_cons r rs, (holds_tells r).passes h) (omega arith)
  stands (r ∷ rs) (suc i) l h = rw (count_cons r rs) (omega (arith, stands rs i (le_of_suc-le-suc l) h))

  -- and what is counted is held
  pub record Stands (rs : List Record) : Type 0 where
    pub place : ℕ
    pub within : place < length rs
    pub held : Holds x.donation x.product (at rs place)

  standing_at : (r : Record) (rs : List Record) (b : Bool) → holds r ≡ b → (1 ≤ count (units rs) x → Stands rs) → 1 ≤ one b + count (units rs) x
      → Stands (r ∷ rs)
  standing_at r rs true e h l = record { place = 0; within = omega arith; held = (holds_tells r).passed e }
  standing_at r rs false e h l = let s = h (omega arith) in record { place = suc s.place; within = omega (arith, s.within); held = s.held }

  pub standing : (rs : List Record) → 1 ≤ count (units rs) x → Stands rs
  standing [] l = absurd (not-suc-le-zero l)
  standing (r ∷ rs) l = standing_at r rs (holds r) refl (standing rs) (rw (count_cons r rs) at l)

  -- no record holds a unit that is not counted
  pub not_counted : (rs : List Record) → None (Holds x.donation x.product) rs → count (units rs) x ≡ 0
  not_counted rs n = few (count (units rs) x) (λ l. let s = standing rs l in n.nowhere s.place s.within s.held)
    where
      few : (m : ℕ) → (1 ≤ m → ⊥) → m ≡ 0
      few zero h = refl
      few (suc m) h = absurd (h (omega arith))

  -- twice on the list is counted twice
  abbrev Pair : List Record → Type 0
  Pair rs = Twice x.donation x.product rs

  pub twice_counted : (rs : List Record) (i j : ℕ) → i < j → j < length rs → Holds x.donation x.product (at rs i)
      → Holds x.donation x.product (at rs j) → 2 ≤ count (units rs) x
  twice_counted [] i j a l h g = absurd (not-suc-le-zero l)
  twice_counted (r ∷ rs) i zero a l h g = absurd (not-suc-le-zero a)
  twice_counted (r ∷ rs) zero (suc j) a l h g =
      rw (count_cons r rs, (holds_tells r).passes h) (omega (arith, stands rs j (le_of_suc-le-suc l) g))
  twice_counted (r ∷ rs) (suc i) (suc j) a l h g =
      rw (count_cons r rs) (omega (arith, twice_counted rs i j (le_of_suc-le-suc a) (le_of_suc-le-suc l) h g))

  pair_at : (r : Record) (rs : List Record) (b : Bool) → holds r ≡ b → (2 ≤ count (units rs) x → Pair rs) → 2 ≤ one b + count (units rs) x
      → Pair (r ∷ rs)
  pair_at r rs true e h l =
      let s = standing rs (omega arith) in
      record {
        lower = 0;
        upper = suc s.place;
        apart = omega arith;
        within = omega (arith, s.within);
        first = (holds_tells r).passed e;
        second = s.held;
      }
  pair_at r rs false e h l =
      let t = h (omega arith) in
      record {
        lower = suc t.lower;
        upper = suc t.upper;
        apart = omega (arith, t.apart);
        within = omega (arith, t.within);
        first = t.first;
        second = t.second;
      }

  pub pair : (rs : List Record) → 2 ≤ count (units rs) x → Pair rs
  pair [] l = absurd (omega arith)
  pair (r ∷ rs) l = pair_at r rs (holds r) refl (pair rs) (rw (count_cons r rs) at l)

  -- a changed record takes what it held and adds what it holds
  pub count_set : (rs : List Record) (i : ℕ) (r : Record) → i < length rs
      → count (units (set rs i r)) x + one (holds (at rs i)) ≡ count (units rs) x + one (holds r)
  count_set [] i r l = absurd (not-suc-le-zero l)
  count_set (q ∷ rs) zero r l = rw (count_cons r rs, count_cons q rs) (omega arith)
  count_set (q ∷ rs) (suc i) r l =
      rw (count_cons q (set rs i r), count_cons q rs) (omega (arith, count_set rs i r (le_of_suc-le-suc l)))

-- how many units stand on a list
size_of : (b : Bool) (u : Which) (s : Units) → length (cond b s (u ∷ s)) ≡ one (not b) + length s
size_of true u s = omega arith
size_of false u s = omega arith

pub size_cons : (r : Record) (rs : List Record) → length (units (r ∷ rs)) ≡ in_use r + length (units rs)
size_cons r rs = size_of (eqb r.used 0) (which r.unit) (units rs)

pub size_set : (rs : List Record) (i : ℕ) (r : Record) → i < length rs → length (units (set rs i r)) + in_use (at rs i) ≡ length (units rs) + in_use r
size_set [] i r l = absurd (not-suc-le-zero l)
size_set (q ∷ rs) zero r l = rw (size_cons r rs, size_cons q rs) (omega arith)
size_set (q ∷ rs) (suc i) r l = rw (size_cons q (set rs i r), size_cons q rs) (omega (arith, size_set rs i r (le_of_suc-le-suc l)))

one_most : (b : Bool) → one b ≤ 1
one_most true = omega arith
one_most false = omega arith

pub size_most : (rs : List Record) → length (units rs) ≤ length rs
size_most [] = omega arith
size_most (r ∷ rs) = rw (size_cons r rs) (omega (arith, one_most (not (eqb r.used 0)), size_most rs))

-- a free record leaves room
pub room : (rs : List Record) (i : ℕ) → i < length rs → Free (at rs i) → length (units rs) < length rs
room [] i l f = absurd (not-suc-le-zero l)
room (r ∷ rs) zero l f = rw (size_cons r rs, eq-eqb r.used 0 f.unused) (omega (arith, size_most rs))
room (r ∷ rs) (suc i) l f =
    rw (size_cons r rs) (omega (arith, one_most (not (eqb r.used 0)), room rs i (le_of_suc-le-suc l) f))

-- and without one there is none
used_at : (r : Record) (b : Bool) → eqb r.used 0 ≡ b → (Free r → ⊥) → one (not b) ≡ 1
used_at r true e h = absurd (h (record { unused = eqb-true r.used 0 e }))
used_at r false e h = refl

pub no_room : (rs : List Record) → None Free rs → length rs ≤ length (units rs)
no_room [] n = omega arith
no_room (r ∷ rs) n =
    let rest = no_room rs (record { nowhere = λ k l f. n.nowhere (suc k) (omega arith) f }) in
    let here = used_at r (eqb r.used 0) refl (λ f. n.nowhere 0 (omega arith) f) in
    rw (size_cons r rs) (omega (arith, rest, here))
