-- A search of the list: what it is for, where it ends, and what holds there.
use Rattle.std.specs.Prelude.{ℕ, zero, suc, ◌+◌, ◌<◌, ◌≤◌, ◌≡◌, Bool, true, false, cond, not, ◌≢◌, T, eqb, ltb, length, drop}
use Rattle.std.proofs.Math.Path.{refl, ap}
use Rattle.std.proofs.Common.{sym, ap₂, ◌∙◌, true≢false, not-suc-le-zero, le_of_suc-le-suc, add-one, arith, drop_of_length-le, drop-cons}
use Rattle.std.proofs.Math.Bool.{◌&&◌}
use mathlib.Core.List.{List, [], ◌∷◌}
use borrow.Author.Tests.{ltb-true, ltb-false, eqb-true, eqb-false, eq-eqb, ne_eqb}
use Rattle.text.specs.Decides.{Decides}
use Rattle.text.specs.Laws.Decides.{◌and◌, decides_as, decides_equal}
use Rattle.label.specs.declared.Donation.{Donation}
use Rattle.label.specs.declared.Product.{Product}
use Rattle.shelf.specs.declared.Record.{Record}
use Rattle.shelf.specs.declared.Want.{Want}
use Rattle.shelf.specs.Shelf.{Free, Holds, freed, at, Lowest, None}
use Rattle.shelf.specs.Plain.{Which, same, same_donation, same_product}

-- the tests of a number and of a code are their equality
pub donation_tells : (x y : Donation) → Decides (same_donation x y) (x ≡ y)
donation_tells x y =
    decides_as
    (decides_equal x.first y.first and decides_equal x.year y.year and decides_equal x.facility y.facility and decides_equal x.sequence
    y.sequence) (λ h i. record { sequence = h.1 i; facility = h.0.1 i; first = h.0.0.0 i; year = h.0.0.1 i })
    (λ e. (
      ((ap (λ (d : Donation). d.first) e, ap (λ (d : Donation). d.year) e), ap (λ (d : Donation). d.facility) e),
      ap (λ (d : Donation). d.sequence) e,
    ))

pub product_tells : (x y : Product) → Decides (same_product x y) (x ≡ y)
product_tells x y =
    decides_as
    (decides_equal x.letter y.letter and decides_equal x.o0 y.o0 and decides_equal x.o1 y.o1 and decides_equal x.o2 y.o2
    and decides_equal
    x.o3 y.o3 and decides_equal x.t y.t and decides_equal x.d y.d and decides_equal x.s y.s)
    (λ h i. record {
      letter = h.0.0.0.0.0.0.0 i;
      o0 = h.0.0.0.0.0.0.1 i;
      o1 = h.0.0.0.0.0.1 i;
      o2 = h.0.0.0.0.1 i;
      o3 = h.0.0.0.1 i;
      t = h.0.0.1 i;
      d = h.0.1 i;
      s = h.1 i;
    })
    (λ e. (
      (
        (
          (
            (
              (
                (
                  ap (λ (p : Product). p.letter) e,
                  ap (λ (p : Product). p.o0) e,
                ),
                ap (λ (p : Product). p.o1) e,
              ),
              ap (λ (p : Product). p.o2) e,
            ),
            ap (λ (p : Product). p.o3) e,
          ),
          ap (λ (p : Product). p.t) e,
        ),
        ap (λ (p : Product). p.d) e,
      ),
      ap (λ (p : Product). p.s) e,
    ))

pub same_tells : (x y : Which) → Decides (same x y) (x ≡ y)
same_tells x y =
    decides_as (donation_tells x.donation y.donation and product_tells x.product y.product)
    (λ h i. record { donation = h.0 i; product = h.1 i }) (λ e. (ap (λ (w : Which). w.donation) e, ap (λ (w : Which). w.product) e))

abbrev pub unit_of : Donation → Product → Want
unit_of d p = Want.Unit d p

abbrev pub any_free : Want
any_free = Want.Free

-- whether a record is what a search is for
unfoldable pub is_wanted : Record → Want → Bool
is_wanted r Want.Free = eqb r.used 0
is_wanted r (Want.Unit d p) = cond (eqb r.used 0) false (same_donation r.unit.donation d && same_product r.unit.product p)

-- its tests, in turn
module _ (r : Record) where
  pub by_use : eqb r.used 0 ≡ is_wanted r Want.Free
  unfolding is_wanted
  by_use = refl

  module _ (d : Donation) (p : Product) where
    pub unused_not : r.used ≡ 0 → false ≡ is_wanted r (Want.Unit d p)
    unfolding is_wanted
    unused_not e = rw (eq-eqb r.used 0 e)

    pub by_unit : {x y : Bool} → r.used ≢ 0 → x ≡ same_donation r.unit.donation d → y ≡ same_product r.unit.product p
        → (x && y) ≡ is_wanted r (Want.Unit d p)
    unfolding is_wanted
    by_unit n e g = rw (ne_eqb r.used 0 n) (ap₂ ◌&&◌ e g)

-- the place where a search ends: the first record that is wanted, or the list's length
unfoldable pub first_of : List Record → Want → ℕ
first_of [] w = 0
first_of (r ∷ rs) w = cond (is_wanted r w) 0 (suc (first_of rs w))

-- i places are passed
abbrev pub Left : List Record → Want → ℕ → Type 0
Left rs w i = i + first_of (drop i rs) w ≡ first_of rs w

taken : (b : Bool) (n : ℕ) → T b → cond b 0 n ≡ 0
taken true n t = refl
taken false n t = absurd t

passed : (b : Bool) (n : ℕ) → T (not b) → cond b 0 n ≡ n
passed true n t = absurd t
passed false n t = refl

module _ (rs : List Record) (w : Want) (i : ℕ) where
  pub none_left : length rs ≤ i → Left rs w i → i ≡ first_of rs w
  unfolding first_of
  none_left h l = omega (arith, l, ap (λ (ys : List Record). first_of ys w) (drop_of_length-le rs h))

  rest : i < length rs → first_of (drop i rs) w ≡ cond (is_wanted (at rs i) w) 0 (suc (first_of (drop (suc i) rs) w))
  unfolding first_of
  rest h = ap (λ (ys : List Record). first_of ys w) (drop-cons rs i freed h)

  pub hit : i < length rs → T (is_wanted (at rs i) w) → Left rs w i → i ≡ first_of rs w
  hit h t l = omega (arith, l, rest h ∙ taken (is_wanted (at rs i) w) _ t)

  pub miss : i < length rs → T (not (is_wanted (at rs i) w)) → Left rs w i → Left rs w (i + 1)
  miss h t l = rw add-one (omega (arith, l, rest h ∙ passed (is_wanted (at rs i) w) _ t))

not_below : {m n : ℕ} → (m < n → ⊥) → n ≤ m
not_below {m} {n} h = by (ltb m n) refl
  where
    by : (b : Bool) → ltb m n ≡ b → n ≤ m
    by true e = absurd (h (ltb-true m n e))
    by false e = ltb-false m n e

ordered : (m n : ℕ) → (m < n → ⊥) → (n < m → ⊥) → m ≡ n
ordered m n h g = omega (arith, not_below h, not_below g)

module _ (w : Want) where
  wanted_at : (r : Record) (rs : List Record) (b : Bool) → is_wanted r w ≡ b
      → (first_of rs w < length rs → is_wanted (at rs (first_of rs w)) w ≡ true)
      → cond b 0 (suc (first_of rs w)) < suc (length rs) → is_wanted (at (r ∷ rs) (cond b 0 (suc (first_of rs w)))) w ≡ true
  wanted_at r rs true e k h = e
  wanted_at r rs false e k h = k (omega arith)

  -- the record there is wanted
  pub first_wanted : (rs : List Record) → first_of rs w < length rs → is_wanted (at rs (first_of rs w)) w ≡ true
  unfolding first_of
  first_wanted [] h = absurd (not-suc-le-zero h)
  first_wanted (r ∷ rs) h = wanted_at r rs (is_wanted r w) refl (first_wanted rs) h

  none_at : (r : Record) (rs : List Record) (b : Bool) → is_wanted r w ≡ b
      → ((k : ℕ) → k < first_of rs w → is_wanted (at rs k) w ≡ false)
      → (k : ℕ) → k < cond b 0 (suc (first_of rs w)) → is_wanted (at (r ∷ rs) k) w ≡ false
  none_at r rs true e n k h = absurd (not-suc-le-zero h)
  none_at r rs false e n zero h = e
  none_at r rs false e n (suc k) h = n k (le_of_suc-le-suc h)

  -- and none below it is
  pub none_below : (rs : List Record) (k : ℕ) → k < first_of rs w → is_wanted (at rs k) w ≡ false
  unfolding first_of
  none_below [] k h = absurd (not-suc-le-zero h)
  none_below (r ∷ rs) k h = none_at r rs (is_wanted r w) refl (none_below rs) k h

  -- a search for what a test tells of
  module _ {P : Record → Type 0} (tells : (r : Record) → Decides (is_wanted r w) (P r)) (rs : List Record) where
    pub lowest : first_of rs w < length rs → Lowest P rs (first_of rs w)
    lowest h = record {
      within = h;
      here = (tells (at rs (first_of rs w))).passed (first_wanted rs h);
      below = λ k l x. true≢false (sym ((tells (at rs k)).passes x) ∙ none_below rs k l);
    }

    pub nowhere : length rs ≤ first_of rs w → None P rs
    nowhere h = record { nowhere = λ k l x. true≢false (sym ((tells (at rs k)).passes x) ∙ none_below rs k (omega arith)) }

    -- a search ends at the lowest, and past the end where there is none
    pub lowest_is : {i : ℕ} → Lowest P rs i → first_of rs w ≡ i
    lowest_is {i} l =
        ordered (first_of rs w) i
        (λ h. l.below (first_of rs w) h ((tells (at rs (first_of rs w))).passed (first_wanted rs (omega (arith, l.within)))))
        (λ h. true≢false (sym ((tells (at rs i)).passes l.here) ∙ none_below rs i h))

    pub none_is : None P rs → length rs ≤ first_of rs w
    none_is n = not_below (λ h. n.nowhere (first_of rs w) h ((tells (at rs (first_of rs w))).passed (first_wanted rs h)))

pub free_tells : (r : Record) → Decides (is_wanted r any_free) (Free r)
unfolding is_wanted
free_tells r = decides_as (decides_equal r.used 0) (λ e. record { unused = e }) (λ h. h.unused)

-- a record in use, by its test and that of what it holds
in_use : (n : ℕ) (z : Bool) → eqb n 0 ≡ z → {b : Bool} {P : Type 0} → Decides b P → Decides (cond z false b) ((n ≢ 0) × P)
in_use n true e t = record { passed = λ f. absurd (true≢false (sym f)); passes = λ h. absurd (h.0 (eqb-true n 0 e)) }
in_use n false e t = record { passed = λ f. (eqb-false n 0 e, t.passed f); passes = λ h. t.passes h.1 }

pub unit_tells : (d : Donation) (p : Product) (r : Record) → Decides (is_wanted r (unit_of d p)) (Holds d p r)
unfolding is_wanted
unit_tells d p r =
    decides_as (in_use r.used (eqb r.used 0) refl (donation_tells r.unit.donation d and product_tells r.unit.product p))
    (λ h. record { used = h.0; donation = h.1.0; product = h.1.1 }) (λ h. (h.used, (h.donation, h.product)))
