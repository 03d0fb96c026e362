-- What the calls decide once the list was searched, as code does it, and that it is what the definitions ask.
use Rattle.std.specs.Prelude.{ℕ, zero, suc, ◌<◌, ◌≤◌, ◌≡◌, refl, Bool, true, false, cond, not, ◌&&◌, List, eqb, ltb, length, set, Option, Some, None}
use Rattle.std.proofs.Common.{sym, ap, subst, arith}
use borrow.Author.Tests.{lt-ltb, le-ltb, not-true, not-false}
use Rattle.demand.specs.Numbers.{ACCEPTED, FIELD, ALREADY, FULL, ABSENT}
use Rattle.text.specs.Decides.{Decides}
use Rattle.text.specs.Laws.Decides.{◌and◌, decides_as, decides_equal, decides_no}
use Rattle.calendar.specs.declared.Expiry.{Expiry}
use Rattle.calendar.specs.Calendar.{LawfulDate, LawfulTime, days}
use Rattle.calendar.specs.Expiry.{date_in, time_in}
use Rattle.calendar.specs.Laws.Lawful.{day_test, date_tells, time_test, time_tells}
use Rattle.structure.specs.Donation.{LawfulDonation}
use Rattle.structure.specs.Structures.{LawfulProduct}
use Rattle.structure_writer.specs.Laws.Lawful.{donation_test, product_test, donation_tells, product_tells}
use Rattle.shelf.specs.declared.ShelfUnit.{ShelfUnit}
use Rattle.shelf.specs.declared.Record.{Record}
use Rattle.shelf.specs.declared.ShelfAnswer.{ShelfAnswer}
use Rattle.shelf.specs.Shelf.{LawfulExpiry, expiry, expiry_time, LawfulUnit, indexed, refusal}

-- an expiry without a time, with one, and one that is neither
module _ {e : Expiry} where
  pub dated_tells : {b : Bool} → e.timed ≡ 0 → Decides b (LawfulDate (date_in e))
      → Decides (b && eqb e.hour 0 && eqb e.minute 0) (LawfulExpiry e)
  dated_tells is t = decides_as (t and decides_equal e.hour 0 and decides_equal e.minute 0) into back
    where
      into : (LawfulDate (date_in e) × (e.hour ≡ 0)) × (e.minute ≡ 0) → LawfulExpiry e
      into h = expiry (date_in e) h.0.0 (λ i. record { year = e.year; day = e.day; timed = is i; hour = h.0.1 i; minute = h.1 i; pad = e.pad })

      back : LawfulExpiry e → (LawfulDate (date_in e) × (e.hour ≡ 0)) × (e.minute ≡ 0)
      back (expiry d h same) =
          ((subst LawfulDate (sym (ap date_in same)) h, ap (λ (x : Expiry). x.hour) same), ap (λ (x : Expiry). x.minute) same)
      back (expiry_time d m h same) = let one : e.timed ≡ 1 = ap (λ (x : Expiry). x.timed) same in absurd (omega arith)

  pub timed_tells : {b c : Bool} → e.timed ≡ 1 → Decides b (LawfulDate (date_in e)) → Decides c (LawfulTime (time_in e))
      → Decides (b && c) (LawfulExpiry e)
  timed_tells is t q = decides_as (t and q) into back
    where
      into : LawfulDate (date_in e) × LawfulTime (time_in e) → LawfulExpiry e
      into h =
          expiry_time (date_in e) (time_in e) h
          (λ i. record { year = e.year; day = e.day; timed = is i; hour = e.hour; minute = e.minute; pad = e.pad })

      back : LawfulExpiry e → LawfulDate (date_in e) × LawfulTime (time_in e)
      back (expiry d h same) = let none : e.timed ≡ 0 = ap (λ (x : Expiry). x.timed) same in absurd (omega arith)
      back (expiry_time d m h same) = (subst LawfulDate (sym (ap date_in same)) h.0, subst LawfulTime (sym (ap time_in same)) h.1)

  pub neither_tells : 2 ≤ e.timed → Decides false (LawfulExpiry e)
  neither_tells is = decides_no back
    where
      back : LawfulExpiry e → ⊥
      back (expiry d h same) = let none : e.timed ≡ 0 = ap (λ (x : Expiry). x.timed) same in omega arith
      back (expiry_time d m h same) = let one : e.timed ≡ 1 = ap (λ (x : Expiry). x.timed) same in omega arith

pub expiry_test_at : ℕ → Expiry → Bool
expiry_test_at zero e = day_test e.year e.day (days e.year) && eqb e.hour 0 && eqb e.minute 0
expiry_test_at (suc zero) e = day_test e.year e.day (days e.year) && time_test (time_in e)
expiry_test_at (suc (suc n)) e = false

expiry_tells_at : (n : ℕ) (e : Expiry) → e.timed ≡ n → Decides (expiry_test_at n e) (LawfulExpiry e)
unfolding expiry_test_at
expiry_tells_at zero e is = dated_tells is (date_tells (date_in e))
expiry_tells_at (suc zero) e is = timed_tells is (date_tells (date_in e)) (time_tells (time_in e))
expiry_tells_at (suc (suc n)) e is = neither_tells (omega arith)

-- three tests that tell of a unit's parts tell of the unit
pub unit_tells : {a b c : Bool} {u : ShelfUnit} → Decides a (LawfulDonation u.donation) → Decides b (LawfulProduct u.product)
    → Decides c (LawfulExpiry u.expiry) → Decides (a && b && c) (LawfulUnit u)
unit_tells x y z =
    decides_as (x and y and z) (λ h. record { donation = h.0.0; product = h.0.1; expiry = h.1 }) (λ h. ((h.donation, h.product), h.expiry))

-- whether a reading could give a unit
unfoldable pub unit_test : ShelfUnit → Bool
unit_test u = donation_test u.donation && product_test u.product && expiry_test_at u.expiry.timed u.expiry

pub test_tells : (u : ShelfUnit) → Decides (unit_test u) (LawfulUnit u)
unfolding unit_test
test_tells u = unit_tells (donation_tells u.donation) (product_tells u.product) (expiry_tells_at u.expiry.timed u.expiry refl)

-- two tests of one fact are one
pub one_test : {a b : Bool} {P : Type 0} → Decides a P → Decides b P → a ≡ b
one_test {a = true} {b = b} x y = sym (y.passes (x.passed refl))
one_test {a = false} {b = true} x y = x.passes (y.passed refl)
one_test {a = false} {b = false} x y = refl

-- what a search tells that ends at i, or past all n
pub data Ends (i n : ℕ) (r : Option ℕ) : Type 0 where
  before_end : i < n → r ≡ Some i → Ends i n r
  past_end : n ≤ i → r ≡ None → Ends i n r

pub ends_at : {j i n : ℕ} → j ≡ i → j < n → Ends i n (Some j)
ends_at {j} is l = rw (sym is) (before_end l refl)

pub ends_past : {j i n : ℕ} → j ≡ i → n ≤ j → Ends i n None
ends_past {j} is l = rw (sym is) (past_end l refl)

-- the answer to a search for a unit
unfoldable pub found_at : ℕ → ℕ → ShelfAnswer
found_at i n = cond (ltb i n) (indexed i) (refusal ABSENT)

abbrev pub found_in : Option ℕ → ShelfAnswer
found_in (Some i) = indexed i
found_in None = refusal ABSENT

pub found_is : {i n : ℕ} {r : Option ℕ} → Ends i n r → found_in r ≡ found_at i n
unfolding found_at
found_is {i} {n} (before_end l e) = rw (e, lt-ltb i n l)
found_is {i} {n} (past_end l e) = rw (e, le-ltb i n l)

-- the answer to entering a unit, by where the searches for it and for a free record ended
unfoldable pub entered_at : ShelfUnit → ℕ → ℕ → ℕ → ShelfAnswer
entered_at u same free n = cond (unit_test u) (cond (ltb same n) (refusal ALREADY) (cond (ltb free n) (indexed free) (refusal FULL))) (refusal FIELD)

abbrev pub entered_by : Option ℕ → Option ℕ → ShelfAnswer
entered_by (Some i) free = refusal ALREADY
entered_by None (Some i) = indexed i
entered_by None None = refusal FULL

unfoldable pub entered_in : ShelfUnit → Option ℕ → Option ℕ → ShelfAnswer
entered_in u same free = cond (unit_test u) (entered_by same free) (refusal FIELD)

pub entered_is : (u : ShelfUnit) {i j n : ℕ} {r s : Option ℕ} → Ends i n r → Ends j n s → entered_in u r s ≡ entered_at u i j n
unfolding entered_at entered_in
entered_is u {i} {j} {n} (before_end l e) y = rw (e, lt-ltb i n l)
entered_is u {i} {j} {n} (past_end l e) (before_end k f) = rw (e, f, le-ltb i n l, lt-ltb j n k)
entered_is u {i} {j} {n} (past_end l e) (past_end k f) = rw (e, f, le-ltb i n l, le-ltb j n k)

-- its answers, by the test before them
module _ (u : ShelfUnit) (same free : Option ℕ) {lawful : Bool} {a : ShelfAnswer} (is : lawful ≡ unit_test u) where
  pub field_told : not lawful ≡ true → a ≡ refusal FIELD → a ≡ entered_in u same free
  unfolding entered_in
  field_told h e = rw (sym is, not-true lawful h) e

  pub lawful_told : not lawful ≡ false → a ≡ entered_by same free → a ≡ entered_in u same free
  unfolding entered_in
  lawful_told h e = rw (sym is, not-false lawful h) e

-- the record that is changed, or the list's length
unfoldable pub changed_at : ShelfAnswer → ℕ → ℕ
changed_at a n = cond (eqb a.refusal ACCEPTED) a.place n

unfoldable pub changed_in : ShelfAnswer → Option ℕ
changed_in a = cond (eqb a.refusal ACCEPTED) (Some a.place) None

-- the list with a record at a place, or as it is where the place lies past its end
abbrev pub put_at : List Record → ℕ → Record → List Record
put_at rs i r = cond (ltb i (length rs)) (set rs i r) rs

-- the list with a record stored where an answer says that one was changed
abbrev pub stored : List Record → Record → ShelfAnswer → List Record
stored rs r a = put_at rs (changed_at a (length rs)) r

-- what is stored, by what is told of the answer
changed_by : (b : Bool) (a : ShelfAnswer) (n : ℕ) {r : Option ℕ} → r ≡ cond b (Some a.place) None
    → ((i : ℕ) → r ≡ Some i → cond b a.place n ≡ i) × (r ≡ None → cond b a.place n ≡ n)
changed_by true a n e = ((λ i f. cc), λ f. absurd (cc))
changed_by false a n e = ((λ i f. absurd (cc)), λ f. refl)

module _ (rs : List Record) (x : Record) (a : ShelfAnswer) where
  told_at : {i : ℕ} → Some i ≡ changed_in a → changed_at a (length rs) ≡ i
  unfolding changed_at changed_in
  told_at {i} e = (changed_by (eqb a.refusal ACCEPTED) a (length rs) e).0 i refl

  told_none : None ≡ changed_in a → changed_at a (length rs) ≡ length rs
  unfolding changed_at changed_in
  told_none e = (changed_by (eqb a.refusal ACCEPTED) a (length rs) e).1 refl

  pub stores_there : {i : ℕ} → Some i ≡ changed_in a → i < length rs → set rs i x ≡ stored rs x a
  stores_there {i} e l = rw (told_at e, lt-ltb i (length rs) l)

  pub stores_past : {i : ℕ} → Some i ≡ changed_in a → length rs ≤ i → rs ≡ stored rs x a
  stores_past {i} e l = rw (told_at e, le-ltb i (length rs) l)

  pub stores_none : None ≡ changed_in a → rs ≡ stored rs x a
  stores_none e = rw (told_none e, le-ltb (length rs) (length rs) (omega arith))
