-- The answers that code gives, and the list that it leaves, are those of the definitions; and each definition leaves one of each.
use Rattle.std.specs.Prelude.{ℕ, ◌≡◌, Bool, cond, List, length}
use Rattle.std.proofs.Math.Path.{refl, sym}
use Rattle.std.proofs.Common.{◌∙◌, arith}
use Rattle.std.proofs.Math.Bool.{true, false, true≢false}
use borrow.Author.Tests.{ltb-true, ltb-false, lt-ltb, le-ltb}
use Rattle.std.proofs.Math.Dec.{ltb}
use Rattle.demand.specs.Numbers.{FIELD, ALREADY, FULL, ABSENT}
use Rattle.label.specs.declared.Donation.{Donation}
use Rattle.label.specs.declared.Product.{Product}
use Rattle.shelf.specs.declared.ShelfUnit.{ShelfUnit}
use Rattle.shelf.specs.declared.Record.{Record}
use Rattle.shelf.specs.declared.ShelfAnswer.{ShelfAnswer}
use Rattle.shelf.specs.Shelf as shelf
use Rattle.shelf.specs.Shelf.{LawfulUnit, Holds, freed, holding, Lowest, None, indexed, refusal, LooksUp, Removes, Enters}
use Rattle.shelf.specs.Laws.Search.{unit_of, any_free, first_of, lowest, nowhere, lowest_is, none_is, unit_tells, free_tells}
use Rattle.shelf.specs.Laws.Decide.{unit_test, test_tells, found_at, entered_at, changed_at, put_at, stored}

module _ (rs : List Record) (d : Donation) (p : Product) where
  -- where the search for a unit ends
  abbrev place : ℕ
  place = first_of rs (unit_of d p)

  held : ltb place (length rs) ≡ true → Lowest (Holds d p) rs place
  held e = lowest (unit_of d p) (unit_tells d p) rs (ltb-true place (length rs) e)

  not_held : ltb place (length rs) ≡ false → None (Holds d p) rs
  not_held e = nowhere (unit_of d p) (unit_tells d p) rs (ltb-false place (length rs) e)

  looks_at : (b : Bool) → ltb place (length rs) ≡ b → LooksUp rs d p (cond b (indexed place) (refusal ABSENT))
  looks_at true e = shelf.found place (held e) refl
  looks_at false e = shelf.not_found (not_held e) refl

  pub looks_up : LooksUp rs d p (found_at place (length rs))
  unfolding found_at
  looks_up = looks_at (ltb place (length rs)) refl

  -- a record is freed where a look-up tells one
  pub frees_told : {a : ShelfAnswer} → LooksUp rs d p a → Removes rs d p a (stored rs freed a)
  unfolding changed_at
  frees_told (shelf.found i l e) = shelf.removed i l e (rw (e, lt-ltb i (length rs) l.within))
  frees_told (shelf.not_found n e) = shelf.not_there n e (rw (e, le-ltb (length rs) (length rs) (omega arith)))

  pub removes : Removes rs d p (found_at place (length rs)) (stored rs freed (found_at place (length rs)))
  removes = frees_told looks_up

  -- and nothing else is right
  is_at : {i : ℕ} → Lowest (Holds d p) rs i → (ltb place (length rs) ≡ true) × (place ≡ i)
  is_at l = let e = lowest_is (unit_of d p) (unit_tells d p) rs l in (lt-ltb place (length rs) (omega (arith, e, l.within)), e)

  is_nowhere : None (Holds d p) rs → ltb place (length rs) ≡ false
  is_nowhere n = le-ltb place (length rs) (none_is (unit_of d p) (unit_tells d p) rs n)

  pub only_looks_up : {a : ShelfAnswer} → LooksUp rs d p a → a ≡ found_at place (length rs)
  unfolding found_at
  only_looks_up (shelf.found i l e) = rw ((is_at l).0, (is_at l).1) e
  only_looks_up (shelf.not_found n e) = rw (is_nowhere n) e

  pub only_removes : {a : ShelfAnswer} {zs : List Record} → Removes rs d p a zs → (a ≡ found_at place (length rs)) × (zs ≡ put_at rs place freed)
  unfolding found_at
  only_removes (shelf.removed i l e is) = (rw ((is_at l).0, (is_at l).1) e, rw ((is_at l).0, (is_at l).1) is)
  only_removes (shelf.not_there n e is) = (rw (is_nowhere n) e, rw (is_nowhere n) is)

module _ (rs : List Record) (u : ShelfUnit) where
  abbrev n : ℕ
  n = length rs

  abbrev same : ℕ
  same = place rs u.donation u.product

  abbrev free : ℕ
  free = first_of rs any_free

  abbrev answer : Bool → Bool → Bool → ShelfAnswer
  answer a b c = cond a (cond b (refusal ALREADY) (cond c (indexed free) (refusal FULL))) (refusal FIELD)

  abbrev left : ShelfAnswer → List Record
  left = stored rs (holding u)

  -- the list stays where no record is changed
  stays : put_at rs n (holding u) ≡ rs
  stays = rw (le-ltb n n (omega arith))

  enters_at : (a b c : Bool) → unit_test u ≡ a → ltb same n ≡ b → ltb free n ≡ c → Enters rs u (answer a b c) (left (answer a b c))
  unfolding changed_at
  enters_at false b c x y z = shelf.field (λ l. true≢false (sym ((test_tells u).passes l) ∙ x)) refl stays
  enters_at true true c x y z = shelf.already ((test_tells u).passed x) same (held rs u.donation u.product y) refl stays
  enters_at true false true x y z =
      shelf.entered ((test_tells u).passed x) (not_held rs u.donation u.product y) free (lowest any_free free_tells rs (ltb-true free n z)) refl
      (rw z)
  enters_at true false false x y z =
      shelf.full ((test_tells u).passed x) (not_held rs u.donation u.product y) (nowhere any_free free_tells rs (ltb-false free n z)) refl stays

  pub enters : Enters rs u (entered_at u same free n) (left (entered_at u same free n))
  unfolding entered_at
  enters = enters_at (unit_test u) (ltb same n) (ltb free n) refl refl refl

  -- and nothing else is right
  not_lawful : (b : Bool) → unit_test u ≡ b → (LawfulUnit u → ⊥) → b ≡ false
  not_lawful true e h = absurd (h ((test_tells u).passed e))
  not_lawful false e h = refl

  pub only_enters : {a : ShelfAnswer} {zs : List Record} → Enters rs u a zs
      → (a ≡ entered_at u same free n) × (zs ≡ left (entered_at u same free n))
  unfolding entered_at changed_at
  only_enters (shelf.field h e is) = rw (not_lawful (unit_test u) refl h) (e, is ∙ sym stays)
  only_enters (shelf.already h i l e is) = rw ((test_tells u).passes h, (is_at rs u.donation u.product l).0) (e, is ∙ sym stays)
  only_enters (shelf.full h m f e is) =
      rw ((test_tells u).passes h, is_nowhere rs u.donation u.product m, le-ltb free n (none_is any_free free_tells rs f)) (e, is ∙ sym stays)
  only_enters (shelf.entered h m i l e is) =
      let at_i = lowest_is any_free free_tells rs l in
      let inside : ltb free n ≡ true = lt-ltb free n (omega (arith, at_i, l.within)) in
      rw ((test_tells u).passes h, is_nowhere rs u.donation u.product m, inside, inside, at_i) (e, is)
