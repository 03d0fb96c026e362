-- The list answers as the plain set of its units does: a set is like a list where both count each unit as often and are of one size.
use Rattle.std.specs.Prelude.{ℕ, ◌+◌, ◌<◌, ◌≤◌, ◌≡◌, refl, Bool, true, false, cond, List, ◌∷◌, map, ltb, length, set}
use Rattle.std.proofs.Common.{sym, ap₂, ◌∙◌, subst, true≢false, arith, ltb-true, ltb-false, lt-ltb, le-ltb, eq-eqb, ne_eqb, length-set}
use Rattle.std.proofs.Math.Path.{ap}
use Rattle.demand.specs.Numbers.{ACCEPTED, FIELD, ALREADY, FULL}
use Rattle.text.specs.Decides.{Decides}
use Rattle.label.specs.declared.Donation.{Donation}
use Rattle.label.specs.declared.Product.{Product}
use Rattle.shelf.specs.declared.ShelfUnit.{ShelfUnit}
use Rattle.shelf.specs.declared.Record.{Record}
use Rattle.shelf.specs.declared.ShelfAnswer.{ShelfAnswer}
use Rattle.shelf.specs.Shelf as shelf
use Rattle.shelf.specs.Shelf.{Free, Holds, freed, holding, at, Lowest, None, LooksUp, Removes, Enters}
use Rattle.shelf.specs.Plain as plain
use Rattle.shelf.specs.Plain.{Call, Does, Runs, Twice, NoneTwice, Which, which, same, Units, has, without, units, Adds, Answers, AnswersAll}
use Rattle.shelf.specs.Laws.Search.{same_tells, is_wanted}
use Rattle.shelf.specs.Laws.Decide.{unit_test, test_tells}
use Rattle.shelf.specs.Laws.Count as counts
use Rattle.shelf.specs.Laws.Count.{one, count, in_use, holds, holds_tells}

pub record Like (rs : List Record) (s : Units) : Type 0 where
  pub often : (x : Which) → count s x ≡ count (units rs) x
  pub size : length s ≡ length (units rs)

-- no test and no fact
untold : {t : Bool} {P : Type 0} → Decides t P → (P → ⊥) → t ≡ false
untold {t = true} x n = absurd (n (x.passed refl))
untold {t = false} x n = refl

module _ (x : Which) where
  -- a free record holds nothing
  pub free_holds : (r : Record) → Free r → holds x r ≡ false
  free_holds r f = untold (holds_tells x r) (λ h. h.used f.unused)

  -- entering: the count goes up for the unit, and for no other
  pub entered_count : (rs : List Record) (i : ℕ) (u : ShelfUnit) → Lowest Free rs i
      → count (units (set rs i (holding u))) x ≡ one (same (which u) x) + count (units rs) x
  unfolding is_wanted
  entered_count rs i u l =
      let law : count (units (set rs i (holding u))) x + one (holds x (at rs i)) ≡ count (units rs) x + one (same (which u) x)
      = counts.count_set x rs i (holding u) l.within in
      omega (arith, law, ap one (free_holds (at rs i) l.here))

  -- removing: the count goes down for the unit, and for no other
  pub removed_count : (rs : List Record) (i : ℕ) (z : Which) → i < length rs → holds z (at rs i) ≡ same x z
      → count (units (set rs i freed)) z + one (same x z) ≡ count (units rs) z
  removed_count rs i z l e =
      let law : count (units (set rs i freed)) z + one (holds z (at rs i)) ≡ count (units rs) z + one (holds z freed)
      = counts.count_set z rs i freed l in
      let none : one (holds z freed) ≡ 0 = ap one (untold (holds_tells z freed) (λ h. h.used refl)) in
      let part : one (holds z (at rs i)) ≡ one (same x z) = ap one e in
      omega (arith, law, none, part)

abbrev unit_at : Donation → Product → Which
unit_at d p = record { donation = d; product = p }

-- a record that holds one unit holds no other
holds_as : {d : Donation} {p : Product} {r : Record} (z : Which) → Holds d p r → holds z r ≡ same (unit_at d p) z
holds_as {d} {p} {r} z h = by (same (unit_at d p) z) refl
  where
    by : (b : Bool) → same (unit_at d p) z ≡ b → holds z r ≡ b
    by true e =
        let is = (same_tells (unit_at d p) z).passed e in
        subst (λ (w : Which). holds w r ≡ true) is ((holds_tells (unit_at d p) r).passes h)
    by false e =
        untold (holds_tells z r) (λ g.
        true≢false (sym ((same_tells (unit_at d p) z).passes (λ i. record {
          donation = (sym h.donation ∙ g.donation) i;
          product = (sym h.product ∙ g.product) i;
        })) ∙ e))

abbrev numbers : List ShelfAnswer → List ℕ
numbers told = map (λ (a : ShelfAnswer). a.refusal) told

number_is : {a b : ShelfAnswer} → a ≡ b → a.refusal ≡ b.refusal
number_is e = ap (λ (a : ShelfAnswer). a.refusal) e

-- what is counted twice after a call was so before
abbrev Grew : Which → List Record → List Record → Type 0
Grew x rs zs = 2 ≤ count (units zs) x → 2 ≤ count (units rs) x

module _ (x : Which) where
  stayed : {rs zs : List Record} → zs ≡ rs → Grew x rs zs
  stayed e l = subst (λ (ys : List Record). 2 ≤ count (units ys) x) e l

  added : {rs : List Record} {m : ℕ} (u : ShelfUnit) (b : Bool) → same (which u) x ≡ b → None (Holds u.donation u.product) rs
      → m ≡ one b + count (units rs) x → 2 ≤ m → 2 ≤ count (units rs) x
  added {rs} u true e n law l =
      let is = (same_tells (which u) x).passed e in
      let none : count (units rs) x ≡ 0 = subst (λ (w : Which). count (units rs) w ≡ 0) is (counts.not_counted (which u) rs n) in
      absurd (omega (arith, law, none))
  added u false e n law l = omega (arith, law)

  entered_grew : {rs zs : List Record} {u : ShelfUnit} {a : ShelfAnswer} → Enters rs u a zs → Grew x rs zs
  entered_grew (shelf.field h e is) l = stayed is l
  entered_grew (shelf.already h i w e is) l = stayed is l
  entered_grew (shelf.full h m f e is) l = stayed is l
  entered_grew {rs} {u = u} (shelf.entered h m i w e is) l =
      added u (same (which u) x) refl m (ap (λ (ys : List Record). count (units ys) x) is ∙ entered_count x rs i u w) l

  removed_grew : {rs zs : List Record} {d : Donation} {p : Product} {a : ShelfAnswer} → Removes rs d p a zs → Grew x rs zs
  removed_grew {rs} {d = d} {p = p} (shelf.removed i w e is) l =
      omega (arith, stayed {rs = set rs i freed} is l, removed_count (unit_at d p) rs i x w.within (holds_as x w.here))
  removed_grew (shelf.not_there m e is) l = stayed is l

  grew : {rs zs : List Record} {c : Call} {a : ShelfAnswer} → Does rs c a zs → Grew x rs zs
  grew (plain.enters h) l = entered_grew h l
  grew (plain.looks_up h) l = l
  grew (plain.removes h) l = removed_grew h l

pub never_twice : {rs zs : List Record} {c : Call} {a : ShelfAnswer} → Does rs c a zs → (d : Donation) (p : Product) → Twice d p zs → Twice d p rs
never_twice {rs} {zs} does d p t =
    counts.pair (unit_at d p) rs
    (grew (unit_at d p) does (counts.twice_counted (unit_at d p) zs t.lower t.upper t.apart t.within t.first t.second))

-- the list after a call has as many records as before
entered_length : {rs zs : List Record} {u : ShelfUnit} {a : ShelfAnswer} → Enters rs u a zs → length zs ≡ length rs
entered_length (shelf.field h e is) = ap length is
entered_length (shelf.already h i w e is) = ap length is
entered_length (shelf.full h m f e is) = ap length is
entered_length {rs} {u = u} (shelf.entered h m i w e is) = ap length is ∙ length-set rs i (holding u)

removed_length : {rs zs : List Record} {d : Donation} {p : Product} {a : ShelfAnswer} → Removes rs d p a zs → length zs ≡ length rs
removed_length {rs} (shelf.removed i w e is) = ap length is ∙ length-set rs i freed
removed_length (shelf.not_there m e is) = ap length is

pub length_kept : {rs zs : List Record} {c : Call} {a : ShelfAnswer} → Does rs c a zs → length zs ≡ length rs
length_kept (plain.enters h) = entered_length h
length_kept (plain.looks_up h) = refl
length_kept (plain.removes h) = removed_length h

-- a call of the list is a call of a set that is like it
pub record Next (n : ℕ) (s : Units) (c : Call) (a : ShelfAnswer) (zs : List Record) : Type 0 where
  pub after : Units
  pub answers : Answers n s c a.refusal after
  pub like : Like zs after

module _ {rs : List Record} {s : Units} (single : NoneTwice rs) (like : Like rs s) where
  stay : {zs : List Record} → zs ≡ rs → Like zs s
  stay e = subst (λ (ys : List Record). Like ys s) (sym e) like

  has_it : {d : Donation} {p : Product} {i : ℕ} → Lowest (Holds d p) rs i → has s (unit_at d p) ≡ true
  has_it {d} {p} {i} l = counts.has_some s (unit_at d p) (rw (like.often (unit_at d p)) (counts.stands (unit_at d p) rs i l.within l.here))

  has_not : {d : Donation} {p : Product} → None (Holds d p) rs → has s (unit_at d p) ≡ false
  has_not {d} {p} n = counts.has_none s (unit_at d p) (like.often (unit_at d p) ∙ counts.not_counted (unit_at d p) rs n)

  -- no unit is counted twice
  once : (x : Which) → count (units rs) x ≤ 1
  once x = by (ltb 1 (count (units rs) x)) refl
    where
      by : (b : Bool) → ltb 1 (count (units rs) x) ≡ b → count (units rs) x ≤ 1
      by true e = absurd (single x.donation x.product (counts.pair x rs (ltb-true 1 (count (units rs) x) e)))
      by false e = ltb-false 1 (count (units rs) x) e

  -- a set without a unit is like a list that has it no more
  without_like : {zs : List Record} (x : Which) → count (units zs) x ≡ 0
      → ((z : Which) → same x z ≡ false → count (units zs) z ≡ count (units rs) z)
      → length (units zs) + count (units rs) x ≡ length (units rs) → Like zs (without s x)
  without_like {zs} x gone rest size = record { often = λ z. by z (same x z) refl; size = omega (arith, counts.size_without x s, like.often x, like.size) }
    where
      by : (z : Which) (b : Bool) → same x z ≡ b → count (without s x) z ≡ count (units zs) z
      by z true e =
          subst (λ (w : Which). count (without s x) w ≡ count (units zs) w) ((same_tells x z).passed e) (counts.taken_out x s ∙ sym gone)
      by z false e = counts.left_in x z e s ∙ like.often z ∙ sym (rest z e)

  used_one : {d : Donation} {p : Product} (r : Record) → Holds d p r → in_use r ≡ 1
  used_one r h = rw (ne_eqb r.used 0 h.used)

  free_none : (r : Record) → Free r → in_use r ≡ 0
  free_none r f = rw (eq-eqb r.used 0 f.unused)

  added_like : (u : ShelfUnit) (i : ℕ) → Lowest Free rs i → Like (set rs i (holding u)) (which u ∷ s)
  added_like u i l =
      let law : length (units (set rs i (holding u))) + in_use (at rs i) ≡ length (units rs) + 1 = counts.size_set rs i (holding u) l.within in
      record {
        often = λ x. ap (one (same (which u) x) +◌) (like.often x) ∙ sym (entered_count x rs i u l);
        size = omega (arith, law, free_none (at rs i) l.here, like.size);
      }

  removed_like : {d : Donation} {p : Product} (i : ℕ) → Lowest (Holds d p) rs i → Like (set rs i freed) (without s (unit_at d p))
  removed_like {d} {p} i l =
      let x = unit_at d p in
      let law : (z : Which) → count (units (set rs i freed)) z + one (same x z) ≡ count (units rs) z
      = λ z. removed_count x rs i z l.within (holds_as z l.here) in
      let itself : one (same x x) ≡ 1 = ap one ((same_tells x x).passes refl) in
      let often : count (units rs) x ≡ 1 = omega (arith, once x, counts.stands x rs i l.within l.here) in
      let size : length (units (set rs i freed)) + in_use (at rs i) ≡ length (units rs) + 0 = counts.size_set rs i freed l.within in
      without_like x (omega (arith, law x, itself, often)) (λ z e. let none : one (same x z) ≡ 0 = ap one e in omega (arith, law z, none))
      (omega (arith, size, used_one (at rs i) l.here, often))

  absent_like : {d : Donation} {p : Product} → None (Holds d p) rs → Like rs (without s (unit_at d p))
  absent_like {d} {p} m =
      let none = counts.not_counted (unit_at d p) rs m in
      without_like (unit_at d p) none (λ z e. refl) (omega (arith, none))

  entered_step : {zs : List Record} {u : ShelfUnit} {a : ShelfAnswer} → Enters rs u a zs → Next (length rs) s (plain.enter u) a zs
  entered_step (shelf.field h e is) = record { after = s; answers = plain.unlawful h (number_is e) refl; like = stay is }
  entered_step (shelf.already h i l e is) = record { after = s; answers = plain.member h (has_it l) (number_is e) refl; like = stay is }
  entered_step (shelf.full h m f e is) = record {
    after = s;
    answers = plain.no_room h (has_not m) (omega (arith, counts.no_room rs f, like.size)) (number_is e) refl;
    like = stay is;
  }
  entered_step {u = u} (shelf.entered h m i l e is) = record {
    after = which u ∷ s;
    answers = plain.added h (has_not m) (omega (arith, counts.room rs i l.within l.here, like.size)) (number_is e) refl;
    like = subst (λ (ys : List Record). Like ys (which u ∷ s)) (sym is) (added_like u i l);
  }

  looked_step : {d : Donation} {p : Product} {a : ShelfAnswer} → LooksUp rs d p a → Next (length rs) s (plain.look_up d p) a rs
  looked_step (shelf.found i l e) = record { after = s; answers = (rw (has_it l) (number_is e), refl); like = like }
  looked_step (shelf.not_found m e) = record { after = s; answers = (rw (has_not m) (number_is e), refl); like = like }

  removed_step : {zs : List Record} {d : Donation} {p : Product} {a : ShelfAnswer} → Removes rs d p a zs → Next (length rs) s (plain.remove d p) a zs
  removed_step {d = d} {p = p} (shelf.removed i l e is) = record {
    after = without s (unit_at d p);
    answers = (rw (has_it l) (number_is e), refl);
    like = subst (λ (ys : List Record). Like ys (without s (unit_at d p))) (sym is) (removed_like i l);
  }
  removed_step {d = d} {p = p} (shelf.not_there m e is) = record {
    after = without s (unit_at d p);
    answers = (rw (has_not m) (number_is e), refl);
    like = subst (λ (ys : List Record). Like ys (without s (unit_at d p))) (sym is) (absent_like m);
  }

  pub step : {zs : List Record} {c : Call} {a : ShelfAnswer} → Does rs c a zs → Next (length rs) s c a zs
  step (plain.enters h) = entered_step h
  step (plain.looks_up h) = looked_step h
  step (plain.removes h) = removed_step h

-- a sequence of calls
pub as_plain : {rs zs : List Record} {cs : List Call} {told : List ShelfAnswer} {s : Units} (n : ℕ) → length rs ≡ n → NoneTwice rs → Like rs s
    → Runs rs cs told zs → AnswersAll n s cs (numbers told) × NoneTwice zs
as_plain n is single like plain.ended = (plain.none, single)
as_plain {s = s} n is single like (plain.next {rs = rs} {ys = ys} {c = c} {a = a} does rest) =
    let t = step single like does in
    let (all, after) = as_plain n (length_kept does ∙ is) (λ d p h. single d p (never_twice does d p h)) t.like rest in
    (plain.more (subst (λ (m : ℕ). Answers m s c a.refusal t.after) is t.answers) all, after)

-- a plain set has no other answers
module _ (n : ℕ) (s : Units) where
  module _ (u : ShelfUnit) where
    abbrev number : Bool → Bool → Bool → ℕ
    number a b c = cond a (cond b ALREADY (cond c ACCEPTED FULL)) FIELD

    abbrev left : Bool → Bool → Bool → Units
    left a b c = cond a (cond b s (cond c (which u ∷ s) s)) s

    only_adds : {a : ℕ} {t : Units} → Adds n s u a t
        → (a ≡ number (unit_test u) (has s (which u)) (ltb (length s) n)) × (t ≡ left (unit_test u) (has s (which u)) (ltb (length s) n))
    only_adds (plain.unlawful h e is) = rw (untold (test_tells u) h) (e, is)
    only_adds (plain.member h m e is) = rw ((test_tells u).passes h, m) (e, is)
    only_adds (plain.no_room h m l e is) = rw ((test_tells u).passes h, m, le-ltb (length s) n l) (e, is)
    only_adds (plain.added h m l e is) = rw ((test_tells u).passes h, m, lt-ltb (length s) n l) (e, is)

  pub one_call : (c : Call) {a b : ℕ} {t q : Units} → Answers n s c a t → Answers n s c b q → (a ≡ b) × (t ≡ q)
  one_call (plain.enter u) x y = ((only_adds u x).0 ∙ sym (only_adds u y).0, (only_adds u x).1 ∙ sym (only_adds u y).1)
  one_call (plain.look_up d p) x y = (x.0 ∙ sym y.0, x.1 ∙ sym y.1)
  one_call (plain.remove d p) x y = (x.0 ∙ sym y.0, x.1 ∙ sym y.1)

pub one_all : (n : ℕ) {s : Units} {cs : List Call} {a b : List ℕ} → AnswersAll n s cs a → AnswersAll n s cs b → a ≡ b
one_all n plain.none plain.none = refl
one_all n (plain.more {s = s} {c = c} {cs = cs} {answers = told} x xs) (plain.more y ys) =
    let (e, f) = one_call n s c x y in
    ap₂ ◌∷◌ e (one_all n (subst (λ (t : Units). AnswersAll n t cs told) f xs) ys)
