-- Each byte in its turn: it may stand there exactly if the place of the beginning with it is past it.
use Rattle.std.specs.Prelude.{ℕ, ◌+◌, ◌≤◌, ◌<◌, ◌≡◌, refl, Bool, true, false, List, [], ◌∷◌, ◌++◌, eqb, length, take, get_or, set, replicate}
use Rattle.std.proofs.Common.{sym, ap, ◌∙◌, subst, arith, add-one, length-set, length-append, take-suc-set, get_or-set_same, get_or-set_other, length-take-le}
use Rattle.std.proofs.Common.{eqb-true, eq-eqb}
use Rattle.std.proofs.lemmas.List.{take-set-le}
use Rattle.std.proofs.Math.Seq.{take-length}
use Rattle.std.proofs.lemmas.Bool.{eqb-false}
use Rattle.demand.specs.Demand.{Begins, Place}
use Rattle.text.specs.Decides.{Decides}
use Rattle.label.specs.declared.Edition.{Edition}
use Rattle.message.specs.Grammar.{Produces}
use Rattle.message.specs.Laws.Longest.{at_most}
use Rattle.could_stand.specs.declared.Placed.{Placed}
use Rattle.could_stand.specs.Could.{CouldStand}
use Rattle.could_stand.specs.Laws.Placed.{Places}
use Rattle.could_stand.specs.Laws.Front.{FrontOf}

-- no place is past the longest message
pub place_few : {ed : Edition} {s : List ℕ} {k : ℕ} → Place (Produces ed) s k → k ≤ 327
place_few {ed} {s} {k} p = by ed p.begins
  where
    by : (ed : Edition) → Begins (Produces ed) (take k s) → k ≤ 327
    by Edition.Current (u, (m, w)) = omega (arith, at_most w, length-append (take k s) u, length-take-le k s p.within)
    by Edition.Of2001 (u, (m, w)) = omega (arith, at_most w, length-append (take k s) u, length-take-le k s p.within)

-- bytes begin a message exactly if their place is their end
begins_by_place : {ed : Edition} {s : List ℕ} {k n : ℕ} → length s ≡ n → Place (Produces ed) s k → Decides (eqb k n) (Begins (Produces ed) s)
begins_by_place {ed} {s} {k} {n} e p = record {
  passed = λ t. subst (Begins (Produces ed)) (ap (λ (i : ℕ). take i s) (eqb-true k n t ∙ sym e) ∙ take-length s) p.begins;
  passes = λ b. let z = p.longest (length s) (omega arith) (rw (take-length s) b) in eq-eqb k n (omega (arith, p.within));
}

-- the bytes below n have their answers
pub record StandEach (ed : Edition) (front : List ℕ) (k n : ℕ) (t : List Bool) : Type 0 where
  pub byte : (b : ℕ) → b < n → Decides (get_or t b false) (Begins (Produces ed) (take k front ++ b ∷ []))
  pub all : length t ≡ 256

-- before the turn of the byte n
pub record Turn (ed : Edition) (front : List ℕ) (k size n : ℕ) (bytes : List ℕ) (t : List Bool) : Type 0 where
  pub behind : size ≡ k + 1
  pub room : length bytes ≡ 328
  pub same : take k bytes ≡ take k front
  pub low : n ≤ 256
  pub each : StandEach ed front k n t

pub first_turn : {ed : Edition} {front : List ℕ} (k : ℕ) → length front ≡ 328 → Turn ed front k (k + 1) 0 front (replicate 256 false)
first_turn k e = record { behind = refl; room = e; same = refl; low = omega arith; each = record { byte = λ b l. absurd (omega arith); all = refl } }

pub next_turn : {ed : Edition} {front : List ℕ} {k size n : ℕ} {bytes : List ℕ} {t : List Bool} {p : Placed} → Turn ed front k size n bytes t
    → k ≤ 327 → n < 256 → Places ed (take size (set bytes k n)) p
    → Turn ed front k size (n + 1) (set bytes k n) (set t n (eqb p.place size))
next_turn {ed} {front} {k} {size} {n} {bytes} {t} {p} g h l x = record {
  behind = g.behind;
  room = length-set bytes k n ∙ g.room;
  same = take-set-le k bytes k n (omega arith) ∙ g.same;
  low = omega arith;
  each = record { byte = λ b f. by b f (eqb b n) refl; all = length-set t n test ∙ g.each.all };
}
  where
    test : Bool
    test = eqb p.place size

    cut : take size (set bytes k n) ≡ take k front ++ n ∷ []
    cut =
        ap (λ (i : ℕ). take i (set bytes k n)) (g.behind ∙ add-one k)
        ∙ take-suc-set bytes k n (omega (arith, g.room))
        ∙ ap (◌++ n ∷ []) g.same

    long : length (take size (set bytes k n)) ≡ size
    long = length-take-le size (set bytes k n) (omega (arith, length-set bytes k n, g.room, g.behind))

    by : (b : ℕ) → b < n + 1 → (u : Bool) → eqb b n ≡ u
        → Decides (get_or (set t n test) b false) (Begins (Produces ed) (take k front ++ b ∷ []))
    by b f true e = rw (eqb-true b n e, get_or-set_same t n test false (omega (arith, g.each.all)), ← cut) (begins_by_place long x.place)
    by b f false e =
        let other = eqb-false b n e in
        rw (get_or-set_other t n b test false other) (g.each.byte b (omega (arith, other)))

pub last_turn : {ed : Edition} {front : List ℕ} {k size n : ℕ} {bytes : List ℕ} {t : List Bool} → Turn ed front k size n bytes t → 256 ≤ n
    → StandEach ed front k 256 t
last_turn g h = record { byte = λ b l. g.each.byte b (omega arith); all = g.each.all }

pub stands : {ed : Edition} {s front : List ℕ} {p q : Placed} {t : List Bool} → Places ed s p → Places ed (take p.place s) q
    → FrontOf s p.place front → StandEach ed front p.place 256 t → CouldStand ed s record { place = p.place; end = q.whole; byte = t }
stands x y f g = record { place = x.place; end = y.whole; byte = λ b l. rw f.same at (g.byte b l); all = g.all }
