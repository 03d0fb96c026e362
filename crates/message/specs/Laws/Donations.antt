-- How many 001s a compound has, which kinds may follow there, and which kinds both editions have.
use Rattle.std.specs.Prelude.{ℕ, zero, suc, ◌+◌, ◌≤◌, ◌≡◌, refl, Bool, true, false, cond, ◌||◌, List, [], ◌∷◌, ◌++◌, eqb}
use Rattle.std.proofs.Common.{sym, ap, ◌∙◌, zero-add, arith, eq-eqb, ne_eqb}
use mathlib.Core.List.Memᴰ
use Rattle.std.proofs.Math.Option.{Option, some, none}
use Rattle.text.specs.Laws.Choice.{either_way}
use Rattle.label.specs.declared.Structure.{Structure}
use Rattle.label.specs.declared.Kind.{Kind}
use Rattle.label.specs.declared.Edition.{Edition}
use Rattle.label.specs.declared.Form.{Form}
use Rattle.label.specs.declared.Message.{Message}
use Rattle.structure.specs.Structures.{kind_of, kinds_of, Among, number_of, Lawful, LawfulIn, written}
use Rattle.structure.specs.declared.Spot.{Spot}
use Rattle.structure.specs.Laws.Kinds.{number_or, number_in}
use Rattle.structure.specs.Laws.Due.{names, find, find_named, leads, other_kinds, edition_among, other_kind}
use Rattle.structure.specs.Laws.Spot.{kinds_at}
use Rattle.message.specs.Grammar.{message_of, Pairs, donation_groups, product_expiry, donation_in, donations, Produces, pair}

-- the spot within a compound that has so many
abbrev pub spot_of : ℕ → Spot
spot_of zero = Spot.Within
spot_of (suc n) = Spot.Holding

-- the number of a structure's kind tells whether it is one
by_number : (o : Option Kind) → donation_in o ≡ cond (eqb (number_or o) 1) 1 0
by_number none = refl
by_number (some k) = refl

module _ (x : Structure) {n : ℕ} (is : n ≡ number_in x) where
  pub is_donation : n ≡ 1 → donation_in (kind_of x) ≡ 1
  is_donation e = by_number (kind_of x) ∙ rw (eq-eqb (number_in x) 1 (sym is ∙ e))

  pub is_other : (n ≡ 1 → ⊥) → donation_in (kind_of x) ≡ 0
  is_other f = by_number (kind_of x) ∙ rw (ne_eqb (number_in x) 1 (λ e. f (is ∙ e)))

pub donations_append : (xs ys : List Structure) → donations (xs ++ ys) ≡ donations xs + donations ys
donations_append [] ys = sym (zero-add (donations ys))
donations_append (x ∷ xs) ys = let e = donations_append xs ys in omega arith

-- the kinds that may follow are those of the current edition with which there is at most one 001
pub among_after : (held : ℕ) (k : Kind) → Among k (kinds_of Edition.Current) → held + donation_in (some k) ≤ 1 → Among k (kinds_at (spot_of held))
among_after zero k m h = m
among_after (suc n) k m h = other m
  where
    other : Among k (kinds_of Edition.Current) → Among k other_kinds
    other (Memᴰ.head e) = let one : donation_in (some k) ≡ 1 = ap (λ (l : Kind). donation_in (some l)) e in absurd (omega arith)
    other (Memᴰ.tail m) = m

pub after_current : (held : ℕ) {k : Kind} → Among k (kinds_at (spot_of held)) → Among k (kinds_of Edition.Current)
after_current zero m = m
after_current (suc n) m = Memᴰ.tail m

pub after_among : (held : ℕ) (k : Kind) → held ≤ 1 → Among k (kinds_at (spot_of held)) → held + donation_in (some k) ≤ 1
after_among zero k h m = rw (zero-add (donation_in (some k))) (either_way {A = ℕ} 1 0 (◌≤ 1) (eqb (number_of k) 1) (omega arith) (omega arith))
after_among (suc zero) k h m = let none_of : donation_in (some k) ≡ 0 = rw (other_kind m) in omega arith
after_among (suc (suc n)) k h m = absurd (omega arith)

-- some kind may always follow, and the first bytes are those of every kind
pub groups_after : (held : ℕ) → Among Kind.Groups (kinds_at (spot_of held))
groups_after zero = Memᴰ.tail (Memᴰ.head refl)
groups_after (suc n) = Memᴰ.head refl

pub leads_after : (held a : ℕ) → leads (kinds_at (spot_of held)) a ≡ leads (kinds_of Edition.Current) a
leads_after zero a = refl
leads_after (suc n) a = twice (eqb a 61) _
  where
    twice : (t u : Bool) → (t || u) ≡ (t || (t || u))
    twice true u = refl
    twice false u = refl

-- both editions have the kinds of the pairs
pub pairs_in : (ed : Edition) {k l : Kind} → Pairs k l → Among k (kinds_of ed) × Among l (kinds_of ed)
pairs_in Edition.Current donation_groups = (edition_among Edition.Current Kind.Donation refl, edition_among Edition.Current Kind.Groups refl)
pairs_in Edition.Current product_expiry = (edition_among Edition.Current Kind.Product refl, edition_among Edition.Current Kind.ExpiryTime refl)
pairs_in Edition.Of2001 donation_groups = (edition_among Edition.Of2001 Kind.Donation refl, edition_among Edition.Of2001 Kind.Groups refl)
pairs_in Edition.Of2001 product_expiry = (edition_among Edition.Of2001 Kind.Product refl, edition_among Edition.Of2001 Kind.ExpiryTime refl)

abbrev pub lawful_in : {ed : Edition} {x : Structure} {k : Kind} → Lawful x → kind_of x ≡ some k → Among k (kinds_of ed) → LawfulIn ed x
lawful_in {k = k} h e m = record { lawful = h; kind = k; is = e; among = m }

-- both editions have the kinds of the pairs
pub pair_in : (ed : Edition) {m : Message} {s : List ℕ} (x y : Structure) {k l : Kind} → Lawful x → Lawful y → kind_of x ≡ some k
    → kind_of y ≡ some l → Pairs k l → m ≡ message_of Form.Pair 0 (x ∷ y ∷ []) → s ≡ written x ++ written y → Produces ed m s
pair_in ed x y h g kx ky p is e = let (first, second) = pairs_in ed p in pair x y (lawful_in h kx first) (lawful_in g ky second) p is e

-- two bytes that name no kind of an edition name no donation number
pub no_donation : (ed : Edition) (a b : ℕ) → find (kinds_of ed) a b ≡ none → names Kind.Donation a b ≡ false
no_donation ed a b e = by (names Kind.Donation a b) refl
  where
    by : (t : Bool) → names Kind.Donation a b ≡ t → t ≡ false
    by true n = let f = find_named a b (pairs_in ed donation_groups).0 n in let z : ◌≡◌ {A = ℕ} 0 1 = cc in absurd (omega arith)
    by false n = refl
