-- Which kind two bytes name, as code finds it.
use Rattle.std.specs.Prelude.{ℕ, ◌≤◌, ◌<◌, ◌≡◌, refl, Bool, true, false, cond, not, ◌&&◌, ◌||◌, List, [], ◌∷◌, ◌⊎◌, eqb, length, get_or, Some, None, Result, Ok}
use Rattle.std.specs.Prelude.{Err}
use Rattle.std.specs.Prelude.{Option as Named}
use Rattle.std.proofs.Common.{sym, ap, ◌∙◌, true≢false, arith, ne_eqb}
use mathlib.Core.List.Memᴰ
use Rattle.std.proofs.Math.Option.{Option, some, none}
use Rattle.std.proofs.lemmas.Bool.{not-true}
use Rattle.demand.specs.Each.{Each}
use Rattle.demand.specs.Numbered as refusal
use Rattle.demand.specs.declared.Stop.{Stop}
use Rattle.text.specs.Bytes.{first_character}
use Rattle.text.specs.Laws.Bytes.{both, either_right}
use Rattle.label.specs.declared.Kind.{Kind}
use Rattle.label.specs.declared.Edition.{Edition}
use Rattle.structure.specs.Structures.{kinds_of, Among, number_of, every_kind}
use Rattle.structure.specs.declared.Spot.{Spot}
use Rattle.structure.specs.Laws.Kinds.{lead}
use Rattle.structure.specs.Laws.Due.{other_kinds, other_kind, leads, find, find_found, find_named, names, only_other}
use Rattle.structure.specs.Laws.Due.{of_edition, among_edition, edition_among, each_among, among_every}
use Rattle.structure.specs.Laws.Spot.{kinds_at, refusal_at, miss_of}

-- the kind that is named, as code has it
abbrev pub named_of : Option Kind → Named Kind
named_of (some k) = Some k
named_of none = None

-- the first bytes of all kinds are = and &
all_lead : (x y : Bool) → ((x && true) || (y && true)) ≡ (x || (x || (x || (x || (y || (x || (y || (x || (y || (y || (x || (y || (x || false)))))))))))))
all_lead true y = refl
all_lead false true = refl
all_lead false false = refl

pub leads_by : (spot : Spot) (a : ℕ) → ((eqb a 61 && leads (kinds_at spot) 61) || (eqb a 38 && leads (kinds_at spot) 38)) ≡ leads (kinds_at spot) a
leads_by Spot.First a = all_lead (eqb a 61) (eqb a 38)
leads_by Spot.First2001 a = older (eqb a 61) (eqb a 38)
  where
    older : (x y : Bool) → ((x && true) || (y && true)) ≡ (x || (x || (x || (x || (y || (x || (y || (x || (y || (x || false))))))))))
    older true y = refl
    older false true = refl
    older false false = refl
leads_by Spot.Within a = all_lead (eqb a 61) (eqb a 38)
leads_by Spot.Holding a = others (eqb a 61) (eqb a 38)
  where
    others : (x y : Bool) → ((x && true) || (y && true)) ≡ (x || (x || (x || (y || (x || (y || (x || (y || (y || (x || (y || (x || false))))))))))))
    others true y = refl
    others false true = refl
    others false false = refl
leads_by Spot.AfterDonation a = equals (eqb a 61) (eqb a 38)
  where
    equals : (x y : Bool) → ((x && true) || (y && false)) ≡ (x || false)
    equals true y = refl
    equals false true = refl
    equals false false = refl
leads_by Spot.AfterProduct a = ampersand (eqb a 61) (eqb a 38)
  where
    ampersand : (x y : Bool) → ((x && false) || (y && true)) ≡ (y || false)
    ampersand true true = refl
    ampersand true false = refl
    ampersand false true = refl
    ampersand false false = refl

-- a first byte that is known, and a second one
pub named_at_first : (n a b : ℕ) → a ≡ n → named_of (find every_kind n b) ≡ named_of (find every_kind a b)
named_at_first n a b e = ap (λ (m : ℕ). named_of (find every_kind m b)) (sym e)

pub named_at_second : (n a b : ℕ) → b ≡ n → named_of (find every_kind a n) ≡ named_of (find every_kind a b)
named_at_second n a b e = ap (λ (m : ℕ). named_of (find every_kind a m)) (sym e)

-- after = and after & a second byte names one kind or none
module _ (b : ℕ) where
  pub first_named : first_character b ≡ true → find every_kind 61 b ≡ some Kind.Donation
  first_named e = rw e

  pub equals_none : first_character b ≡ false → (b ≡ 37 → ⊥) → (b ≡ 60 → ⊥) → (b ≡ 62 → ⊥) → (b ≡ 42 → ⊥)
      → (b ≡ 125 → ⊥) → (b ≡ 92 → ⊥) → (b ≡ 40 → ⊥) → (b ≡ 123 → ⊥) → find every_kind 61 b ≡ none
  equals_none e f g h i j k l m =
      rw (e, ne_eqb b 37 f, ne_eqb b 60 g, ne_eqb b 62 h, ne_eqb b 42 i, ne_eqb b 125 j, ne_eqb b 92 k, ne_eqb b 40 l, ne_eqb b 123 m)

  pub equals_first : (t : Bool) → t ≡ first_character b → (b ≡ 37 → ⊥) → (b ≡ 60 → ⊥) → (b ≡ 62 → ⊥) → (b ≡ 42 → ⊥) → (b ≡ 125 → ⊥)
      → (b ≡ 92 → ⊥) → (b ≡ 40 → ⊥) → (b ≡ 123 → ⊥) → named_of (cond t (some Kind.Donation) none) ≡ named_of (find every_kind 61 b)
  equals_first t is f g h i j k l m =
      rw (is, ne_eqb b 37 f, ne_eqb b 60 g, ne_eqb b 62 h, ne_eqb b 42 i, ne_eqb b 125 j, ne_eqb b 92 k, ne_eqb b 40 l, ne_eqb b 123 m)

  pub ampersand_none : (b ≡ 62 → ⊥) → (b ≡ 42 → ⊥) → (b ≡ 125 → ⊥) → (b ≡ 40 → ⊥) → (b ≡ 41 → ⊥)
      → find every_kind 38 b ≡ none
  ampersand_none f g h i j = rw (ne_eqb b 62 f, ne_eqb b 42 g, ne_eqb b 125 h, ne_eqb b 40 i, ne_eqb b 41 j)

pub unknown_first : (a b : ℕ) → (a ≡ 61 → ⊥) → (a ≡ 38 → ⊥) → find every_kind a b ≡ none
unknown_first a b f g = rw (ne_eqb a 61 f, ne_eqb a 38 g)

-- the second of a pair is due there; a structure of the current edition; one more of a compound that has its donation number
abbrev pub is_second : Spot → Bool
is_second Spot.First = false
is_second Spot.First2001 = false
is_second Spot.Within = false
is_second Spot.Holding = false
is_second Spot.AfterDonation = true
is_second Spot.AfterProduct = true

abbrev pub is_current : Spot → Bool
is_current Spot.First = true
is_current Spot.First2001 = false
is_current Spot.Within = true
is_current Spot.Holding = true
is_current Spot.AfterDonation = true
is_current Spot.AfterProduct = true

abbrev pub is_holding : Spot → Bool
is_holding Spot.First = false
is_holding Spot.First2001 = false
is_holding Spot.Within = false
is_holding Spot.Holding = true
is_holding Spot.AfterDonation = false
is_holding Spot.AfterProduct = false

-- whether the kind with this number may stand there
abbrev pub stands : Spot → ℕ → Bool
stands Spot.First n = of_edition Edition.Current n
stands Spot.First2001 n = of_edition Edition.Of2001 n
stands Spot.Within n = of_edition Edition.Current n
stands Spot.Holding n = not (eqb n 1) && of_edition Edition.Current n
stands Spot.AfterDonation n = eqb n 2
stands Spot.AfterProduct n = eqb n 5

-- the same asked of a known kind, where no second of a pair is due
abbrev pub asks : Spot → Kind → Bool
asks spot Kind.Donation = not (is_holding spot)
asks spot Kind.Groups = true
asks spot Kind.Product = true
asks spot Kind.Expiry = true
asks spot Kind.ExpiryTime = true
asks spot Kind.Collection = true
asks spot Kind.CollectionTime = true
asks spot Kind.Production = true
asks spot Kind.ProductionTime = true
asks spot Kind.Testing = is_current spot
asks spot Kind.Antigens = is_current spot
asks spot Kind.Lot = is_current spot
asks spot Kind.Flexible = is_current spot
asks spot Kind.Antigens2001 = not (is_current spot)

pub asks_right : (spot : Spot) → is_second spot ≡ false → (k : Kind) → asks spot k ≡ stands spot (number_of k)
asks_right spot s k = each_among (λ (l : Kind). asks spot l ≡ stands spot (number_of l)) (each spot s) (among_every k)
  where
    each : (p : Spot) → is_second p ≡ false → Each (λ (l : Kind). asks p l ≡ stands p (number_of l)) every_kind
    each Spot.First e = (refl, (refl, (refl, (refl, (refl, (refl, (refl, (refl, (refl, (refl, (refl, (refl, (refl, (refl, tt))))))))))))))
    each Spot.First2001 e = (refl, (refl, (refl, (refl, (refl, (refl, (refl, (refl, (refl, (refl, (refl, (refl, (refl, (refl, tt))))))))))))))
    each Spot.Within e = (refl, (refl, (refl, (refl, (refl, (refl, (refl, (refl, (refl, (refl, (refl, (refl, (refl, (refl, tt))))))))))))))
    each Spot.Holding e = (refl, (refl, (refl, (refl, (refl, (refl, (refl, (refl, (refl, (refl, (refl, (refl, (refl, (refl, tt))))))))))))))
    each Spot.AfterDonation e = absurd (true≢false e)
    each Spot.AfterProduct e = absurd (true≢false e)

-- the kinds of which that is said are those that may stand there
pub stands_among : (spot : Spot) (k : Kind) → is_second spot ≡ false → stands spot (number_of k) ≡ true → Among k (kinds_at spot)
stands_among Spot.First k s e = edition_among Edition.Current k e
stands_among Spot.First2001 k s e = edition_among Edition.Of2001 k e
stands_among Spot.Within k s e = edition_among Edition.Current k e
stands_among Spot.Holding k s e =
    let (f, g) = both (not (eqb (number_of k) 1)) _ e in
    past (edition_among Edition.Current k g) (not-true (eqb (number_of k) 1) f)
  where
    past : Among k (kinds_of Edition.Current) → eqb (number_of k) 1 ≡ false → Among k other_kinds
    past (Memᴰ.head c) n = absurd (true≢false (sym (ap (λ (i : Kind). eqb (number_of i) 1) c) ∙ n))
    past (Memᴰ.tail m) n = m
stands_among Spot.AfterDonation k s e = absurd (true≢false s)
stands_among Spot.AfterProduct k s e = absurd (true≢false s)

pub among_stands : (spot : Spot) {k : Kind} → is_second spot ≡ false → Among k (kinds_at spot) → stands spot (number_of k) ≡ true
among_stands Spot.First s m = among_edition Edition.Current m
among_stands Spot.First2001 s m = among_edition Edition.Of2001 m
among_stands Spot.Within s m = among_edition Edition.Current m
among_stands Spot.Holding s m = rw (other_kind m) (among_edition Edition.Current (Memᴰ.tail m))
among_stands Spot.AfterDonation s m = absurd (true≢false s)
among_stands Spot.AfterProduct s m = absurd (true≢false s)

-- of the kinds that may stand there, the one that is named of all
module _ (spot : Spot) (s : is_second spot ≡ false) (a b : ℕ) {k : Kind} (e : find every_kind a b ≡ some k) where
  pub may_find : stands spot (number_of k) ≡ true → find (kinds_at spot) a b ≡ some k
  may_find t = find_named a b (stands_among spot k s t) (find_found a b k every_kind e).1

  pub may_not : stands spot (number_of k) ≡ false → find (kinds_at spot) a b ≡ none
  may_not t = only_other (kinds_at spot) k a b (λ m. true≢false (sym (among_stands spot s m) ∙ t)) (find_found a b k every_kind e).1

-- where nothing is named of all, nothing is
pub none_named : (spot : Spot) (a b : ℕ) → find every_kind a b ≡ none → find (kinds_at spot) a b ≡ none
none_named spot a b e = by (find (kinds_at spot) a b) refl
  where
    by : (o : Option Kind) → find (kinds_at spot) a b ≡ o → o ≡ none
    by none f = refl
    by (some k) f =
        let g = find_named a b (among_every k) (find_found a b k (kinds_at spot) f).1 in
        let z : ◌≡◌ {A = ℕ} 0 1 = cc in absurd (omega arith)

-- the kind that was named, or none
pub named_is : (o : Option Kind) (k : Kind) → named_of o ≡ Some k → o ≡ some k
named_is (some l) k e = let f : l ≡ k = cc in ap some f
named_is none k e = let z : ◌≡◌ {A = ℕ} 0 1 = cc in absurd (omega arith)

pub named_nothing : (o : Option Kind) → named_of o ≡ None → o ≡ none
named_nothing (some l) e = let z : ◌≡◌ {A = ℕ} 0 1 = cc in absurd (omega arith)
named_nothing none e = refl

-- two bytes that name one of the kinds begin it
pub found_led : (ks : List Kind) (a b : ℕ) {k : Kind} → find ks a b ≡ some k → leads ks a ≡ true
found_led [] a b e = let z : ◌≡◌ {A = ℕ} 0 1 = cc in absurd (omega arith)
found_led (l ∷ ks) a b {k} e = by (λ h. found_led ks a b h) (names l a b) refl
  where
    by : (find ks a b ≡ some k → leads ks a ≡ true) → (t : Bool) → names l a b ≡ t → leads (l ∷ ks) a ≡ true
    by others true n = rw (both (eqb a (lead l)) _ n).0
    by others false n = either_right (eqb a (lead l)) _ (others (rw n at e))

-- the first byte, and both, of the part of a scan
abbrev pub led : Spot → List ℕ → Bool
led spot s = leads (kinds_at spot) (get_or s 0 0)

abbrev pub found : Spot → List ℕ → Option Kind
found spot s = find (kinds_at spot) (get_or s 0 0) (get_or s 1 0)

-- what reading an identifier finds
abbrev pub Identifies : Spot → List ℕ → Result Kind Stop → Type 0
Identifies spot s (Ok k) = (1 < length s) × (led spot s ≡ true) × (found spot s ≡ some k)
Identifies spot s (Err Stop.Short) = (length s ≤ 1) × ((length s ≡ 0) ⊎ (led spot s ≡ true))
Identifies spot s (Err (Stop.Refused r p)) =
    ((0 < length s) × (led spot s ≡ false) × (refusal.number_of r ≡ refusal_at spot) × (p ≡ 0))
    ⊎ ((1 < length s) × (led spot s ≡ true) × (found spot s ≡ none) × (refusal.number_of r ≡ miss_of spot (get_or s 0 0) (get_or s 1 0)) × (p ≡ 1))
