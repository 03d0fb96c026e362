-- The kinds by their numbers; and that of any kind but the 001 neither content nor value looks at the identifier's second byte.
use Rattle.std.specs.Prelude.{ℕ, ◌≡◌, refl, Bool, true, false, cond, List, [], ◌∷◌, map, eqb, replicate}
use Rattle.std.proofs.Common.{sym, ap, ◌∙◌, true≢false, arith, eqb-true, eq-eqb}
use mathlib.Core.List.Memᴰ
use Rattle.std.proofs.Math.Option.{some}
use Rattle.demand.specs.Numbers.{VALUE}
use Rattle.demand.specs.Laws.Content.{Position, Fits, free, shift, shift_in, shift_out}
use Rattle.text.specs.Bytes.{upper_digit, upper_lower_digit}
use Rattle.calendar.specs.Laws.Date.{date_positions}
use Rattle.calendar.specs.Laws.Stamp.{stamp_positions}
use Rattle.flexible.specs.Laws.Flexible.{flexible_positions}
use Rattle.label.specs.declared.Kind.{Kind}
use Rattle.structure.specs.Structures.{every_kind, Among, number_of, numbered}
use Rattle.structure.specs.Laws.Checked.{antigen_positions}
use Rattle.structure.specs.Laws.Donation.{decimal}
use Rattle.structure.specs.Laws.Kinds.{groups_positions, positions, make}
use Rattle.structure.specs.Laws.Product.{product_positions}

pub kind_back : (k : Kind) → numbered every_kind (number_of k) ≡ some k
kind_back Kind.Donation = refl
kind_back Kind.Groups = refl
kind_back Kind.Product = refl
kind_back Kind.Expiry = refl
kind_back Kind.ExpiryTime = refl
kind_back Kind.Collection = refl
kind_back Kind.CollectionTime = refl
kind_back Kind.Production = refl
kind_back Kind.ProductionTime = refl
kind_back Kind.Testing = refl
kind_back Kind.Antigens = refl
kind_back Kind.Lot = refl
kind_back Kind.Flexible = refl
kind_back Kind.Antigens2001 = refl

-- no two kinds have one number
one_kind : (k l : Kind) → number_of k ≡ number_of l → k ≡ l
one_kind k l e = let same = sym (kind_back k) ∙ ap (numbered every_kind) e ∙ kind_back l in cc

pub donation_kind : (k : Kind) → eqb (number_of k) 1 ≡ true → k ≡ Kind.Donation
donation_kind k e = one_kind k Kind.Donation (eqb-true (number_of k) 1 e)

-- a search by number finds the kind that has it, and no other
pub numbered_among : {k : Kind} {ks : List Kind} → Among k ks → numbered ks (number_of k) ≡ some k
numbered_among {k} (Memᴰ.head {x = l} c) = rw (← c, eq-eqb (number_of k) (number_of k) refl)
numbered_among {k} (Memᴰ.tail {x = l} {xs = ks} m) = past (eqb (number_of k) (number_of l)) refl (numbered_among m)
  where
    past : (t : Bool) → eqb (number_of k) (number_of l) ≡ t → numbered ks (number_of k) ≡ some k
        → cond t (some l) (numbered ks (number_of k)) ≡ some k
    past true e f = ap some (sym (one_kind k l (eqb-true (number_of k) (number_of l) e)))
    past false e f = f

pub numbered_found : (k : Kind) (ks : List Kind) (n : ℕ) → numbered ks n ≡ some k → Among k ks × (n ≡ number_of k)
numbered_found k [] n e = let z : ◌≡◌ {A = ℕ} 0 1 = cc in absurd (omega arith)
numbered_found k (l ∷ ks) n e = past (eqb n (number_of l)) refl e (numbered_found k ks n)
  where
    past : (t : Bool) → eqb n (number_of l) ≡ t → cond t (some l) (numbered ks n) ≡ some k
        → (numbered ks n ≡ some k → Among k ks × (n ≡ number_of k)) → Among k (l ∷ ks) × (n ≡ number_of k)
    past true f g h = let c : k ≡ l = cc in (Memᴰ.head c, eqb-true n (number_of l) f ∙ ap number_of (sym c))
    past false f g h = let (m, i) = h g in (Memᴰ.tail m, i)

-- the value is the same behind whichever byte
pub make_behind : (k : Kind) (a b : ℕ) (c : List ℕ) → eqb (number_of k) 1 ≡ false → make k (a ∷ c) ≡ make k (b ∷ c)
make_behind Kind.Donation a b c e = absurd (true≢false e)
make_behind Kind.Groups a b c e = refl
make_behind Kind.Product a b c e = refl
make_behind Kind.Expiry a b c e = refl
make_behind Kind.ExpiryTime a b c e = refl
make_behind Kind.Collection a b c e = refl
make_behind Kind.CollectionTime a b c e = refl
make_behind Kind.Production a b c e = refl
make_behind Kind.ProductionTime a b c e = refl
make_behind Kind.Testing a b c e = refl
make_behind Kind.Antigens a b c e = refl
make_behind Kind.Lot a b c e = refl
make_behind Kind.Flexible a b c e = refl
make_behind Kind.Antigens2001 a b c e = refl

-- and so is whether the content fits: its positions look past that byte
past_it : (k : Kind) → eqb (number_of k) 1 ≡ false → (πs : List Position) × (positions k ≡ map (shift 1) πs)
past_it Kind.Donation e = absurd (true≢false e)
past_it Kind.Groups e = (groups_positions, refl)
past_it Kind.Product e = (product_positions, refl)
past_it Kind.Expiry e = (date_positions, refl)
past_it Kind.ExpiryTime e = (stamp_positions, refl)
past_it Kind.Collection e = (date_positions, refl)
past_it Kind.CollectionTime e = (stamp_positions, refl)
past_it Kind.Production e = (date_positions, refl)
past_it Kind.ProductionTime e = (stamp_positions, refl)
past_it Kind.Testing e = (replicate 5 (free upper_digit VALUE), refl)
past_it Kind.Antigens e = (decimal 18, refl)
past_it Kind.Lot e = (replicate 10 (free upper_lower_digit VALUE), refl)
past_it Kind.Flexible e = (flexible_positions, refl)
past_it Kind.Antigens2001 e = (antigen_positions, refl)

pub fits_behind : (k : Kind) (a b : ℕ) {c : List ℕ} → eqb (number_of k) 1 ≡ false → Fits (positions k) (a ∷ []) c
    → Fits (positions k) (b ∷ []) c
fits_behind k a b e fs =
    let (πs, is) = past_it k e in
    rw is (shift_out (b ∷ []) (shift_in (a ∷ []) πs {p = []} (rw is at fs)))
