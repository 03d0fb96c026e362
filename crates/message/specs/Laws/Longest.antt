-- How long a structure, and so a message, can be.
use Rattle.std.specs.Prelude.{ℕ, ◌*◌, ◌≤◌, ◌≡◌, refl, true, List, [], ◌∷◌, ◌++◌, ◌⊎◌, leb, length, replicate}
use Rattle.std.proofs.Common.{inl, inr, arith, length-append, leb-true}
use Rattle.std.proofs.Math.Option.{some}
use Rattle.demand.specs.Each.{Each}
use Rattle.demand.specs.Laws.Each.{each_replicate}
use Rattle.label.specs.declared.Structure.{Structure}
use Rattle.label.specs.declared.Kind.{Kind}
use Rattle.label.specs.declared.Edition.{Edition}
use Rattle.label.specs.declared.Form.{Form}
use Rattle.label.specs.declared.Message.{Message}
use Rattle.structure.specs.Structures.{kind_of, kinds_of, Among, total_of, LawfulIn, written}
use Rattle.structure.specs.Theorems.{total_bytes}
use Rattle.structure.specs.Laws.Due.{each_among, edition_among, some_structure}
use Rattle.message.specs.Grammar.{message_of, Pairs, donation_groups, product_expiry, header, written_all, current, Produces, single, pair, compound}
use Rattle.message.specs.Grammar.{longest_of}
use Rattle.message.specs.Laws.Donations.{lawful_in, pair_in}

-- an edition's structures, of which a compound's have at most 20 bytes
abbrev most_of : Edition → ℕ
most_of Edition.Current = 20
most_of Edition.Of2001 = 21

kind_at_most : (ed : Edition) {k : Kind} → Among k (kinds_of ed) → leb (total_of k) (most_of ed) ≡ true
kind_at_most Edition.Current m =
    each_among (λ (k : Kind). leb (total_of k) 20 ≡ true)
    (refl, (refl, (refl, (refl, (refl, (refl, (refl, (refl, (refl, (refl, (refl, (refl, (refl, tt))))))))))))) m
kind_at_most Edition.Of2001 m =
    each_among (λ (k : Kind). leb (total_of k) 21 ≡ true)
    (refl, (refl, (refl, (refl, (refl, (refl, (refl, (refl, (refl, (refl, tt)))))))))) m

structure_at_most : (ed : Edition) (x : Structure) → LawfulIn ed x → length (written x) ≤ most_of ed
structure_at_most ed x h = omega (arith, total_bytes x h.is, leb-true (total_of h.kind) (most_of ed) (kind_at_most ed h.among))

structures_at_most : (xs : List Structure) → Each (LawfulIn Edition.Current) xs → length (written_all xs) ≤ 20 * length xs
structures_at_most [] hs = omega arith
structures_at_most (x ∷ xs) (h, hs) =
    omega (arith, length-append (written x) (written_all xs), structure_at_most Edition.Current x h, structures_at_most xs hs)

-- both pairs are as long
pair_length : {k l : Kind} (x y : Structure) → Pairs k l → kind_of x ≡ some k → kind_of y ≡ some l → length (written x ++ written y) ≡ 22
pair_length x y donation_groups kx ky = omega (arith, length-append (written x) (written y), total_bytes x kx, total_bytes y ky)
pair_length x y product_expiry kx ky = omega (arith, length-append (written x) (written y), total_bytes x kx, total_bytes y ky)

least : (ed : Edition) (n : ℕ) → (n ≤ most_of ed) ⊎ (n ≡ 22) → n ≤ longest_of ed
least Edition.Current n (inl h) = omega arith
least Edition.Current n (inr h) = omega arith
least Edition.Of2001 n (inl h) = omega arith
least Edition.Of2001 n (inr h) = omega arith

pub at_most : {ed : Edition} {m : Message} {s : List ℕ} → Produces ed m s → length s ≤ longest_of ed
at_most {ed} (single x h is e) = rw e (least ed (length (written x)) (inl (structure_at_most ed x h)))
at_most {ed} (pair x y h g p is e) = rw e (least ed (length (written x ++ written y)) (inr (pair_length x y p h.is g.is)))
at_most (compound current bbb xs lo hi small hs d is e) =
    rw e (omega (arith, length-append (header (length xs) bbb) (written_all xs), structures_at_most xs hs))

-- sixteen red cell antigen structures
unfoldable pub sixteen : List Structure
sixteen = replicate 16 (Structure.Antigens record { number = 0 })

pub sixteen_lawful : Each (LawfulIn Edition.Current) sixteen
unfolding sixteen
sixteen_lawful =
    each_replicate (LawfulIn Edition.Current) 16 (Structure.Antigens record { number = 0 })
    (lawful_in (omega arith) refl (edition_among Edition.Current Kind.Antigens refl))

compound_long : (m : Message) × (s : List ℕ) × Produces Edition.Current m s × (length s ≡ 327)
unfolding sixteen
compound_long = (
  message_of Form.Compound 0 sixteen,
  header 16 0 ++ written_all sixteen,
  compound current 0 sixteen (omega arith) (omega arith) (omega arith) sixteen_lawful (omega arith) refl refl,
  refl,
)

pub as_long : (ed : Edition) → (m : Message) × (s : List ℕ) × Produces ed m s × (length s ≡ longest_of ed)
as_long Edition.Current = compound_long
as_long Edition.Of2001 =
    let (x, h, kx, first) = some_structure Kind.Donation in
    let (y, g, ky, other) = some_structure Kind.Groups in (
      message_of Form.Pair 0 (x ∷ y ∷ []),
      written x ++ written y,
      pair_in Edition.Of2001 x y h g kx ky donation_groups refl refl,
      pair_length x y donation_groups kx ky,
    )
