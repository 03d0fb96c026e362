-- There and back, and a list's elements changed one after the other.
use Rattle.std.specs.Prelude.{ℕ, zero, suc, ◌+◌, ◌-◌, ◌≤◌, ◌<◌, ◌≡◌, refl, List, [], ◌∷◌, ◌++◌, map, length, get_or, set, take, replicate}
use Rattle.std.proofs.Common.{add-one, arith, sym, ap, ap₂, ◌∙◌, ne_eqb, append_assoc, length-set, take_all, take-suc, take-suc-set, length-take-le}
use Rattle.std.proofs.lemmas.List.{length-map, set_at}
use Rattle.std.proofs.Math.ListN.{get_or-map}
use Rattle.label.specs.declared.Structure.{Structure}
use Rattle.label.specs.declared.Form.{Form}
use Rattle.label.specs.declared.Entry.{Entry}
use Rattle.label.specs.declared.Message.{Message}
use Rattle.structure.specs.Structures.{every_kind, numbered, number_in}
use Rattle.message.specs.Grammar.{no_entry, empty_message}
use Rattle.c_values.specs.declared.CStructure.{CStructure}
use Rattle.c_values.specs.declared.CMessage.{CMessage}
use Rattle.c_values.specs.Values.{flat_of, entry_in_c, message_in_c, of_some, structure_meant, entry_meant, meant, stands_for}

-- a structure and its place and length, there and back
flat_back : (p l : ℕ) (x : Structure) → entry_meant (flat_of p l (number_in x) x) ≡ record { structure = x; place = p; length = l }
flat_back p l Structure.Empty = refl
flat_back p l (Structure.Donation d f) = refl
flat_back p l (Structure.Groups g) = refl
flat_back p l (Structure.Product x) = refl
flat_back p l (Structure.Expiry d) = refl
flat_back p l (Structure.ExpiryTime d t) = refl
flat_back p l (Structure.Collection d) = refl
flat_back p l (Structure.CollectionTime d t) = refl
flat_back p l (Structure.Production d) = refl
flat_back p l (Structure.ProductionTime d t) = refl
flat_back p l (Structure.Testing x) = refl
flat_back p l (Structure.Antigens a) = refl
flat_back p l (Structure.Lot x) = refl
flat_back p l (Structure.Flexible f d t) = refl
flat_back p l (Structure.Antigens2001 a) = refl

pub entry_back : (e : Entry) → entry_meant (entry_in_c e) ≡ e
entry_back e = flat_back e.place e.length e.structure

entries_back : (es : List Entry) → map entry_meant (map entry_in_c es) ≡ es
entries_back [] = refl
entries_back (e ∷ es) = ap₂ ◌∷◌ (entry_back e) (entries_back es)

-- a message in each form
with_back : (m : Message) (f : Form) → stands_for (message_in_c (record { entries = m.entries; count = m.count; bbb = m.bbb; form = f }))
    ≡ record { entries = m.entries; count = m.count; bbb = m.bbb; form = f }
with_back m Form.Single = rw (entries_back m.entries)
with_back m Form.Pair = rw (entries_back m.entries)
with_back m Form.Compound = rw (entries_back m.entries)

pub message_back : (m : Message) → stands_for (message_in_c m) ≡ m
message_back m = with_back m m.form

-- a C message of a form, and of none
pub formed : (m : CMessage) (n : ℕ) → m.form ≡ n → meant n m ≡ stands_for m
formed m n e = ap (λ (k : ℕ). meant k m) (sym e)

pub unformed : (m : CMessage) → (m.form ≡ 0 → ⊥) → (m.form ≡ 1 → ⊥) → (m.form ≡ 2 → ⊥) → stands_for m ≡ empty_message
unformed m a b c = rw (ne_eqb m.form 0 a, ne_eqb m.form 1 b, ne_eqb m.form 2 c)

-- a C structure of a known kind, and of none
pub known : (c : CStructure) (n : ℕ) → c.kind ≡ n → of_some (numbered every_kind n) c ≡ structure_meant c
known c n e = ap (λ (k : ℕ). of_some (numbered every_kind k) c) (sym e)

pub unknown : (c : CStructure) → (c.kind ≡ 1 → ⊥) → (c.kind ≡ 2 → ⊥) → (c.kind ≡ 3 → ⊥) → (c.kind ≡ 4 → ⊥)
    → (c.kind ≡ 5 → ⊥) → (c.kind ≡ 6 → ⊥) → (c.kind ≡ 7 → ⊥) → (c.kind ≡ 8 → ⊥) → (c.kind ≡ 9 → ⊥)
    → (c.kind ≡ 10 → ⊥) → (c.kind ≡ 12 → ⊥) → (c.kind ≡ 18 → ⊥) → (c.kind ≡ 31 → ⊥) → (c.kind ≡ 200 → ⊥)
    → Structure.Empty ≡ structure_meant c
unknown x a b c d e f g h i j k l m n =
    let t = x.kind in
    rw (
      ne_eqb t 1 a,
      ne_eqb t 2 b,
      ne_eqb t 3 c,
      ne_eqb t 4 d,
      ne_eqb t 5 e,
      ne_eqb t 6 f,
      ne_eqb t 7 g,
      ne_eqb t 8 h,
      ne_eqb t 9 i,
      ne_eqb t 10 j,
      ne_eqb t 12 k,
      ne_eqb t 18 l,
      ne_eqb t 31 m,
      ne_eqb t 200 n,
    )

-- of sixteen, those below i are another list's under f
pub record Filled {A B : Type 0} (f : A → B) (xs : List A) (ys : List B) (i : ℕ) : Type 0 where
  pub long : length ys ≡ 16
  pub within : i ≤ 16
  pub done : take i ys ≡ take i (map f xs)

-- one more
pub filled_next : {A B : Type 0} (f : A → B) (d : A) (xs : List A) (ys : List B) (i : ℕ) → length xs ≡ 16 → i < 16 → Filled f xs ys i
    → Filled f xs (set ys i (f (get_or xs i d))) (i + 1)
filled_next f d xs ys i h k r =
    let l : i < length ys = omega arith in
    let m : i < length (map f xs) = omega (arith, length-map xs f) in
    record {
      long = simp length-set r.long;
      within = omega arith;
      done = rw (add-one, take-suc-set, take-suc (map f xs) i (f d), r.done, get_or-map f xs i d);
    }

-- and all
pub filled_all : {A B : Type 0} (f : A → B) (xs : List A) (ys : List B) (i : ℕ) → length xs ≡ 16 → 16 ≤ i → Filled f xs ys i → ys ≡ map f xs
filled_all f xs ys i h k r = sym (take_all i ys (omega arith)) ∙ r.done ∙ take_all i (map f xs) (omega (arith, length-map xs f))

-- the first of sixteen entries, and empty ones
abbrev pub trim : List Entry → ℕ → List Entry
trim es n = take n es ++ replicate (16 - n) no_entry

-- past a number entries are empty
pub record Trimmed (es : List Entry) (n : ℕ) : Type 0 where
  pub within : n ≤ 16
  pub is : es ≡ trim es n

set_map : {A B : Type 0} (f : A → B) (xs : List A) (i : ℕ) (x : A) → set (map f xs) i (f x) ≡ map f (set xs i x)
set_map f [] i x = refl
set_map f (y ∷ xs) zero x = refl
set_map f (y ∷ xs) (suc i) x = ap (f y ∷◌) (set_map f xs i x)

-- one more
pub trim_next : (f : Entry → CStructure) (es : List Entry) (cs : List CStructure) (i : ℕ) → length es ≡ 16 → i < 16 → cs ≡ map f (trim es i)
    → set cs i (f (get_or es i no_entry)) ≡ map f (trim es (i + 1))
trim_next f es cs i h l e =
    let v = get_or es i no_entry in
    let rest = replicate (16 - (i + 1)) no_entry in
    let n : 16 - i ≡ suc (16 - (i + 1)) = omega arith in
    let set : set (trim es i) i v ≡ trim es (i + 1) =
    ap (λ (k : ℕ). set (take i es ++ replicate k no_entry) i v) n
    ∙ set_at (take i es) no_entry rest v i (length-take-le i es (omega arith))
    ∙ sym (append_assoc (take i es) (v ∷ []) rest)
    ∙ ap (λ (l : List Entry). l ++ rest) (sym (take-suc es i no_entry (omega arith)))
    ∙ ap (λ (k : ℕ). take k es ++ rest) (sym (add-one i)) in
    rw e (set_map f (trim es i) i v ∙ ap (map f) set)
