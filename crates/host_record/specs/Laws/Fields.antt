-- What stands past a tag as one content, its length and then its data: positions, and the laws in and out, once for every kind.
use Rattle.std.specs.Prelude.{ℕ, suc, ◌/◌, ◌%◌, ◌≡◌, refl, Bool, true, false, cond, List, [], ◌∷◌, ◌++◌, map, eqb, length, drop}
use Rattle.std.proofs.Common.{sym, ap, ap₂, ◌∙◌, eqb-true, eq-eqb}
use Rattle.std.proofs.Math.Option.{some}
use Rattle.demand.specs.Each.{Each}
use Rattle.demand.specs.Numbers.{VALUE, LENGTH}
use Rattle.demand.specs.Laws.Each.{each_append, each_map}
use Rattle.demand.specs.Laws.Content.{Position, Fit, Fits, none, more, Opens, free, free_fit, free_opens, fits_join, fits_split, fits_length}
use Rattle.demand.specs.Laws.Content.{shift, shift_in, shift_out, shift_opens}
use Rattle.text.specs.Bytes.{first_character}
use Rattle.label.specs.declared.Kind.{Kind}
use Rattle.label.specs.declared.Structure.{Structure}
use Rattle.structure.specs.Structures.{kind_of, row, number_of, number_in, sets, refusals, body, Lawful, content, written}
use Rattle.structure.specs.Laws.Kinds.{number_or, second, positions, Tabled, positions_table, make, kinds_open, Reads, structure_in, structure_out, spelled}
use Rattle.structure.specs.Laws.Due.{a_second}
use Rattle.structure.specs.Laws.Numbered.{donation_kind, make_behind, fits_behind}
use Rattle.host_record.specs.Record.{field_of}
use Rattle.host_record.specs.Refusals.{any_byte, field_sets, field_refusals}

-- a length byte that is one alone
abbrev pub exactly : ℕ → Position
exactly n = record { set = any_byte; rule = λ p b. eqb b n; refusal = LENGTH }

-- the length of n bytes, high byte first
abbrev pub lengths : ℕ → List Position
lengths n = exactly (n / 256) ∷ exactly (n % 256) ∷ []

abbrev pub length_bytes : ℕ → List ℕ
length_bytes n = n / 256 ∷ n % 256 ∷ []

-- an 001's data begins with its first character, any other kind's is its content
abbrev pub data_positions : Kind → List Position
data_positions k = cond (eqb (number_of k) 1) (free first_character VALUE ∷ positions k) (positions k)

-- the bytes past the tag that no position of the data looks at, by the kind's number: but in an 001 the length's low byte stands for the
-- identifier's second
abbrev pub skip : ℕ → ℕ
skip number = cond (eqb number 1) 2 1

abbrev pub field_positions : Kind → List Position
field_positions k = lengths (length (data_positions k)) ++ map (shift (skip (number_of k))) (data_positions k)

-- the structure that the bytes past a tag stand for
abbrev pub make_field : Kind → List ℕ → Structure
make_field k c = make k (drop (skip (number_of k)) c)

-- exactly one byte fits
exact : {n : ℕ} {p : List ℕ} → Fit (exactly n) p n
exact {n} = record { inside = refl; lawful = eq-eqb n n refl }

pub lengths_out : (n : ℕ) → Fits (lengths n) [] (length_bytes n)
lengths_out n = more exact (more exact none)

pub lengths_in : (n : ℕ) {l : List ℕ} → Fits (lengths n) [] l → l ≡ length_bytes n
lengths_in n (more {b = a} f (more {b = b} g none)) =
    ap₂ (λ (i j : ℕ). i ∷ j ∷ []) (eqb-true a (n / 256) f.lawful) (eqb-true b (n % 256) g.lawful)

lengths_open : (n : ℕ) → Each Opens (lengths n)
lengths_open n = ((λ p. (n / 256, exact)), ((λ p. (n % 256, exact)), tt))

-- no fitting beginning is a dead end, whatever positions stand behind the length
pub behind_open : (n m : ℕ) (πs : List Position) → Each Opens πs → Each Opens (lengths n ++ map (shift m) πs)
behind_open n m πs os = each_append Opens (lengths n) (map (shift m) πs) (lengths_open n) (each_map Opens (shift m) (shift_opens m) πs os)

pub field_open : (k : Kind) → Each Opens (field_positions k)
field_open k = behind_open (length (data_positions k)) (skip (number_of k)) (data_positions k) (by (eqb (number_of k) 1))
  where
    by : (t : Bool) → Each Opens (cond t (free first_character VALUE ∷ positions k) (positions k))
    by true = (free_opens first_character VALUE 65 refl, kinds_open k)
    by false = kinds_open k

-- the tables say the same of positions that look past some bytes
shifted_table : (n : ℕ) (πs : List Position) {τs : List (ℕ → Bool)} {νs : List ℕ} → Tabled πs τs νs → Tabled (map (shift n) πs) τs νs
shifted_table n πs h = record { by_sets = same_sets πs ∙ h.by_sets; by_numbers = same_numbers πs ∙ h.by_numbers }
  where
    same_sets : (πs : List Position) → map (λ (π : Position). π.set) (map (shift n) πs) ≡ map (λ (π : Position). π.set) πs
    same_sets [] = refl
    same_sets (π ∷ πs) = ap (π.set ∷◌) (same_sets πs)

    same_numbers : (πs : List Position) → map (λ (π : Position). π.refusal) (map (shift n) πs) ≡ map (λ (π : Position). π.refusal) πs
    same_numbers [] = refl
    same_numbers (π ∷ πs) = ap (π.refusal ∷◌) (same_numbers πs)

pub behind_table : (n m : ℕ) (πs : List Position) {τs : List (ℕ → Bool)} {νs : List ℕ} → Tabled πs τs νs
    → Tabled (lengths n ++ map (shift m) πs) (any_byte ∷ any_byte ∷ τs) (LENGTH ∷ LENGTH ∷ νs)
behind_table n m πs h =
    let s = shifted_table m πs h in
    record {
      by_sets = ap (λ (l : List (ℕ → Bool)). any_byte ∷ any_byte ∷ l) s.by_sets;
      by_numbers = ap (λ (l : List ℕ). LENGTH ∷ LENGTH ∷ l) s.by_numbers;
    }

-- the table's content, by the two bytes of an identifier
pub content_is : (k : Kind) → ((row k).content ≡ cond (eqb (number_of k) 1) (first_character ∷ sets k) (sets k))
    × ((row k).refusals ≡ cond (eqb (number_of k) 1) (VALUE ∷ refusals k) (refusals k))
content_is Kind.Donation = (refl, refl)
content_is Kind.Groups = (refl, refl)
content_is Kind.Product = (refl, refl)
content_is Kind.Expiry = (refl, refl)
content_is Kind.ExpiryTime = (refl, refl)
content_is Kind.Collection = (refl, refl)
content_is Kind.CollectionTime = (refl, refl)
content_is Kind.Production = (refl, refl)
content_is Kind.ProductionTime = (refl, refl)
content_is Kind.Testing = (refl, refl)
content_is Kind.Antigens = (refl, refl)
content_is Kind.Lot = (refl, refl)
content_is Kind.Flexible = (refl, refl)
content_is Kind.Antigens2001 = (refl, refl)

pub field_table : (k : Kind) → Tabled (field_positions k) (field_sets k) (field_refusals k)
field_table k =
    let (contents, numbers) = content_is k in
    rw (contents, numbers) (behind_table (length (data_positions k)) (skip (number_of k)) (data_positions k) (by (eqb (number_of k) 1)))
  where
    by : (t : Bool) → Tabled (cond t (free first_character VALUE ∷ positions k) (positions k)) (cond t (first_character ∷ sets k) (sets k))
        (cond t (VALUE ∷ refusals k) (refusals k))
    by true =
        let h = positions_table k in
        record { by_sets = ap (first_character ∷◌) h.by_sets; by_numbers = ap (VALUE ∷◌) h.by_numbers }
    by false = positions_table k

-- d is the data of the structure x of kind k
pub record Data (k : Kind) (d : List ℕ) (x : Structure) : Type 0 where
  pub lawful : Lawful x
  pub kind : kind_of x ≡ some k
  pub holds : body x ≡ d
  pub long : length d ≡ length (data_positions k)
  pub fits : (a b : ℕ) → Fits (map (shift (skip (number_of k))) (data_positions k)) (a ∷ b ∷ []) d
  pub made : (a b : ℕ) → make k (drop (skip (number_of k)) (a ∷ b ∷ d)) ≡ x

-- c is the bytes past the tag of the structure x of kind k
pub record Field (k : Kind) (c : List ℕ) (x : Structure) : Type 0 where
  pub lawful : Lawful x
  pub kind : kind_of x ≡ some k
  pub is : field_of x ≡ number_of k ∷ c
  pub fits : Fits (field_positions k) [] c
  pub made : make_field k c ≡ x

-- a structure's data, by the two bytes of its identifier
pub data_is : (x : Structure) → body x ≡ cond (eqb (number_in x) 1) (drop 1 (written x)) (content x)
data_is Structure.Empty = refl
data_is (Structure.Donation d f) = refl
data_is (Structure.Groups g) = refl
data_is (Structure.Product p) = refl
data_is (Structure.Expiry d) = refl
data_is (Structure.ExpiryTime d t) = refl
data_is (Structure.Collection d) = refl
data_is (Structure.CollectionTime d t) = refl
data_is (Structure.Production d) = refl
data_is (Structure.ProductionTime d t) = refl
data_is (Structure.Testing t) = refl
data_is (Structure.Antigens a) = refl
data_is (Structure.Lot l) = refl
data_is (Structure.Flexible f d t) = refl
data_is (Structure.Antigens2001 a) = refl

module _ {k : Kind} {b : ℕ} {c : List ℕ} {x : Structure} (r : Reads k b c x) where
  data_at : (t : Bool) → eqb (number_of k) 1 ≡ t → body x ≡ cond t (b ∷ c) c
  data_at t e =
      data_is x
      ∙ ap (λ (n : ℕ). cond (eqb n 1) (drop 1 (written x)) (content x)) (ap number_or r.kind)
      ∙ ap (λ (u : Bool). cond u (drop 1 (written x)) (content x)) e
      ∙ ap₂ (λ (i c : List ℕ). cond t (drop 1 i) c) (spelled r) r.body

  read_data : (t : Bool) → eqb (number_of k) 1 ≡ t → Data k (cond t (b ∷ c) c) x
  read_data true e =
      let is : k ≡ Kind.Donation = donation_kind k e in
      let first : first_character b ≡ true = ap (λ (l : Kind). second l b) (sym is) ∙ r.marked in
      record {
        lawful = r.lawful;
        kind = r.kind;
        holds = data_at true e;
        long = rw e (ap suc (fits_length r.fits));
        fits = λ i j. rw e (shift_out (i ∷ j ∷ []) (more (free_fit first) r.fits));
        made = λ i j. rw e r.made;
      }
  read_data false e =
      record {
        lawful = r.lawful;
        kind = r.kind;
        holds = data_at false e;
        long = rw e (fits_length r.fits);
        fits = λ i j. rw e (shift_out (i ∷ []) (fits_behind k b j e r.fits));
        made = λ i j. rw e (make_behind k j b c e ∙ r.made);
      }

-- data behind its length
data_field : {k : Kind} {d : List ℕ} {x : Structure} → Data k d x → Field k (length_bytes (length (data_positions k)) ++ d) x
data_field {k} {d} {x} h =
    let n = length (data_positions k) in
    record {
      lawful = h.lawful;
      kind = h.kind;
      is = ap₂ (λ (t : ℕ) (l : List ℕ). t ∷ (length_bytes (length l) ++ l)) (ap number_or h.kind) h.holds
          ∙ ap (λ (m : ℕ). number_of k ∷ (length_bytes m ++ d)) h.long;
      fits = fits_join (lengths_out n) (h.fits (n / 256) (n % 256));
      made = h.made (n / 256) (n % 256);
    }

-- a lawful structure's field fits and gives it back
pub field_out : (x : Structure) → Lawful x → (k : Kind) × (c : List ℕ) × Field k c x
field_out x h = let (k, b, r) = structure_out x h in (k, _, data_field (read_data r (eqb (number_of k) 1) refl))

-- fitting data is that of one lawful structure
data_in : (k : Kind) (t : Bool) → eqb (number_of k) 1 ≡ t → (a b : ℕ) (d : List ℕ)
    → Fits (map (shift (skip (number_of k))) (data_positions k)) (a ∷ b ∷ []) d
    → (x : Structure) × Data k d x
data_in k true e a b d fs = by (shift_in (a ∷ b ∷ []) (free first_character VALUE ∷ positions k) {p = []} (rw e at fs))
  where
    by : {d : List ℕ} → Fits (free first_character VALUE ∷ positions k) [] d → (x : Structure) × Data k d x
    by (more {b = first} {c = c} f gs) =
        let marked : second k first ≡ true = ap (λ (l : Kind). second l first) (donation_kind k e) ∙ f.inside in
        (make k (first ∷ c), read_data (structure_in k first c marked gs) true e)
data_in k false e a b d fs =
    let (m, marked) = a_second k in
    let gs : Fits (positions k) (m ∷ []) d = fits_behind k b m e (shift_in (a ∷ []) (positions k) {p = b ∷ []} (rw e at fs)) in
    (make k (m ∷ d), read_data (structure_in k m d marked gs) false e)

-- what fits past a tag is the field of one lawful structure, the one that is made of it
pub field_in : (k : Kind) (c : List ℕ) → Fits (field_positions k) [] c → Field k c (make_field k c)
field_in k c fs =
    let n = length (data_positions k) in
    let parts = fits_split (lengths n) fs in
    let l : parts.left ≡ length_bytes n = lengths_in n parts.left_fits in
    let (x, h) = data_in k (eqb (number_of k) 1) refl (n / 256) (n % 256) parts.right (rw l at parts.right_fits) in
    let whole : length_bytes n ++ parts.right ≡ c = ap (◌++ parts.right) (sym l) ∙ sym parts.whole in
    let f : Field k c x = rw whole at (data_field h) in
    rw f.made f
