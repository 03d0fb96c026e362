-- SHAPE as a test: which form, number, bbb and kinds a message of the grammar has, and what it is then written as.
use Rattle.std.specs.Prelude.{ℕ, zero, suc, ◌+◌, ◌≤◌, ◌<◌, ◌≡◌, refl, Bool, true, false, ◌&&◌, ◌||◌, List, [], ◌∷◌, ◌++◌, map, ◌⊎◌, eqb, leb, length, get_or}
use Rattle.std.proofs.Common.{sym, ap, ap₂, ◌∙◌, subst, true≢false, append-nil, inl, inr, arith, eqb-true, eq-eqb}
use Rattle.std.proofs.Math.Option.{Option, some, none, some-injective, none-ne-some}
use Rattle.std.proofs.lemmas.List.{length-map}
use Rattle.demand.specs.Each.{Each}
use Rattle.text.specs.Laws.Bytes.{either, either_right}
use Rattle.text.specs.Decides.{Decides}
use Rattle.text.specs.Laws.Decides.{decides_both, decides_either, decides_as, decides_same, decides_no, decides_most}
use Rattle.label.specs.declared.Structure.{Structure}
use Rattle.label.specs.declared.Kind.{Kind}
use Rattle.label.specs.declared.Edition.{Edition}
use Rattle.label.specs.declared.Form.{Form}
use Rattle.label.specs.declared.Entry.{Entry}
use Rattle.label.specs.declared.Message.{Message}
use Rattle.structure.specs.Structures.{kind_of, kinds_of, Among, number_of, Lawful, LawfulIn, written, every_kind}
use Rattle.structure.specs.Laws.Kinds.{number_or, number_in, structure_out}
use Rattle.structure.specs.Laws.Numbered.{kind_back}
use Rattle.structure.specs.Structures as kinds
use Rattle.structure.specs.Laws.Due.{some_structure, of_edition, edition_among, among_edition}
use Rattle.message.specs.Grammar.{message_of, Pairs, donation_groups, product_expiry, header, donation_in, donations, written_all}
use Rattle.message.specs.Grammar.{HasCompounds, current, Produces, single, pair, compound}
use Rattle.message.specs.Writing.{structure_at, LawfulBbb, of_compound, of_other, Shapely, structures_of, cleared}
use Rattle.message.specs.Laws.Write.{at_places, given_lawful, shapely_number, count_is, kept_at, text_by, text_of}
use Rattle.message.specs.Laws.Donations.{pairs_in, lawful_in, pair_in}
use Rattle.message.specs.Laws.Editions.{no_compounds}
use Rattle.message_writer.specs.Laws.Writer.{within, entry_at}

-- a number is that of one kind
abbrev kind_at : ℕ → Option Kind
kind_at n = kinds.numbered every_kind n

-- a place that is empty or holds a structure of one kind
abbrev pub Seat : Kind → Structure → Type 0
Seat k x = (j : Kind) → kind_of x ≡ some j → j ≡ k

number_back : (o : Option Kind) → kind_at (number_or o) ≡ o
number_back none = refl
number_back (some k) = kind_back k

abbrev pub seat_test : ℕ → ℕ → Bool
seat_test n k = eqb n 0 || eqb n k

seat_passed : (k : Kind) (o : Option Kind) → (number_or o ≡ 0) ⊎ (number_or o ≡ number_of k) → (j : Kind) → o ≡ some j → j ≡ k
seat_passed k o (inl e) j is = absurd (none-ne-some j (sym (ap kind_at e) ∙ number_back o ∙ is))
seat_passed k o (inr e) j is = some-injective j k (sym is ∙ sym (number_back o) ∙ ap kind_at e ∙ kind_back k)

seat_passes : (k : Kind) (o : Option Kind) → ((j : Kind) → o ≡ some j → j ≡ k) → seat_test (number_or o) (number_of k) ≡ true
seat_passes k none h = refl
seat_passes k (some j) h = either_right (eqb (number_of j) 0) (eqb (number_of j) (number_of k)) (eq-eqb (number_of j) (number_of k) (ap number_of (h j refl)))

pub seat_tells : (k : Kind) (x : Structure) → Decides (seat_test (number_in x) (number_of k)) (Seat k x)
seat_tells k x =
    let n = number_in x in
    record {
      passed = λ e. seat_passed k (kind_of x) (numbered n (number_of k) (either (eqb n 0) (eqb n (number_of k)) e));
      passes = λ h. seat_passes k (kind_of x) h;
    }
  where
    numbered : (n k : ℕ) → (eqb n 0 ≡ true) ⊎ (eqb n k ≡ true) → (n ≡ 0) ⊎ (n ≡ k)
    numbered n k (inl e) = inl (eqb-true n 0 e)
    numbered n k (inr e) = inr (eqb-true n k e)

-- a place that is empty or holds a structure of one of the edition's kinds
abbrev pub SeatIn : Edition → Structure → Type 0
SeatIn ed x = (j : Kind) → kind_of x ≡ some j → Among j (kinds_of ed)

pub seat_in_tells : (ed : Edition) (x : Structure) → Decides (of_edition ed (number_in x)) (SeatIn ed x)
seat_in_tells ed x =
    record { passed = λ e j is. edition_among ed j (ap (λ (o : Option Kind). of_edition ed (number_or o)) (sym is) ∙ e); passes = passes ed (kind_of x) }
  where
    passes : (ed : Edition) (o : Option Kind) → ((j : Kind) → o ≡ some j → Among j (kinds_of ed)) → of_edition ed (number_or o) ≡ true
    passes Edition.Current none h = refl
    passes Edition.Of2001 none h = refl
    passes ed (some k) h = among_edition ed (h k refl)

-- so are all within the number
abbrev pub SeatsIn : Edition → List Entry → ℕ → Type 0
SeatsIn ed es n = (i : ℕ) → i < n → SeatIn ed (entry_at es i)

-- the entries of a compound: at most one 001, and the edition's kinds
abbrev pub FewOf : Edition → List Entry → ℕ → Type 0
FewOf ed es n = (donations (within es n) ≤ 1) × SeatsIn ed es n

-- the two places of a pair
abbrev pub MayPair : Structure → Structure → Type 0
MayPair x y = (Seat Kind.Donation x × Seat Kind.Groups y) ⊎ (Seat Kind.Product x × Seat Kind.ExpiryTime y)

pub pair_tells : (x y : Structure)
    → Decides ((seat_test (number_in x) 1 && seat_test (number_in y) 2) || (seat_test (number_in x) 3 && seat_test (number_in y) 5)) (MayPair x y)
pair_tells x y =
    decides_either (decides_both (seat_tells Kind.Donation x) (seat_tells Kind.Groups y))
    (decides_both (seat_tells Kind.Product x) (seat_tells Kind.ExpiryTime y))

-- the bbb of a form
abbrev pub Bbb : Form → ℕ → Type 0
Bbb Form.Single bbb = bbb ≡ 0
Bbb Form.Pair bbb = bbb ≡ 0
Bbb Form.Compound bbb = bbb ≤ 999

-- number, and the first two structures, of a form
abbrev pub Shaped : Edition → Form → ℕ → Structure → Structure → Type 0
Shaped ed Form.Single number x y = (number ≡ 1) × SeatIn ed x
Shaped ed Form.Pair number x y = (number ≡ 2) × MayPair x y
Shaped ed Form.Compound number x y = (1 ≤ number) × (number ≤ 16)

-- an edition with compounds, and their entries
abbrev pub Few : Edition → Form → Message → Type 0
Few ed Form.Single m = Unit
Few ed Form.Pair m = Unit
Few ed Form.Compound m = HasCompounds ed × FewOf ed m.entries m.count

abbrev pub ShapedMessage : Edition → Form → Message → Type 0
ShapedMessage ed form m = (Shaped ed form m.count (structure_at m 0) (structure_at m 1) × Bbb form m.bbb) × Few ed form m

-- a structure of the same kind, if there is a kind
pub record Alike (o : Option Kind) : Type 0 where
  pub structure : Structure
  pub kind : (k : Kind) → o ≡ some k → kind_of structure ≡ some k
  pub donation : donation_in (kind_of structure) ≡ donation_in o

alike : (o : Option Kind) → Alike o
alike none =
    let y = some_structure Kind.Groups in
    record { structure = y.0; kind = λ k e. absurd (none-ne-some k e); donation = ap donation_in y.2 }
alike (some j) = let y = some_structure j in record { structure = y.0; kind = λ k e. y.2 ∙ e; donation = ap donation_in y.2 }

-- of the edition's kinds, if that kind is
alike_in : (ed : Edition) (o : Option Kind) → ((j : Kind) → o ≡ some j → Among j (kinds_of ed)) → LawfulIn ed (alike o).structure
unfolding alike
alike_in ed none h = let y = some_structure Kind.Groups in lawful_in y.1 y.2 (pairs_in ed donation_groups).1
alike_in ed (some j) h = let y = some_structure j in lawful_in y.1 y.2 (h j refl)

abbrev stand_in : Structure → Structure
stand_in x = (alike (kind_of x)).structure

-- each of a list by its indices
each_by : (P : Structure → Type 0) (xs : List Structure) → ((i : ℕ) → i < length xs → P (get_or xs i Structure.Empty)) → Each P xs
each_by P [] h = tt
each_by P (x ∷ xs) h = (h 0 (omega arith), each_by P xs (λ i l. h (suc i) (omega arith)))

stand_ins_in : (ed : Edition) (xs : List Structure) → Each (SeatIn ed) xs → Each (LawfulIn ed) (map stand_in xs)
stand_ins_in ed [] hs = tt
stand_ins_in ed (x ∷ xs) (h, hs) = (alike_in ed (kind_of x) h, stand_ins_in ed xs hs)

-- as many 001s
stand_ins_donations : (xs : List Structure) → donations (map stand_in xs) ≡ donations xs
stand_ins_donations [] = refl
stand_ins_donations (x ∷ xs) = ap₂ ◌+◌ (alike (kind_of x)).donation (stand_ins_donations xs)

stand_in_at : (xs : List Structure) (i : ℕ) (k : Kind) → i < length xs → kind_of (get_or xs i Structure.Empty) ≡ some k
    → kind_of (get_or (map stand_in xs) i Structure.Empty) ≡ some k
stand_in_at [] i k l e = absurd (omega arith)
stand_in_at (x ∷ xs) zero k l e = (alike (kind_of x)).kind k e
stand_in_at (x ∷ xs) (suc i) k l e = stand_in_at xs i k (omega arith) e

bbb_out : (m : Message) → LawfulBbb m → (form : Form) → m.form ≡ form → Bbb form m.bbb
bbb_out m (of_compound e h) form told = subst (λ (f : Form). Bbb f m.bbb) (sym e ∙ told) h
bbb_out m (of_other e) Form.Single told = e
bbb_out m (of_other e) Form.Pair told = e
bbb_out m (of_other e) Form.Compound told = omega arith

-- a property of the first two indices
below_two : (P : ℕ → Type 0) → P 0 → P 1 → (i : ℕ) → i < 2 → P i
below_two P x y zero l = x
below_two P x y (suc zero) l = y
below_two P x y (suc (suc i)) l = absurd (omega arith)

module _ (ed : Edition) (m : Message) (sixteen : length m.entries ≡ 16) where
  abbrev AsIn : Message → ℕ → Type 0
  AsIn g i = (k : Kind) → kind_of (structure_at m i) ≡ some k → kind_of (structure_at g i) ≡ some k

  listed : m.count ≤ 16 → (i : ℕ) → i < m.count → structure_at m i ≡ get_or (structures_of m) i Structure.Empty
  listed few i l = sym (kept_at m sixteen few i l) ∙ at_places _ (structures_of m) i (omega (arith, count_is m sixteen few))

  -- each structure within the number by its index
  each_within : (P : Structure → Type 0) → m.count ≤ 16 → ((i : ℕ) → i < m.count → P (structure_at m i)) → Each P (structures_of m)
  each_within P few h =
      let long = count_is m sixteen few in
      each_by P (structures_of m) (λ i l. let l' : i < m.count = omega arith in subst P (listed few i l') (h i l'))

  single_in : m.form ≡ Form.Single → m.count ≡ 1 → SeatIn ed (structure_at m 0) → m.bbb ≡ 0 → Shapely ed m
  single_in form number seat bbb =
      let y = alike (kind_of (structure_at m 0)) in
      let model = message_of Form.Single 0 (y.structure ∷ []) in
      record {
        model = model;
        text = written y.structure;
        produced = single y.structure (alike_in ed (kind_of (structure_at m 0)) seat) refl refl;
        same = record { form = form; count = number; kinds = λ i k l e. let z : 0 ≡ i = omega arith in subst (AsIn model) z y.kind k e };
        bbb = of_other bbb;
      }

  -- a seat of a kind, filled with a structure of that kind
  seated : (k : Kind) (x y : Structure) → Seat k x → kind_of y ≡ some k → (j : Kind) → kind_of x ≡ some j → kind_of y ≡ some j
  seated k x y h e j is = e ∙ ap some (sym (h j is))

  pair_of : {k l : Kind} → Pairs k l → m.form ≡ Form.Pair → m.count ≡ 2 → m.bbb ≡ 0 → Seat k (structure_at m 0)
      → Seat l (structure_at m 1) → Shapely ed m
  pair_of {k} {l} may form number bbb hx hy =
      let x = some_structure k in
      let y = some_structure l in
      let model = message_of Form.Pair 0 (x.0 ∷ y.0 ∷ []) in
      let first : AsIn model 0 = seated k (structure_at m 0) x.0 hx x.2 in
      let other : AsIn model 1 = seated l (structure_at m 1) y.0 hy y.2 in
      record {
        model = model;
        text = written x.0 ++ written y.0;
        produced = pair_in ed x.0 y.0 x.1 y.1 x.2 y.2 may refl refl;
        same = record { form = form; count = number; kinds = λ i k l e. below_two (AsIn model) first other i (omega arith) k e };
        bbb = of_other bbb;
      }

  compound_in : m.form ≡ Form.Compound → 1 ≤ m.count → m.count ≤ 16 → m.bbb ≤ 999 → HasCompounds ed
      → FewOf ed m.entries m.count → Shapely ed m
  compound_in form lo few small has (one, seats) =
      let xs = structures_of m in
      let ys = map stand_in xs in
      let long : length xs ≡ m.count = count_is m sixteen few in
      let as_long : length ys ≡ length xs = length-map xs stand_in in
      let model = message_of Form.Compound m.bbb ys in
      let kinds : (i : ℕ) (k : Kind) → i < m.count → kind_of (structure_at m i) ≡ some k → kind_of (structure_at model i) ≡ some k =
      λ i k l e. ap kind_of (at_places _ ys i (omega arith)) ∙ stand_in_at xs i k (omega arith) (ap kind_of (sym (listed few i l)) ∙ e)
      in
      record {
        model = model;
        text = header (length ys) m.bbb ++ written_all ys;
        produced = compound has m.bbb ys (omega arith) (omega arith) small (stand_ins_in ed xs (each_within (SeatIn ed) few seats))
            (rw (stand_ins_donations xs) one) refl refl;
        same = record { form = form; count = sym (as_long ∙ long); kinds = kinds };
        bbb = of_compound form small;
      }

  pub shaped_in : (form : Form) → m.form ≡ form → ShapedMessage ed form m → Shapely ed m
  shaped_in Form.Single told (((number, seat), bbb), few) = single_in told number seat bbb
  shaped_in Form.Pair told (((number, inl h), bbb), few) = pair_of donation_groups told number bbb h.0 h.1
  shaped_in Form.Pair told (((number, inr h), bbb), few) = pair_of product_expiry told number bbb h.0 h.1
  shaped_in Form.Compound told (((lo, hi), bbb), (has, few)) = compound_in told lo hi bbb has few

-- the seats of a pair of the grammar
pair_seats : {k l : Kind} (x y : Structure) → Pairs k l → Seat k x → Seat l y → MayPair x y
pair_seats x y donation_groups f g = inl (f, g)
pair_seats x y product_expiry f g = inr (f, g)

-- no more 001s where each kind is that of the other's structure
fewer : (xs ys : List Structure) → length xs ≡ length ys
    → ((i : ℕ) (k : Kind) → i < length xs → kind_of (get_or xs i Structure.Empty) ≡ some k → kind_of (get_or ys i Structure.Empty) ≡ some k)
    → donations xs ≤ donations ys
fewer [] ys e h = omega arith
fewer (x ∷ xs) [] e h = absurd (omega arith)
fewer (x ∷ xs) (y ∷ ys) e h =
    let rest = fewer xs ys (omega arith) (λ i k l. h (suc i) k (omega arith)) in
    omega (arith, one (kind_of x) (kind_of y) (λ k. h 0 k (omega arith)))
  where
    one : (o p : Option Kind) → ((k : Kind) → o ≡ some k → p ≡ some k) → donation_in o ≤ donation_in p
    one none p h = omega arith
    one (some k) p h = let e : donation_in p ≡ donation_in (some k) = ap donation_in (h k refl) in omega arith

module _ (ed : Edition) (m : Message) (h : Shapely ed m) where
  form_is : {form : Form} → h.model.form ≡ form → m.form ≡ form
  form_is e = h.same.form ∙ e

  number_is : {n : ℕ} → h.model.count ≡ n → m.count ≡ n
  number_is e = h.same.count ∙ e

  -- where the model has a structure of a kind, the message has a seat for it
  seat : (i : ℕ) (k : Kind) → i < m.count → kind_of (structure_at h.model i) ≡ some k → Seat k (structure_at m i)
  seat i k l e j is = some-injective j k (sym (h.same.kinds i j l is) ∙ e)

  -- and its kinds are the edition's
  pub seats_in : SeatsIn ed m.entries m.count
  seats_in i l j is =
      let inside : i < h.model.count = omega (arith, h.same.count) in
      let x = structure_at h.model i in
      let g = given_lawful {ed = ed} x
      record { model = h.model; text = h.text; produced = h.produced; index = i; inside = inside; there = refl } in
      subst (λ (k : Kind). Among k (kinds_of ed)) (some-injective g.kind j (sym g.is ∙ h.same.kinds i j l is)) g.among

  pub lawful_within : (i : ℕ) → i < m.count → Lawful (structure_at m i) → LawfulIn ed (structure_at m i)
  lawful_within i l g = let (k, b, r) = structure_out (structure_at m i) g in lawful_in g r.kind (seats_in i l k r.kind)

  shape_of_model : {s : List ℕ} → Produces ed h.model s → Shaped ed m.form m.count (structure_at m 0) (structure_at m 1)
  shape_of_model (single x l is e) =
      let told : m.form ≡ Form.Single = form_is (ap (λ (g : Message). g.form) is) in
      let number : m.count ≡ 1 = number_is (ap (λ (g : Message). g.count) is) in
      subst (λ (f : Form). Shaped ed f m.count (structure_at m 0) (structure_at m 1)) (sym told) (number, seats_in 0 (omega arith))
  shape_of_model (pair x y hx hy may is e) =
      let told : m.form ≡ Form.Pair = form_is (ap (λ (g : Message). g.form) is) in
      let number : m.count ≡ 2 = number_is (ap (λ (g : Message). g.count) is) in
      let first = seat 0 hx.kind (omega arith) (ap (λ (g : Message). kind_of (structure_at g 0)) is ∙ hx.is) in
      let other = seat 1 hy.kind (omega arith) (ap (λ (g : Message). kind_of (structure_at g 1)) is ∙ hy.is) in
      subst (λ (f : Form). Shaped ed f m.count (structure_at m 0) (structure_at m 1)) (sym told)
      (number, pair_seats (structure_at m 0) (structure_at m 1) may first other)
  shape_of_model (compound c bbb xs lo hi small hs d is e) =
      let told : m.form ≡ Form.Compound = form_is (ap (λ (g : Message). g.form) is) in
      let number : m.count ≡ length xs = number_is (ap (λ (g : Message). g.count) is) in
      subst (λ (f : Form). Shaped ed f m.count (structure_at m 0) (structure_at m 1)) (sym told) (omega arith, omega arith)

  few_of_model : {s : List ℕ} → length m.entries ≡ 16 → Produces ed h.model s → Few ed m.form m
  few_of_model sixteen (single x l is e) =
      let told : m.form ≡ Form.Single = form_is (ap (λ (g : Message). g.form) is) in
      subst (λ (f : Form). Few ed f m) (sym told) tt
  few_of_model sixteen (pair x y hx hy may is e) =
      let told : m.form ≡ Form.Pair = form_is (ap (λ (g : Message). g.form) is) in
      subst (λ (f : Form). Few ed f m) (sym told) tt
  few_of_model sixteen (compound c bbb xs lo hi small hs d is e) =
      let told : m.form ≡ Form.Compound = form_is (ap (λ (g : Message). g.form) is) in
      let number : m.count ≡ length xs = number_is (ap (λ (g : Message). g.count) is) in
      let few = shapely_number m h in
      let long : length (structures_of m) ≡ m.count = count_is m sixteen few in
      let kinds : (i : ℕ) (k : Kind) → i < length (structures_of m) → kind_of (get_or (structures_of m) i Structure.Empty) ≡ some k
      → kind_of (get_or xs i Structure.Empty) ≡ some k =
      λ i k l e. let l' : i < m.count = omega arith in
      sym (ap (λ (g : Message). kind_of (structure_at g i)) is ∙ ap kind_of (at_places _ xs i (omega arith)))
      ∙ h.same.kinds i k l' (ap kind_of (listed ed m sixteen few i l') ∙ e)
      in
      subst (λ (f : Form). Few ed f m) (sym told) (c, (omega (arith, fewer (structures_of m) xs (omega arith) kinds), seats_in))

  pub shaped_out : length m.entries ≡ 16 → (form : Form) → m.form ≡ form → ShapedMessage ed form m
  shaped_out sixteen form told = (
    (
      subst (λ (f : Form). Shaped ed f m.count (structure_at m 0) (structure_at m 1)) told (shape_of_model h.produced),
      bbb_out m h.bbb form told,
    ),
    subst (λ (f : Form). Few ed f m) told (few_of_model sixteen h.produced),
  )

-- a test of what a form asks for tells SHAPE
pub shape_tells : {ed : Edition} {m : Message} {form : Form} {t : Bool} → length m.entries ≡ 16 → m.form ≡ form
    → Decides t (ShapedMessage ed form m) → Decides t (Shapely ed m)
shape_tells {ed} {m} {form} sixteen told x = decides_as x (shaped_in ed m sixteen form told) (λ h. shaped_out ed m h sixteen form told)

-- what a compound asks for, in two tests: of number and bbb, and of its 001s
pub compound_tells : (m : Message) → Decides ((leb 1 m.count && leb m.count 16) && leb m.bbb 999)
    (((1 ≤ m.count) × (m.count ≤ 16)) × (m.bbb ≤ 999))
compound_tells m = decides_both (decides_both (decides_most 1 m.count) (decides_most m.count 16)) (decides_most m.bbb 999)

module _ (m : Message) where
  pub not_few : {t : Bool} → ((leb 1 m.count && leb m.count 16) && leb m.bbb 999) ≡ true
      → Decides t (FewOf Edition.Current m.entries m.count) → Decides t (ShapedMessage Edition.Current Form.Compound m)
  not_few e x = decides_as x (λ d. ((compound_tells m).passed e, (current, d))) (λ h. h.1.1)

  pub not_compound : ((leb 1 m.count && leb m.count 16) && leb m.bbb 999) ≡ false
      → Decides ((leb 1 m.count && leb m.count 16) && leb m.bbb 999) (ShapedMessage Edition.Current Form.Compound m)
  not_compound e = decides_same e (decides_no (λ h. true≢false (sym ((compound_tells m).passes h.0) ∙ e)))

  -- that of 2001 has none
  pub never_compound : Decides false (ShapedMessage Edition.Of2001 Form.Compound m)
  never_compound = decides_no (λ h. no_compounds h.1.0)

-- and a form that asks for no more
pub alone_tells : {P : Type 0} {t : Bool} → Decides t P → Decides t (P × Unit)
alone_tells x = decides_as x (λ h. (h, tt)) (λ h. h.0)

-- lawful structures of a form's number, bbb and kinds are a message of the grammar
kind_is : (x : Structure) (k : Kind) → Lawful x → Seat k x → kind_of x ≡ some k
kind_is x k h f = let (j, b, r) = structure_out x h in r.kind ∙ ap some (f j r.kind)

pair_made : {ed : Edition} {k l : Kind} (x y : Structure) → Pairs k l → Lawful x → Lawful y → Seat k x → Seat l y
    → Produces ed (message_of Form.Pair 0 (x ∷ y ∷ [])) (written_all (x ∷ y ∷ []))
pair_made {ed} {k} {l} x y may hx hy f g =
    pair_in ed x y hx hy (kind_is x k hx f) (kind_is y l hy g) may refl (ap (written x ++◌) (append-nil (written y)))

pair_either : {ed : Edition} (x y : Structure) → Lawful x → Lawful y → MayPair x y
    → Produces ed (message_of Form.Pair 0 (x ∷ y ∷ [])) (written_all (x ∷ y ∷ []))
pair_either x y hx hy (inl (f, g)) = pair_made x y donation_groups hx hy f g
pair_either x y hx hy (inr (f, g)) = pair_made x y product_expiry hx hy f g

-- a compound's edition and its 001s
abbrev Counted : Edition → Form → List Structure → Type 0
Counted ed Form.Single xs = Unit
Counted ed Form.Pair xs = Unit
Counted ed Form.Compound xs = HasCompounds ed × (donations xs ≤ 1)

counted : (ed : Edition) (form : Form) (m : Message) → Few ed form m → Counted ed form (structures_of m)
counted ed Form.Single m few = tt
counted ed Form.Pair m few = tt
counted ed Form.Compound m (has, (one, seats)) = (has, one)

produces_of : (ed : Edition) (form : Form) (bbb : ℕ) (xs : List Structure) → Each (LawfulIn ed) xs → Bbb form bbb → Counted ed form xs
    → Shaped ed form (length xs) (get_or xs 0 Structure.Empty) (get_or xs 1 Structure.Empty) → Produces ed (message_of form bbb xs) (text_by form bbb xs)
produces_of ed Form.Single bbb [] hs b few h = absurd (omega (arith, h.0))
produces_of ed Form.Single bbb (x ∷ []) hs b few h = single x hs.0 (ap (λ (n : ℕ). message_of Form.Single n (x ∷ [])) b) (append-nil (written x))
produces_of ed Form.Single bbb (x ∷ y ∷ xs) hs b few h = absurd (omega (arith, h.0))
produces_of ed Form.Pair bbb [] hs b few h = absurd (omega (arith, h.0))
produces_of ed Form.Pair bbb (x ∷ []) hs b few h = absurd (omega (arith, h.0))
produces_of ed Form.Pair bbb (x ∷ y ∷ []) hs b few h =
    subst (λ (n : ℕ). Produces ed (message_of Form.Pair n (x ∷ y ∷ [])) (written_all (x ∷ y ∷ []))) (sym b)
    (pair_either x y hs.0.lawful hs.1.0.lawful h.1)
produces_of ed Form.Pair bbb (x ∷ y ∷ z ∷ xs) hs b few h = absurd (omega (arith, h.0))
produces_of ed Form.Compound bbb xs hs b few h = compound few.0 bbb xs h.0 h.1 b hs few.1 refl refl

-- a message with a message's shape and lawful structures is written as its text
module _ (ed : Edition) (m : Message) (sixteen : length m.entries ≡ 16) (h : Shapely ed m) where
  few_within : m.count ≤ 16
  few_within = shapely_number m h

  shaped_list : (form : Form) → Shaped ed form m.count (structure_at m 0) (structure_at m 1)
      → Shaped ed form (length (structures_of m)) (get_or (structures_of m) 0 Structure.Empty) (get_or (structures_of m) 1 Structure.Empty)
  shaped_list Form.Single (number, seat) =
      (count_is m sixteen few_within ∙ number, subst (SeatIn ed) (listed ed m sixteen few_within 0 (omega arith)) seat)
  shaped_list Form.Pair (number, may) = (
    count_is m sixteen few_within
        ∙ number,
    subst (λ (x : Structure). MayPair x (get_or (structures_of m) 1 Structure.Empty)) (listed ed m sixteen few_within 0 (omega arith))
        (subst (MayPair (structure_at m 0)) (listed ed m sixteen few_within 1 (omega arith)) may),
  )
  shaped_list Form.Compound (lo, hi) = let long = count_is m sixteen few_within in (omega arith, omega arith)

  pub produces_text : ((i : ℕ) → i < m.count → Lawful (structure_at m i)) → Produces ed (cleared m) (text_of m)
  produces_text hs =
      let ((shape, bbb), few) = shaped_out ed m h sixteen m.form refl in
      let lawful = each_within ed m sixteen (LawfulIn ed) few_within (λ i l. lawful_within ed m h i l (hs i l)) in
      produces_of ed m.form m.bbb (structures_of m) lawful bbb (counted ed m.form m few) (shaped_list m.form shape)
