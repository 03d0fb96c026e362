-- What the writer's rows come to: values that reading gives are the lawful ones, and a message has one writing.
use Rattle.std.specs.Prelude.{ℕ, suc, ◌+◌, ◌-◌, ◌≤◌, ◌<◌, ◌≡◌, refl, List, [], ◌∷◌, ◌++◌, map, length, get_or, take, drop, replicate}
use Rattle.std.proofs.Common.{sym, ap, ap₂, ◌∙◌, subst, append-nil, lt_of_not-le, arith, length-append, length-take-le, get_or-take}
use Rattle.std.proofs.lemmas.List.{length-map}
use Rattle.std.proofs.Math.ListN.{get_or-map}
use Rattle.std.proofs.Math.Seq.{take-append_seam}
use Rattle.demand.specs.Each.{Each}
use Rattle.demand.specs.Demand.{Answer, Right}
use Rattle.demand.specs.Numbers.{ACCEPTED, SHAPE, FIELD, ROOM}
use Rattle.demand.specs.Laws.Each.{each_at}
use Rattle.text.specs.Buffer.{laid}
use Rattle.label.specs.declared.Structure.{Structure}
use Rattle.label.specs.declared.Edition.{Edition}
use Rattle.label.specs.declared.Form.{Form}
use Rattle.label.specs.declared.Entry.{Entry}
use Rattle.label.specs.declared.Message.{Message}
use Rattle.structure.specs.Structures.{LawfulIn, written}
use Rattle.message.specs.declared.Reading.{Reading}
use Rattle.message.specs.declared.Written.{Written}
use Rattle.message.specs.Grammar.{no_entry, entries_from, places, start_of, message_of, empty_message, header, written_all, Produces, single, pair}
use Rattle.message.specs.Grammar.{compound}
use Rattle.message.specs.Places.{entry_in, bytes_at, Tiles}
use Rattle.message.specs.Laws.Places.{length_entries, entries_hold, at_entries, held_at, bytes_there, entries_tile}
use Rattle.message.specs.Writing.{structure_at, LawfulBbb, of_compound, of_other, Shapely, Given, structures_of, cleared, row_shape}
use Rattle.message.specs.Writing.{row_field, row_room, row_accepted, Fielded, StoresIn}
use Rattle.message.specs.Reading.{AnswersIn}
use Rattle.message.specs.Laws.Answers.{accepted_in, reading_in, one_in}

-- what a message was made of
pub structures_back : (form : Form) (bbb : ℕ) (xs : List Structure) → structures_of (message_of form bbb xs) ≡ xs
structures_back form bbb xs =
    let entries = entries_from (start_of form) xs in
    let rest = replicate (16 - length xs) no_entry in
    ap (λ (n : ℕ). map (λ (e : Entry). e.structure) (take n (entries ++ rest))) (sym (length_entries (start_of form) xs))
    ∙ ap (map (λ (e : Entry). e.structure)) (take-append_seam entries rest)
    ∙ entries_hold (start_of form) xs

-- what stands before the structures, by the form
abbrev pub front : Form → ℕ → ℕ → List ℕ
front Form.Single number bbb = []
front Form.Pair number bbb = []
front Form.Compound number bbb = header number bbb

-- the bytes of a message
abbrev pub text_by : Form → ℕ → List Structure → List ℕ
text_by form bbb xs = front form (length xs) bbb ++ written_all xs

abbrev pub text_of : Message → List ℕ
text_of m = text_by m.form m.bbb (structures_of m)

-- every message of the grammar is made of lawful structures, and its writing is that text
pub record Made (ed : Edition) (m : Message) (s : List ℕ) : Type 0 where
  pub form : Form
  pub bbb : ℕ
  pub xs : List Structure
  pub lawful : Each (LawfulIn ed) xs
  pub room : length xs ≤ 16
  pub is : m ≡ message_of form bbb xs
  pub text : s ≡ text_by form bbb xs

pub made : {ed : Edition} {m : Message} {s : List ℕ} → Produces ed m s → Made ed m s
made (single x h is e) =
    record { form = Form.Single; bbb = 0; xs = x ∷ []; lawful = (h, tt); room = omega arith; is = is; text = e ∙ sym (append-nil (written x)) }
made {ed} (pair x y h g p is e) =
    record {
      form = Form.Pair;
      bbb = 0;
      xs = x ∷ y ∷ [];
      lawful = (h, (g, tt));
      room = omega arith;
      is = is;
      text = e
          ∙ ap (written x ++◌) (sym (append-nil (written y)));
    }
made (compound c bbb xs lo hi small hs d is e) = record { form = Form.Compound; bbb = bbb; xs = xs; lawful = hs; room = hi; is = is; text = e }

pub writing_is : {ed : Edition} {m : Message} {s : List ℕ} → Produces ed m s → s ≡ text_of m
writing_is w =
    let d = made w in
    d.text ∙ ap (text_by d.form d.bbb) (sym (structures_back d.form d.bbb d.xs)) ∙ ap text_of (sym d.is)

-- a message has one writing
pub one_writing : {ed : Edition} {m : Message} {s t : List ℕ} → Produces ed m s → Produces ed m t → s ≡ t
one_writing v w = writing_is v ∙ sym (writing_is w)

-- what stands before a form's structures is as long as the place of the first
pub front_length : (form : Form) (number bbb : ℕ) → length (front form number bbb) ≡ start_of form
front_length Form.Single number bbb = refl
front_length Form.Pair number bbb = refl
front_length Form.Compound number bbb = refl

-- the structure at an index, within the number
pub at_places : (p : ℕ) (xs : List Structure) (i : ℕ) → i < length xs → (get_or (places p xs) i no_entry).structure ≡ get_or xs i Structure.Empty
at_places p xs i l = ap (λ (e : Entry). e.structure) (at_entries p xs i l) ∙ held_at p xs i l

-- the bytes from an entry's place on, and the entries all together
pub underlined : {ed : Edition} {m : Message} {s : List ℕ} → Produces ed m s → (i : ℕ) → i < m.count
    → bytes_at s (entry_in m i) ≡ written (structure_at m i)
underlined {m = m} {s = s} w i l =
    let d = made w in
    let f = front d.form (length d.xs) d.bbb in
    let n = message_of d.form d.bbb d.xs in
    let p : start_of d.form ≡ length f = sym (front_length d.form (length d.xs) d.bbb) in
    let k : i < length d.xs = subst (λ (m : Message). i < m.count) d.is l in
    let here : bytes_at (text_by d.form d.bbb d.xs) (entry_in n i) ≡ written (get_or d.xs i Structure.Empty) =
    ap (bytes_at (f ++ written_all d.xs)) (at_entries (start_of d.form) d.xs i k
    ∙ ap (λ (q : ℕ). get_or (entries_from q d.xs) i no_entry) p) ∙ bytes_there f d.xs i k in
    let there : structure_at n i ≡ get_or d.xs i Structure.Empty = at_places (start_of d.form) d.xs i k in
    ap₂ (λ (t : List ℕ) (m : Message). bytes_at t (entry_in m i)) d.text d.is
    ∙ here
    ∙ ap written (sym there ∙ ap (λ (m : Message). structure_at m i) (sym d.is))

pub tiled : {ed : Edition} {m : Message} {s : List ℕ} → Produces ed m s → Tiles (start_of m.form) (take m.count m.entries) (length s)
tiled {m = m} {s = s} w =
    let d = made w in
    let p = start_of d.form in
    let f = front d.form (length d.xs) d.bbb in
    let entries = entries_from p d.xs in
    let rest = replicate (16 - length d.xs) no_entry in
    let within : take (length d.xs) (entries ++ rest) ≡ entries =
    ap (λ (n : ℕ). take n (entries ++ rest)) (sym (length_entries p d.xs)) ∙ take-append_seam entries rest in
    let end : p + length (written_all d.xs) ≡ length s =
    ap (◌+ length (written_all d.xs)) (sym (front_length d.form (length d.xs) d.bbb))
    ∙ sym (length-append f (written_all d.xs)) ∙ ap length (sym d.text) in
    subst (λ (m : Message). Tiles (start_of m.form) (take m.count m.entries) (length s)) (sym d.is)
    (rw within (subst (Tiles p entries) end (entries_tile p d.xs)))

-- "a value that reading can give" is a lawful one of the edition's kinds
pub lawful_given : {ed : Edition} (x : Structure) → LawfulIn ed x → Given ed x
lawful_given x h =
    record { model = message_of Form.Single 0 (x ∷ []); text = written x; produced = single x h refl refl; index = 0; inside = omega arith; there = refl }

pub given_lawful : {ed : Edition} (x : Structure) → Given ed x → LawfulIn ed x
given_lawful {ed} x g =
    let d = made g.produced in
    let m = message_of d.form d.bbb d.xs in
    let l : g.index < length d.xs = subst (λ (n : ℕ). g.index < n) (ap (λ (m : Message). m.count) d.is) g.inside in
    let there : structure_at m g.index ≡ x = ap (λ (m : Message). structure_at m g.index) (sym d.is) ∙ g.there in
    subst (LawfulIn ed) (sym (at_places (start_of d.form) d.xs g.index l) ∙ there)
    (each_at (LawfulIn ed) Structure.Empty d.xs d.lawful g.index l)

-- the number of a message with a message's shape
pub shapely_number : {ed : Edition} (m : Message) → Shapely ed m → m.count ≤ 16
shapely_number m h =
    let d = made h.produced in
    let is : h.model.count ≡ length d.xs = ap (λ (m : Message). m.count) d.is in
    omega (arith, h.same.count, d.room)

-- what stands within the number, of a message with sixteen entries
module _ (m : Message) (sixteen : length m.entries ≡ 16) (few : m.count ≤ 16) where
  pub count_is : length (structures_of m) ≡ m.count
  count_is = length-map (take m.count m.entries) (λ (e : Entry). e.structure) ∙ length-take-le m.count m.entries (omega arith)

  pub kept_at : (i : ℕ) → i < m.count → structure_at (cleared m) i ≡ structure_at m i
  kept_at i l =
      let f : Entry → Structure = λ e. e.structure in
      at_places (start_of m.form) (structures_of m) i (omega (arith, count_is))
      ∙ get_or-map f (take m.count m.entries) i no_entry
      ∙ ap f (get_or-take m.count m.entries i no_entry l)

-- no index is before another
not_before : (i j : ℕ) → (i < j → ⊥) → (j < i → ⊥) → i ≡ j
not_before i j f g = let a : j < suc i = lt_of_not-le f in let b : i < suc j = lt_of_not-le g in omega arith

-- a language of an edition's messages, in which each has one writing
pub record Tongue (ed : Edition) (W : Message → List ℕ → Type 0) : Type 0 where
  pub labelled : {m : Message} {s : List ℕ} → W m s → (t : List ℕ) × Produces ed m t
  pub one : {m : Message} {s t : List ℕ} → W m s → W m t → s ≡ t

pub labels : (ed : Edition) → Tongue ed (Produces ed)
labels ed = record { labelled = λ {m} {s} w. (s, w); one = one_writing }

-- nothing stands past the number of a message that was read
pub read_cleared : {ed : Edition} {m : Message} {s : List ℕ} → Produces ed m s → cleared m ≡ m
read_cleared {m = m} w =
    let d = made w in
    let n = message_of d.form d.bbb d.xs in
    let back : cleared n ≡ n = ap (message_of d.form d.bbb) (structures_back d.form d.bbb d.xs) in
    ap cleared d.is ∙ back ∙ sym d.is

-- what the grammar produces has its shape, and sixteen entries
produced_bbb : {ed : Edition} {m : Message} {s : List ℕ} → Produces ed m s → LawfulBbb m
produced_bbb (single x h is e) = of_other (ap (λ (m : Message). m.bbb) is)
produced_bbb (pair x y h g p is e) = of_other (ap (λ (m : Message). m.bbb) is)
produced_bbb {m = m} (compound c bbb xs lo hi small hs d is e) =
    let same : m.bbb ≡ bbb = ap (λ (m : Message). m.bbb) is in
    of_compound (ap (λ (m : Message). m.form) is) (omega arith)

produced_shapely : {ed : Edition} {m : Message} {s : List ℕ} → Produces ed m s → Shapely ed m
produced_shapely {m = m} {s = s} w =
    record { model = m; text = s; produced = w; same = record { form = refl; count = refl; kinds = λ i k l e. e }; bbb = produced_bbb w }

-- no message of the grammar is without a structure
produced_some : {ed : Edition} {m : Message} {s : List ℕ} → Produces ed m s → 1 ≤ m.count
produced_some {m = m} (single x h is e) = let n : m.count ≡ 1 = ap (λ (m : Message). m.count) is in omega arith
produced_some {m = m} (pair x y h g p is e) = let n : m.count ≡ 2 = ap (λ (m : Message). m.count) is in omega arith
produced_some {m = m} (compound c bbb xs lo hi small hs d is e) = let n : m.count ≡ length xs = ap (λ (m : Message). m.count) is in omega arith

module _ {ed : Edition} {W : Message → List ℕ → Type 0} (τ : Tongue ed W) where
  -- the writer's contract leaves one answer and one buffer
  pub one_stored : (m : Message) (before after after' : List ℕ) (v w : Written) → StoresIn W ed m before after v
      → StoresIn W ed m before after' w → (v ≡ w) × (after ≡ after')
  one_stored m before after after' v w x y = by x y
    where
      same_text : {s t : List ℕ} → W (cleared m) s → W (cleared m) t → (n : ℕ)
          → ◌≡◌ {A = Written} (record { place = length s; refusal = n }) (record { place = length t; refusal = n })
      same_text p q n = ap (λ (s : List ℕ). record { place = length s; refusal = n }) (τ.one p q)

      same_length : {s t : List ℕ} → W (cleared m) s → W (cleared m) t → length s ≡ length t
      same_length p q = ap length (τ.one p q)

      by : StoresIn W ed m before after v → StoresIn W ed m before after' w → (v ≡ w) × (after ≡ after')
      by (row_shape f e p) (row_shape g d q) = (e ∙ sym d, p ∙ sym q)
      by (row_shape f e p) (row_field h j l g b d q) = absurd (f h)
      by (row_shape f e p) (row_room h fs s u l d q) = absurd (f h)
      by (row_shape f e p) (row_accepted h fs s u l d q) = absurd (f h)
      by (row_field h i l g b e p) (row_shape f d q) = absurd (f h)
      by (row_field h i l g b e p) (row_field k j o f c d q) =
          let same = not_before i j (λ z. g (c i z)) (λ z. f (b j z)) in
          (e ∙ ap (λ (i : ℕ). record { place = i; refusal = FIELD }) same ∙ sym d, p ∙ sym q)
      by (row_field h i l g b e p) (row_room k fs s u o d q) = absurd (g (fs i l))
      by (row_field h i l g b e p) (row_accepted k fs s u o d q) = absurd (g (fs i l))
      by (row_room h fs s u l e p) (row_shape f d q) = absurd (f h)
      by (row_room h fs s u l e p) (row_field k j o f c d q) = absurd (f (fs j o))
      by (row_room h fs s u l e p) (row_room k gs t r o d q) = (e ∙ same_text u r ROOM ∙ sym d, p ∙ sym q)
      by (row_room h fs s u l e p) (row_accepted k gs t r o d q) = absurd (omega (arith, same_length u r))
      by (row_accepted h fs s u l e p) (row_shape f d q) = absurd (f h)
      by (row_accepted h fs s u l e p) (row_field k j o f c d q) = absurd (f (fs j o))
      by (row_accepted h fs s u l e p) (row_room k gs t r o d q) = absurd (omega (arith, same_length u r))
      by (row_accepted h fs s u l e p) (row_accepted k gs t r o d q) =
          (e ∙ same_text u r ACCEPTED ∙ sym d, p ∙ ap (λ (s : List ℕ). laid s before) (τ.one u r) ∙ sym q)

  -- the round trips, where the language leaves one answer
  module _ {F : List ℕ → ℕ → ℕ → Type 0} where
    -- read then written, with room: the bytes that were read
    pub read_written : (s : List ℕ) (r : Reading) (before after : List ℕ) (w : Written) → AnswersIn W F s r → r.refusal ≡ ACCEPTED
        → length s ≤ length before
        → StoresIn W ed r.message before after w → (w ≡ record { place = length s; refusal = ACCEPTED }) × (after ≡ laid s before)
    read_written s r before after w x z room y =
        let m = r.message in
        let given : W m s = (reading_in {r = r} x z).0 in
        let (t, produced) = τ.labelled given in
        let again : W (cleared m) s = subst (λ (n : Message). W n s) (sym (read_cleared produced)) given in
        let fields : Fielded ed m = λ i l. record { model = m; text = t; produced = produced; index = i; inside = l; there = refl } in
        let here : StoresIn W ed m before (laid s before) record { place = length s; refusal = ACCEPTED } =
        row_accepted (produced_shapely produced) fields s again room refl refl in
        one_stored m before after (laid s before) w record { place = length s; refusal = ACCEPTED } y here

    -- written then read: the values, unused entries emptied
    pub written_read : ((s : List ℕ) (a b : Answer Message) → Right W F s a → Right W F s b → a ≡ b) → (m : Message) (before after : List ℕ)
        (w : Written) (r : Reading) → StoresIn W ed m before after w → w.refusal ≡ ACCEPTED → AnswersIn W F (take w.place after) r
        → r ≡ record { message = cleared m; place = w.place; refusal = ACCEPTED }
    written_read one m before after w r x z y = by x
      where
        number : {i n : ℕ} → w ≡ record { place = i; refusal = n } → n ≡ ACCEPTED
        number e = ap (λ (w : Written). w.refusal) (sym e) ∙ z

        by : StoresIn W ed m before after w → r ≡ record { message = cleared m; place = w.place; refusal = ACCEPTED }
        by (row_shape f e p) = absurd (omega (arith, number e))
        by (row_field h i l g b e p) = absurd (omega (arith, number e))
        by (row_room h fs s u l e p) = absurd (omega (arith, number e))
        by (row_accepted h fs s u l e p) =
            let place : w.place ≡ length s = ap (λ (w : Written). w.place) e in
            let front : take w.place after ≡ s = ap₂ take place p ∙ take-append_seam s (drop (length s) before) in
            let back : Reading = record { message = cleared m; place = w.place; refusal = ACCEPTED } in
            one_in one s r back (subst (λ (s : List ℕ). AnswersIn W F s r) front y) (accepted_in back (u, place) refl)

  -- the empty message has no message's shape
  pub empty_shape : (before after : List ℕ) (w : Written) → StoresIn W ed empty_message before after w
      → (w.refusal ≡ SHAPE) × (w.place ≡ 0) × (after ≡ before)
  empty_shape before after w x =
      let shapeless : Shapely ed empty_message → ⊥ = λ h. let some = produced_some h.produced in let none = h.same.count in omega arith in
      let (is, left) = one_stored empty_message before after before w record { place = 0; refusal = SHAPE } x (row_shape shapeless refl refl) in
      (ap (λ (w : Written). w.refusal) is, ap (λ (w : Written). w.place) is, left)
