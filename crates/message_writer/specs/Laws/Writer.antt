-- The writer's loops over the entries within the number.
use Rattle.std.specs.Prelude.{ℕ, suc, ◌+◌, ◌-◌, ◌≤◌, ◌<◌, ◌≡◌, refl, List, [], ◌∷◌, ◌++◌, map, ◌⊎◌, length, get_or, take, drop, Option, Some, None}
use Rattle.std.proofs.Common.{sym, ap, ap₂, ◌∙◌, subst, append_assoc, append-nil, inl, inr, eq-or-lt_of_le, zero-add, arith, length-append, length-drop}
use Rattle.std.proofs.Common.{length-take, get_or-take, take-append-drop, take-suc, take-add}
use Rattle.std.proofs.lemmas.List.{map-append}
use Rattle.demand.specs.Laws.Cells.{tail_part}
use Rattle.text.specs.Buffer.{laid, laid_at}
use Rattle.text.specs.Laws.Laid.{laid_then, length_laid_at, part_laid}
use Rattle.label.specs.declared.Structure.{Structure}
use Rattle.label.specs.declared.Form.{Form}
use Rattle.label.specs.declared.Entry.{Entry}
use Rattle.label.specs.declared.Message.{Message}
use Rattle.structure.specs.Structures.{kind_of, Lawful}
use Rattle.message.specs.Grammar.{no_entry, donation_in, donations, in_turn}
use Rattle.message.specs.Writing.{structures_of}
use Rattle.message.specs.Laws.Donations.{donations_append}
use Rattle.message.specs.Laws.Write.{count_is}

-- the structures of the first n entries
abbrev pub within : List Entry → ℕ → List Structure
within es n = map (λ (e : Entry). e.structure) (take n es)

abbrev pub entry_at : List Entry → ℕ → Structure
entry_at es i = (get_or es i no_entry).structure

-- an entry within a number, which a loop over those entries comes to
module _ (es : List Entry) (n : ℕ) {i : ℕ} (h : i < length (take n es)) where
  pub within_number : i < n
  within_number = omega (arith, length-take n es)

  pub within_entries : i < length es
  within_entries = omega (arith, length-take n es)

  pub within_at : entry_at (take n es) i ≡ entry_at es i
  within_at = ap (λ (e : Entry). e.structure) (get_or-take n es i no_entry within_number)

-- the first of n entries that is not lawful
pub data FirstUnlawful (es : List Entry) (n : ℕ) (r : Option ℕ) : Type 0 where
  unlawful_first : {k : ℕ} → k < n → ((i : ℕ) → i < k → Lawful (entry_at es i)) → (Lawful (entry_at es k) → ⊥) → r ≡ Some k
      → FirstUnlawful es n r
  all_lawful : ((i : ℕ) → i < n → Lawful (entry_at es i)) → r ≡ None → FirstUnlawful es n r

pub unlawful_at : {es : List Entry} {n k : ℕ} → FirstUnlawful es n (Some k)
    → (k < n) × ((i : ℕ) → i < k → Lawful (entry_at es i)) × (Lawful (entry_at es k) → ⊥)
unlawful_at {es} {n} {k} (unlawful_first {k = j} l before there is) = let same : k ≡ j = cc in rw same (l, before, there)
unlawful_at (all_lawful h is) = absurd (cc)

pub lawful_all : {es : List Entry} {n : ℕ} → FirstUnlawful es n None → (i : ℕ) → i < n → Lawful (entry_at es i)
lawful_all (unlawful_first l before there is) = absurd (cc)
lawful_all (all_lawful h is) = h

-- a property of each index up to one more
pub up_to : (P : ℕ → Type 0) (i : ℕ) → ((j : ℕ) → j < i → P j) → P i → (j : ℕ) → j < i + 1 → P j
up_to P i h x j l = from (eq-or-lt_of_le (omega arith))
  where
    from : (j ≡ i) ⊎ (j < i) → P j
    from (inl e) = subst P (sym e) x
    from (inr g) = h j g

module _ (f : Structure → List ℕ) where
  turn_append : (xs ys : List Structure) → in_turn f (xs ++ ys) ≡ in_turn f xs ++ in_turn f ys
  turn_append [] ys = refl
  turn_append (x ∷ xs) ys = ap (f x ++◌) (turn_append xs ys) ∙ sym (append_assoc (f x) (in_turn f xs) (in_turn f ys))

  -- one entry more
  turn_next : (es : List Entry) (i : ℕ) → i < length es → in_turn f (within es (i + 1)) ≡ in_turn f (within es i) ++ f (entry_at es i)
  turn_next es i l =
      let at : Entry → Structure = λ e. e.structure in
      let e = get_or es i no_entry in
      let on : i + 1 ≡ suc i = omega arith in
      ap (λ (n : ℕ). in_turn f (within es n)) on
      ∙ ap (λ (l : List Entry). in_turn f (map at l)) (take-suc es i no_entry l)
      ∙ ap (in_turn f) (map-append at (take i es) (e ∷ []))
      ∙ turn_append (within es i) (e.structure ∷ [])
      ∙ ap (in_turn f (within es i) ++◌) (append-nil (f e.structure))

  -- its bytes as well
  pub turn_length : (es : List Entry) (i : ℕ) → i < length es
      → length (in_turn f (within es (i + 1))) ≡ length (in_turn f (within es i)) + length (f (entry_at es i))
  turn_length es i l = ap length (turn_next es i l) ∙ length-append (in_turn f (within es i)) (f (entry_at es i))

  -- the entries to come need room too
  turn_rest : (es : List Entry) (i n : ℕ) → i ≤ n → length (in_turn f (within es i)) ≤ length (in_turn f (within es n))
  turn_rest es i n h =
      let at : Entry → Structure = λ e. e.structure in
      let k = n - i in
      let whole : i + k ≡ n = omega arith in
      let rest = map at (take k (drop i es)) in
      let is : in_turn f (within es n) ≡ in_turn f (within es i) ++ in_turn f rest =
      ap (λ (m : ℕ). in_turn f (within es m)) (sym whole)
      ∙ ap (λ (l : List Entry). in_turn f (map at l)) (take-add i k es)
      ∙ ap (in_turn f) (map-append at (take i es) (take k (drop i es)))
      ∙ turn_append (within es i) rest
      in
      let long = ap length is ∙ length-append (in_turn f (within es i)) (in_turn f rest) in
      omega arith

pub donations_next : (es : List Entry) (i : ℕ) → i < length es
    → donations (within es (i + 1)) ≡ donations (within es i) + donation_in (kind_of (entry_at es i))
donations_next es i l =
    let f : Entry → Structure = λ e. e.structure in
    let e = get_or es i no_entry in
    let on : i + 1 ≡ suc i = omega arith in
    let more : donations (within es i ++ e.structure ∷ []) ≡ donations (within es i) + donation_in (kind_of e.structure) =
    omega (arith, donations_append (within es i) (e.structure ∷ [])) in
    ap (λ (n : ℕ). donations (within es n)) on
    ∙ ap (λ (l : List Entry). donations (map f l)) (take-suc es i no_entry l)
    ∙ ap donations (map-append f (take i es) (e ∷ []))
    ∙ more

-- every structure has a form on a label
abbrev pub any_structure : Structure → Type 0
any_structure x = Unit {0}

-- few structures, each of which a layout may lay
pub record EachWithin (P : Structure → Type 0) (m : Message) : Type 0 where
  pub few : m.count ≤ 16
  pub each : (i : ℕ) → i < m.count → P (entry_at m.entries i)

-- few entries, and room for them from an index on, each in its bytes f
pub record WriteRoom (f : Structure → List ℕ) (start : ℕ) (es : List Entry) (n : ℕ) (before : List ℕ) : Type 0 where
  pub few : n ≤ 16
  pub long : n ≤ length es
  pub room : start + length (in_turn f (within es n)) ≤ length before

room_kept : {f : Structure → List ℕ} {start : ℕ} {es : List Entry} {n : ℕ} {before after : List ℕ} → WriteRoom f start es n before
    → length after ≡ length before → WriteRoom f start es n after
room_kept r same = record { few = r.few; long = r.long; room = rw same r.room }

-- the first i of n entries are written, and the cursor stands past them
pub record Writing (f : Structure → List ℕ) (start : ℕ) (es : List Entry) (n : ℕ) (before here : List ℕ) (i at : ℕ) : Type 0 where
  pub is : here ≡ laid_at start (in_turn f (within es i)) before
  pub cursor : at ≡ start + length (in_turn f (within es i))
  pub passed : i ≤ n

pub writing_none : (f : Structure → List ℕ) (start : ℕ) (es : List Entry) (n : ℕ) (before : List ℕ) → Writing f start es n before before 0 start
writing_none f start es n before = record { is = sym (take-append-drop start before); cursor = omega arith; passed = omega arith }

module _ {f : Structure → List ℕ} {start : ℕ} {es : List Entry} {n : ℕ} {before here : List ℕ} {i at : ℕ} (r : WriteRoom f start es n before)
    (w : Writing f start es n before here i at) where
  pub writing_length : length here ≡ length before
  writing_length = ap length w.is ∙ length_laid_at start (in_turn f (within es i)) before (omega (arith, r.room, turn_rest f es i n w.passed))

  module _ (h : i < n) where
    l : i < length es
    l = omega (arith, r.long)

    pub writing_room : at + length (f (entry_at es i)) ≤ length here
    writing_room = omega (arith, w.cursor, r.room, turn_length f es i l, turn_rest f es (i + 1) n (omega arith), writing_length)

    -- the part from the cursor on has room for the next structure
    pub writing_part : length (f (entry_at es i)) ≤ length (take (length here - at) (drop at here))
    writing_part = rw (tail_part at here, length-drop at here) (omega (arith, writing_room))

    -- a structure written into the part from the cursor on
    pub writing_next : {part : List ℕ} {long : ℕ} → long ≡ length (f (entry_at es i))
        → part ≡ laid (f (entry_at es i)) (take (length here - at) (drop at here))
        → Writing f start es n before (take at here ++ (part ++ drop (length here - at) (drop at here))) (i + 1) (at + long)
    writing_next {part} e laying =
        let x = f (entry_at es i) in
        let done = in_turn f (within es i) in
        let put : take at here ++ (part ++ drop (length here - at) (drop at here)) ≡ laid_at at x here = part_laid at x here laying in
        let at-is : laid_at at x here ≡ laid_at (start + length done) x here = ap (λ (k : ℕ). laid_at k x here) w.cursor in
        let fits : start ≤ length before = omega (arith, r.room) in
        record {
          is = laid_then start (length done) done x before fits refl w.is (put ∙ at-is)
              ∙ ap (λ (u : List ℕ). laid_at start u before) (sym (turn_next f es i l));
          cursor = omega (arith, e, w.cursor, turn_length f es i l);
          passed = omega arith;
        }

  -- all of them are written
  pub writing_all : n ≤ i → here ≡ laid_at start (in_turn f (within es n)) before
  writing_all l = let all : i ≡ n = omega (arith, w.passed) in rw all at w.is

-- a message's bytes, its form's front by g and each structure's by f: its label's, or by W-213 its record's
abbrev pub bytes_by : (Form → ℕ → ℕ → List ℕ) → (Structure → List ℕ) → Message → List ℕ
bytes_by g f m = g m.form (length (structures_of m)) m.bbb ++ in_turn f (structures_of m)

-- a message of few structures, and room for its bytes
pub record MessageRoom (g : Form → ℕ → ℕ → List ℕ) (f : Structure → List ℕ) (m : Message) (before : List ℕ) : Type 0 where
  pub sixteen : length m.entries ≡ 16
  pub few : m.count ≤ 16
  pub room : length (bytes_by g f m) ≤ length before

module _ (g : Form → ℕ → ℕ → List ℕ) (f : Structure → List ℕ) (m : Message) (sixteen : length m.entries ≡ 16) (few : m.count ≤ 16)
  where
    -- a message's bytes by its form
    bytes_are : {form : Form} → m.form ≡ form → bytes_by g f m ≡ g form m.count m.bbb ++ in_turn f (within m.entries m.count)
    bytes_are told = ap₂ (λ (k : Form) (n : ℕ). g k n m.bbb ++ in_turn f (structures_of m)) told (count_is m sixteen few)

    pub bytes_length : {form : Form} → m.form ≡ form
        → length (bytes_by g f m) ≡ length (g form m.count m.bbb) + length (in_turn f (within m.entries m.count))
    bytes_length {form} told = ap length (bytes_are told) ∙ length-append (g form m.count m.bbb) (in_turn f (structures_of m))

module _ {g : Form → ℕ → ℕ → List ℕ} {f : Structure → List ℕ} {m : Message} {before : List ℕ} (r : MessageRoom g f m before) {form : Form}
    (told : m.form ≡ form) where
  pub form_room : WriteRoom f (length (g form m.count m.bbb)) m.entries m.count before
  form_room =
      record {
        few = r.few;
        long = omega (arith, r.sixteen, r.few);
        room = omega (arith, r.room, bytes_length g f m r.sixteen r.few told);
      }

  -- what was laid by the form is the message's bytes
  pub form_laid : {after : List ℕ} → after ≡ laid (g form m.count m.bbb ++ in_turn f (within m.entries m.count)) before
      → after ≡ laid (bytes_by g f m) before
  form_laid e = rw (bytes_are g f m r.sixteen r.few told) e

  -- where the front was laid first, there is still room, and the structures behind it make up the message's bytes
  module _ {mid : List ℕ} (fronted : mid ≡ laid (g form m.count m.bbb) before) where
    pub fronted_room : WriteRoom f (length (g form m.count m.bbb)) m.entries m.count mid
    fronted_room =
        room_kept form_room (ap length fronted ∙ length_laid_at 0 (g form m.count m.bbb) before (omega (arith, form_room.room)))

    pub fronted_laid : {after : List ℕ} → after ≡ laid_at (length (g form m.count m.bbb)) (in_turn f (within m.entries m.count)) mid
        → after ≡ laid (bytes_by g f m) before
    fronted_laid e =
        let front = g form m.count m.bbb in
        let rest = in_turn f (within m.entries m.count) in
        form_laid (laid_then 0 (length front) front rest before (omega arith) refl fronted (rw (zero-add (length front)) e))
