-- The loops over a message's entries: how long the fields are, and where each is laid out.
use Rattle.std.specs.Prelude.{ℕ, zero, suc, ◌+◌, ◌-◌, ◌*◌, ◌≤◌, ◌<◌, ◌≡◌, refl, List, [], ◌∷◌, ◌++◌, map, length, get_or, take, drop, replicate}
use Rattle.std.proofs.Common.{sym, ap, ◌∙◌, subst, append_assoc, append-nil, add-one, arith, length-append, length-drop, length-take}
use Rattle.std.proofs.Common.{take-append-drop, take-suc, take-add}
use Rattle.std.proofs.lemmas.List.{map-append, length-replicate}
use Rattle.demand.specs.Laws.Cells.{tail_part}
use Rattle.text.specs.Buffer.{laid, laid_at}
use Rattle.text.specs.Laws.Laid.{length_laid_at, laid_then, part_laid}
use Rattle.label.specs.declared.Edition.{Edition}
use Rattle.label.specs.declared.Structure.{Structure}
use Rattle.label.specs.declared.Entry.{Entry}
use Rattle.label.specs.declared.Message.{Message}
use Rattle.structure.specs.Structures.{written}
use Rattle.message.specs.Grammar.{no_entry, entries_from, start_of, Produces}
use Rattle.message.specs.Places.{entry_in}
use Rattle.message.specs.Writing.{structure_at, structures_of}
use Rattle.message.specs.Laws.Places.{length_entries, at_entries}
use Rattle.message.specs.Laws.Write.{made, given_lawful, at_places, underlined}
use Rattle.lines.specs.Laws.Judged.{structures_small}
use Rattle.extract_line.specs.Extract.{field, fields}
use Rattle.extract_line.specs.Laws.Copied.{Measured, Stands, measured_long}

-- the entries of a message that was read
length_there : (p : ℕ) (xs : List Structure) (i : ℕ) → i < length xs
    → (get_or (entries_from p xs) i no_entry).length ≡ length (written (get_or xs i Structure.Empty))
length_there p [] i l = absurd (omega arith)
length_there p (x ∷ xs) zero l = refl
length_there p (x ∷ xs) (suc i) l = length_there (p + length (written x)) xs i (omega arith)

pub sixteen : {m : Message} {s : List ℕ} → Produces Edition.Current m s → length m.entries ≡ 16
sixteen w =
    let d = made w in
    let p = start_of d.form in
    let rest = replicate (16 - length d.xs) no_entry in
    let long : length (entries_from p d.xs ++ rest) ≡ 16 =
    omega (arith, length-append (entries_from p d.xs) rest, length_entries p d.xs, length-replicate (16 - length d.xs) no_entry, d.room) in
    subst (λ (m : Message). length m.entries ≡ 16) (sym d.is) long

module _ {m : Message} {s : List ℕ} (w : Produces Edition.Current m s) {i : ℕ} (l : i < m.count) where
  pub measured : Measured (entry_in m i)
  measured =
      let d = made w in
      let p = start_of d.form in
      let k : i < length d.xs = subst (λ (m : Message). i < m.count) d.is l in
      let long = ap (λ (e : Entry). e.length) (at_entries p d.xs i k)
      ∙ length_there p d.xs i k ∙ ap (λ (x : Structure). length (written x)) (sym (at_places p d.xs i k)) in
      record {
        lawful = (given_lawful (structure_at m i) record { model = m; text = s; produced = w; index = i; inside = l; there = refl }).lawful;
        long = subst (λ (m : Message). (entry_in m i).length ≡ length (written (structure_at m i))) (sym d.is) long;
      }

  pub stands : Stands s (entry_in m i)
  stands =
      let e = entry_in m i in
      let bytes = underlined w i l in
      let long = ap length bytes in
      record {
        measured = measured;
        inside = omega (arith, long, length-take e.length (drop e.place s), length-drop e.place s, measured.long, measured_long measured);
        bytes = bytes;
      }

-- the structures of the first i entries
abbrev pub first : Message → ℕ → List Structure
first m i = map (λ (e : Entry). e.structure) (take i m.entries)

fields_append : (xs ys : List Structure) → fields (xs ++ ys) ≡ fields xs ++ fields ys
fields_append [] ys = refl
fields_append (x ∷ xs) ys = ap (field x ++◌) (fields_append xs ys) ∙ sym (append_assoc (field x) (fields xs) (fields ys))

-- one entry more
pub fields_next : (m : Message) (i : ℕ) → i < length m.entries → fields (first m (i + 1)) ≡ fields (first m i) ++ field (structure_at m i)
fields_next m i l =
    let f : Entry → Structure = λ e. e.structure in
    let e = entry_in m i in
    ap (λ (n : ℕ). fields (first m n)) (add-one i)
    ∙ ap (λ (es : List Entry). fields (map f es)) (take-suc m.entries i no_entry l)
    ∙ ap fields (map-append f (take i m.entries) (e ∷ []))
    ∙ fields_append (first m i) (e.structure ∷ [])
    ∙ ap (fields (first m i) ++◌) (append-nil (field e.structure))

-- i entries are passed, and the fields of these are so long
pub record Measuring (m : Message) (i long : ℕ) : Type 0 where
  pub passed : i ≤ m.count
  pub is : long ≡ length (fields (first m i))
  pub most : long ≤ 24 * i

pub measuring_next : {m : Message} {s : List ℕ} {i long size : ℕ} → Produces Edition.Current m s → Measuring m i long → i < m.count
    → (size ≡ length (field (structure_at m i))) × (size ≤ 24) → Measuring m (i + 1) (long + size)
measuring_next {m} {i = i} w x l (is, most) =
    let next = ap length (fields_next m i (omega (arith, structures_small w, sixteen w))) ∙ length-append (fields (first m i)) (field (structure_at m i)) in
    record { passed = omega arith; is = omega (arith, x.is); most = omega (arith, x.most) }

-- the entries to come need room too
fields_rest : (m : Message) (i n : ℕ) → i ≤ n → length (fields (first m i)) ≤ length (fields (first m n))
fields_rest m i n h =
    let f : Entry → Structure = λ e. e.structure in
    let k = n - i in
    let whole : i + k ≡ n = omega arith in
    let rest = map f (take k (drop i m.entries)) in
    let is : fields (first m n) ≡ fields (first m i) ++ fields rest =
    ap (λ (j : ℕ). fields (first m j)) (sym whole)
    ∙ ap (λ (es : List Entry). fields (map f es)) (take-add i k m.entries)
    ∙ ap fields (map-append f (take i m.entries) (take k (drop i m.entries)))
    ∙ fields_append (first m i) rest
    in
    let long = ap length is ∙ length-append (fields (first m i)) (fields rest) in
    omega arith

-- i entries are laid out behind form and bbb, and the next field begins at `at`
pub record Laying (m : Message) (before here : List ℕ) (i at : ℕ) : Type 0 where
  pub measuring : Measuring m i (at - 4)
  pub behind : 4 ≤ at
  pub is : here ≡ laid_at 4 (fields (first m i)) before

pub laying_first : {m : Message} {before : List ℕ} → Laying m before before 0 4
laying_first {before = before} =
    record { measuring = record { passed = omega arith; is = refl; most = omega arith }; behind = omega arith; is = sym (take-append-drop 4 before) }

module _ {m : Message} {s before here : List ℕ} {i at : ℕ} (w : Produces Edition.Current m s)
    (room : 4 + length (fields (structures_of m)) ≤ length before)
    (x : Laying m before here i at) where
  pub laying_length : length here ≡ length before
  laying_length = ap length x.is ∙ length_laid_at 4 (fields (first m i)) before (omega (arith, room, fields_rest m i m.count x.measuring.passed))

  module _ (l : i < m.count) where
    next : fields (first m (i + 1)) ≡ fields (first m i) ++ field (structure_at m i)
    next = fields_next m i (omega (arith, structures_small w, sixteen w))

    pub laying_room : at + length (field (structure_at m i)) ≤ length here
    laying_room =
        let long = ap length next ∙ length-append (fields (first m i)) (field (structure_at m i)) in
        omega (arith, x.measuring.is, x.behind, fields_rest m (i + 1) m.count (omega arith), laying_length)

    -- the part from there on has room for the next field
    pub laying_part : length (field (structure_at m i)) ≤ length (take (length here - at) (drop at here))
    laying_part = rw (tail_part at here, length-drop at here) (omega (arith, laying_room))

    pub laying_next : {part : List ℕ} {size : ℕ} → (size ≡ length (field (structure_at m i))) × (size ≤ 24)
        → part ≡ laid (field (structure_at m i)) (take (length here - at) (drop at here))
        → Laying m before (take at here ++ (part ++ drop (length here - at) (drop at here))) (i + 1) (at + size)
    laying_next {size = size} e laying =
        let done = fields (first m i) in
        let here-field = field (structure_at m i) in
        let cursor : at ≡ 4 + length done = omega (arith, x.measuring.is, x.behind) in
        let on : at + size - 4 ≡ at - 4 + size = omega (arith, x.behind) in
        let put = part_laid at here-field here laying ∙ ap (λ (k : ℕ). laid_at k here-field here) cursor in
        record {
          measuring = subst (Measuring m (i + 1)) (sym on) (measuring_next w x.measuring l e);
          behind = omega (arith, x.behind);
          is = laid_then 4 (length done) done here-field before (omega arith) refl x.is put ∙ ap (λ (u : List ℕ). laid_at 4 u before) (sym next);
        }

  -- all are laid out
  pub laying_all : m.count ≤ i → (at ≡ 4 + length (fields (structures_of m))) × (here ≡ laid_at 4 (fields (structures_of m)) before)
  laying_all h =
      let all : i ≡ m.count = omega (arith, x.measuring.passed) in
      let end : at ≡ 4 + length (fields (first m i)) = omega (arith, x.measuring.is, x.behind) in
      (rw all at end, rw all at x.is)
