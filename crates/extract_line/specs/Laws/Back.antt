-- What can be read off a line: the message it is of, with sequence numbers and flags 0.
use Rattle.std.specs.Prelude.{ℕ, zero, suc, ◌+◌, ◌-◌, ◌≤◌, ◌<◌, ◌≡◌, refl, Bool, false, cond, List, [], ◌∷◌, ◌++◌, map, eqb, length, get_or, take}
use Rattle.std.specs.Prelude.{drop, replicate}
use Rattle.std.proofs.Common.{sym, ap, ap₂, ◌∙◌, subst, append_assoc, arith, take_at, drop_at}
use Rattle.std.proofs.lemmas.List.{map-append, length-map}
use Rattle.std.proofs.Math.Option.{Option, some, none}
use Rattle.demand.specs.Each.{Each}
use Rattle.text.specs.Bytes.{byte}
use Rattle.text.specs.Decimal.{digits, number}
use Rattle.text.specs.Laws.Decimal.{number_digits}
use Rattle.label.specs.declared.Edition.{Edition}
use Rattle.label.specs.declared.Structure.{Structure}
use Rattle.label.specs.declared.Kind.{Kind}
use Rattle.label.specs.declared.Form.{Form}
use Rattle.label.specs.declared.Message.{Message}
use Rattle.structure.specs.Structures.{kind_of, number_of, Lawful, LawfulIn, content, written, numbered, every_kind}
use Rattle.structure.specs.Laws.Kinds.{number_or, number_in, make, structure_out}
use Rattle.structure.specs.Laws.Numbered.{make_behind}
use Rattle.message.specs.Grammar.{no_entry, entries_from, start_of, message_of, Produces, single, pair, compound}
use Rattle.message.specs.Laws.Write.{made, structures_back}
use Rattle.lines.specs.Lines.{LF}
use Rattle.extract_line.specs.Extract.{shown, letter, fields, line_of, shown_width}
use Rattle.extract_line.specs.Masked.{masked_structure, masked_entry, masked}
use Rattle.extract_line.specs.Laws.Shown.{Seen, donation, whole, seen, length_shown, masked_written}

-- the kind that a number in digits names
abbrev kind_at : List ℕ → Option Kind
kind_at c = numbered every_kind (number c)

kind_back : (k : Kind) → kind_at (digits 3 (number_of k)) ≡ some k
kind_back Kind.Donation = refl
kind_back Kind.Groups = refl
kind_back Kind.Product = refl
kind_back Kind.Expiry = refl
kind_back Kind.ExpiryTime = refl
kind_back Kind.Collection = refl
kind_back Kind.CollectionTime = refl
kind_back Kind.Production = refl
kind_back Kind.ProductionTime = refl
kind_back Kind.Testing = refl
kind_back Kind.Antigens = refl
kind_back Kind.Lot = refl
kind_back Kind.Flexible = refl
kind_back Kind.Antigens2001 = refl

-- a structure of a kind, of what is shown of it; a kind other than 001 is the same behind whichever second byte
abbrev unshown : Kind → List ℕ → Structure
unshown k c = make k (cond (eqb (number_of k) 1) c (0 ∷ c))

unshown_other : (k : Kind) (b : ℕ) (c : List ℕ) → eqb (number_of k) 1 ≡ false → unshown k c ≡ make k (b ∷ c)
unshown_other k b c e = ap (λ (t : Bool). make k (cond t c (0 ∷ c))) e ∙ make_behind k 0 b c e

shown_back : (x : Structure) → Lawful x → (k : Kind) × (kind_of x ≡ some k) × (unshown k (shown x) ≡ masked_structure x)
shown_back x h = by (seen x) h
  where
    by : {x : Structure} → Seen x → Lawful x → (k : Kind) × (kind_of x ≡ some k) × (unshown k (shown x) ≡ masked_structure x)
    by (donation d f) (g, flags) =
        let facility = number_digits 4 d.facility (omega (arith, g.facility)) in
        let year = number_digits 2 d.year (omega (arith, g.year)) in (
          Kind.Donation,
          refl,
          λ i. Structure.Donation record { sequence = 0; facility = facility i; first = d.first; year = year i } record { number = 0 },
        )
    by {x} (whole all same other long few) h =
        let (k, b, r) = structure_out x h in
        let one : eqb (number_of k) 1 ≡ false = rw r.kind at other in
        (k, r.kind, ap (unshown k) all ∙ unshown_other k b (content x) one ∙ r.made ∙ sym same)

-- a blank says that a structure follows, and its number how much is shown of it
abbrev structure_then : Option Kind → (List ℕ → List Structure) → List ℕ → List Structure
structure_then none rest c = []
structure_then (some k) rest c = unshown k (take (shown_width (some k)) c) ∷ rest (drop (shown_width (some k)) c)

abbrev structures_in : ℕ → List ℕ → List Structure
structures_in zero s = []
structures_in (suc n) s = cond (eqb (get_or s 0 0) (byte " ")) (structure_then (kind_at (take 3 (drop 1 s))) (structures_in n) (drop 5 s)) []

fields_back : (n : ℕ) (xs : List Structure) → length xs ≤ n → Each (LawfulIn Edition.Current) xs
    → structures_in n (fields xs ++ LF ∷ []) ≡ map masked_structure xs
fields_back zero [] l hs = refl
fields_back (suc n) [] l hs = refl
fields_back zero (x ∷ xs) l hs = absurd (omega arith)
fields_back (suc n) (x ∷ xs) l (h, hs) =
    let (k, kind, back) = shown_back x h.lawful in
    let rest = fields xs ++ LF ∷ [] in
    let long : length (shown x) ≡ shown_width (some k) = length_shown x ∙ ap shown_width kind in
    let named : kind_at (digits 3 (number_in x)) ≡ some k = ap (λ (o : Option Kind). kind_at (digits 3 (number_or o))) kind ∙ kind_back k in
    ap₂ (λ (o : Option Kind) (c : List ℕ). structure_then o (structures_in n) c) named (append_assoc (shown x) (fields xs) (LF ∷ []))
    ∙ ap₂ ◌∷◌ (ap (unshown k) (take_at (shown x) rest (shown_width (some k)) long) ∙ back)
    (ap (structures_in n) (drop_at (shown x) rest (shown_width (some k)) long) ∙ fields_back n xs (omega arith) hs)

-- the form that a letter names
abbrev form_at : ℕ → Form
form_at b = cond (eqb b (byte "S")) Form.Single (cond (eqb b (byte "P")) Form.Pair Form.Compound)

form_back : (f : Form) → form_at (letter f) ≡ f
form_back Form.Single = refl
form_back Form.Pair = refl
form_back Form.Compound = refl

-- the message that a line tells of
abbrev pub read_off : List ℕ → Message
read_off s = message_of (form_at (get_or s 0 0)) (number (take 3 (drop 1 s))) (structures_in 16 (drop 4 s))

-- a message is masked structure by structure
masked_entries : (p : ℕ) (xs : List Structure) → map masked_entry (entries_from p xs) ≡ entries_from p (map masked_structure xs)
masked_entries p [] = refl
masked_entries p (x ∷ xs) =
    let long = masked_written x in
    ap₂ ◌∷◌ (λ i. record { structure = masked_structure x; place = p; length = sym long i })
    (masked_entries (p + length (written x)) xs ∙ ap (λ (n : ℕ). entries_from (p + n) (map masked_structure xs)) (sym long))

masked_unused : (n : ℕ) → map masked_entry (replicate n no_entry) ≡ replicate n no_entry
masked_unused zero = refl
masked_unused (suc n) = ap (no_entry ∷◌) (masked_unused n)

masked_made : (form : Form) (bbb : ℕ) (xs : List Structure) → masked (message_of form bbb xs) ≡ message_of form bbb (map masked_structure xs)
masked_made form bbb xs =
    let p = start_of form in
    let long : length (map masked_structure xs) ≡ length xs = length-map xs masked_structure in
    let entries = map-append masked_entry (entries_from p xs) (replicate (16 - length xs) no_entry)
    ∙ ap₂ ◌++◌ (masked_entries p xs) (masked_unused (16 - length xs) ∙ ap (λ (n : ℕ). replicate (16 - n) no_entry) (sym long)) in
    λ i. record { entries = entries i; count = sym long i; bbb = bbb; form = form }

bbb_small : {m : Message} {s : List ℕ} → Produces Edition.Current m s → m.bbb < 1000
bbb_small (single x h is e) = rw is (omega arith)
bbb_small (pair x y h g p is e) = rw is (omega arith)
bbb_small (compound has bbb xs lo hi small hs d is e) = rw is (omega arith)

-- what can be read off the line of an accepted message is the message masked
pub line_back : {m : Message} {s : List ℕ} → Produces Edition.Current m s → read_off (line_of m) ≡ masked m
line_back {m} w =
    let d = made w in
    let form = d.form in
    let bbb = d.bbb in
    let small : bbb < 1000 = subst (λ (m : Message). m.bbb < 1000) d.is (bbb_small w) in
    let told : line_of (message_of form bbb d.xs) ≡ letter form ∷ (digits 3 bbb ++ (fields d.xs ++ LF ∷ [])) =
    ap (λ (xs : List Structure). letter form ∷ (digits 3 bbb ++ (fields xs ++ LF ∷ []))) (structures_back form bbb d.xs) in
    ap (λ (m : Message). read_off (line_of m)) d.is
    ∙ ap read_off told
    ∙ (λ i. message_of (form_back form i) (number_digits 3 bbb small i) (fields_back 16 d.xs d.room d.lawful i))
    ∙ sym (masked_made form bbb d.xs)
    ∙ ap masked (sym d.is)
