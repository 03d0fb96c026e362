-- No line of the extract is longer than two bytes for each byte of its scan and two more.
use Rattle.std.specs.Prelude.{ℕ, ◌+◌, ◌*◌, ◌≤◌, ◌≡◌, refl, true, List, [], ◌∷◌, leb, length}
use Rattle.std.proofs.Common.{sym, ap, ◌∙◌, subst, arith, length-append, leb-true}
use Rattle.std.proofs.Math.Option.{some}
use Rattle.demand.specs.Each.{Each}
use Rattle.label.specs.declared.Edition.{Edition}
use Rattle.label.specs.declared.Structure.{Structure}
use Rattle.label.specs.declared.Kind.{Kind}
use Rattle.label.specs.declared.Message.{Message}
use Rattle.structure.specs.Structures.{total_of, Lawful, LawfulIn, written}
use Rattle.structure.specs.Theorems.{total_bytes}
use Rattle.structure.specs.Laws.Kinds.{structure_out}
use Rattle.message.specs.Grammar.{message_of, written_all, Produces, single, pair, compound}
use Rattle.message.specs.Laws.Write.{front, made, structures_back}
use Rattle.extract_line.specs.Extract.{shown, field, fields, line_of, shown_width}
use Rattle.extract_line.specs.Laws.Shown.{length_shown}
use Rattle.extract_line.specs.Laws.Parts.{line_room}

-- so few that three bytes stay over for each structure
kind_short : (k : Kind) → leb (8 + shown_width (some k)) (2 * total_of k) ≡ true
kind_short Kind.Donation = refl
kind_short Kind.Groups = refl
kind_short Kind.Product = refl
kind_short Kind.Expiry = refl
kind_short Kind.ExpiryTime = refl
kind_short Kind.Collection = refl
kind_short Kind.CollectionTime = refl
kind_short Kind.Production = refl
kind_short Kind.ProductionTime = refl
kind_short Kind.Testing = refl
kind_short Kind.Antigens = refl
kind_short Kind.Lot = refl
kind_short Kind.Flexible = refl
kind_short Kind.Antigens2001 = refl

field_short : (x : Structure) → Lawful x → length (field x) + 3 ≤ 2 * length (written x)
field_short x h =
    let (k, b, r) = structure_out x h in
    let few = leb-true (8 + shown_width (some k)) (2 * total_of k) (kind_short k) in
    let width : length (shown x) ≡ shown_width (some k) = length_shown x ∙ ap shown_width r.kind in
    omega (arith, total_bytes x r.kind)

fields_short : (xs : List Structure) → Each (LawfulIn Edition.Current) xs → length (fields xs) + 3 * length xs ≤ 2 * length (written_all xs)
fields_short [] hs = omega arith
fields_short (x ∷ xs) (h, hs) =
    omega (arith, field_short x h.lawful, fields_short xs hs, length-append (field x) (fields xs), length-append (written x) (written_all xs))

some_structure : {m : Message} {s : List ℕ} → Produces Edition.Current m s → 1 ≤ m.count
some_structure (single x h is e) = rw is (omega arith)
some_structure (pair x y h g p is e) = rw is (omega arith)
some_structure (compound has bbb xs lo hi small hs d is e) = rw is lo

pub line_short : {m : Message} {s : List ℕ} → Produces Edition.Current m s → length (line_of m) ≤ 2 * length s + 2
line_short {m} {s} w =
    let d = made w in
    let f = front d.form (length d.xs) d.bbb in
    let n = message_of d.form d.bbb d.xs in
    let some = subst (λ (m : Message). 1 ≤ m.count) d.is (some_structure w) in
    let text = ap length d.text ∙ length-append f (written_all d.xs) in
    let told : length (line_of n) ≡ 5 + length (fields d.xs) =
    line_room n ∙ ap (λ (xs : List Structure). 5 + length (fields xs)) (structures_back d.form d.bbb d.xs) in
    let short : length (line_of n) ≤ 2 * length s + 2 = omega (arith, fields_short d.xs d.lawful) in
    subst (λ (m : Message). length (line_of m) ≤ 2 * length s + 2) (sym d.is) short
