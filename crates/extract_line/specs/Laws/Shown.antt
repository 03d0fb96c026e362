-- What is shown of a structure and what is hidden: an 001 is the only one that hides something.
use Rattle.std.specs.Prelude.{ℕ, zero, suc, ◌+◌, ◌≤◌, ◌≡◌, refl, true, false, List, [], ◌∷◌, ◌++◌, map, leb, eqb, length, take}
use Rattle.std.proofs.Common.{ap, ap₂, ◌∙◌, arith, leb-true, length-append}
use Rattle.text.specs.Decimal.{digits}
use Rattle.label.specs.declared.Donation.{Donation}
use Rattle.label.specs.declared.Flags.{Flags}
use Rattle.label.specs.declared.Structure.{Structure}
use Rattle.label.specs.declared.Entry.{Entry}
use Rattle.label.specs.declared.Message.{Message}
use Rattle.structure.specs.Structures.{kind_of, content, written}
use Rattle.structure.specs.Laws.Kinds.{number_in}
use Rattle.message.specs.Writing.{structures_of}
use Rattle.lines.specs.Lines.{LF}
use Rattle.extract_line.specs.Extract.{shown, letter, field, fields, line_of, shown_width, widths}
use Rattle.extract_line.specs.Masked.{masked_structure, masked_entry, masked}

-- an 001, or a structure whose whole content is shown
pub data Seen : Structure → Type 0 where
  donation : (d : Donation) (f : Flags) → Seen (Structure.Donation d f)
  whole : {x : Structure} → shown x ≡ content x → masked_structure x ≡ x → eqb (number_in x) 1 ≡ false
      → length (content x) ≡ shown_width (kind_of x) → leb (length (content x)) 19 ≡ true → Seen x

pub seen : (x : Structure) → Seen x
seen Structure.Empty = whole refl refl refl refl refl
seen (Structure.Donation d f) = donation d f
seen (Structure.Groups g) = whole refl refl refl refl refl
seen (Structure.Product p) = whole refl refl refl refl refl
seen (Structure.Expiry d) = whole refl refl refl refl refl
seen (Structure.ExpiryTime d t) = whole refl refl refl refl refl
seen (Structure.Collection d) = whole refl refl refl refl refl
seen (Structure.CollectionTime d t) = whole refl refl refl refl refl
seen (Structure.Production d) = whole refl refl refl refl refl
seen (Structure.ProductionTime d t) = whole refl refl refl refl refl
seen (Structure.Testing t) = whole refl refl refl refl refl
seen (Structure.Antigens a) = whole refl refl refl refl refl
seen (Structure.Lot l) = whole refl refl refl refl refl
seen (Structure.Flexible f d t) = whole refl refl refl refl refl
seen (Structure.Antigens2001 a) = whole refl refl refl refl refl

-- how much is shown
pub length_shown : (x : Structure) → length (shown x) ≡ shown_width (kind_of x)
length_shown x = by (seen x)
  where
    by : {x : Structure} → Seen x → length (shown x) ≡ shown_width (kind_of x)
    by (donation d f) = refl
    by (whole all same other long few) = ap length all ∙ long

pub shown_few : (x : Structure) → length (shown x) ≤ 19
shown_few x = by (seen x)
  where
    by : {x : Structure} → Seen x → length (shown x) ≤ 19
    by (donation d f) = omega arith
    by {x} (whole all same other long few) = rw all (leb-true (length (content x)) 19 few)

-- what is hidden leaves the field and the length as they are
masked_field : (x : Structure) → field (masked_structure x) ≡ field x
masked_field x = by (seen x)
  where
    by : {x : Structure} → Seen x → field (masked_structure x) ≡ field x
    by (donation d f) = refl
    by (whole all same other long few) = ap field same

pub masked_written : (x : Structure) → length (written (masked_structure x)) ≡ length (written x)
masked_written x = by (seen x)
  where
    by : {x : Structure} → Seen x → length (written (masked_structure x)) ≡ length (written x)
    by (donation d f) = refl
    by (whole all same other long few) = ap (λ (y : Structure). length (written y)) same

-- so the line is that of the masked message
masked_fields : (n : ℕ) (es : List Entry)
    → fields (map (λ (e : Entry). e.structure) (take n (map masked_entry es))) ≡ fields (map (λ (e : Entry). e.structure) (take n es))
masked_fields zero es = refl
masked_fields (suc n) [] = refl
masked_fields (suc n) (e ∷ es) = ap₂ ◌++◌ (masked_field e.structure) (masked_fields n es)

pub masked_line : (m : Message) → line_of (masked m) ≡ line_of m
masked_line m = ap (λ (t : List ℕ). letter m.form ∷ (digits 3 m.bbb ++ (t ++ LF ∷ []))) (masked_fields m.count m.entries)

-- the line's length goes by the kinds alone
length_fields : (xs : List Structure) → length (fields xs) ≡ widths (map kind_of xs)
length_fields [] = refl
length_fields (x ∷ xs) = omega (arith, length-append (shown x) (fields xs), length_shown x, length_fields xs)

pub line_length : (m : Message) → length (line_of m) ≡ 5 + widths (map kind_of (structures_of m))
line_length m =
    let xs = structures_of m in
    omega (arith, length-append (fields xs) (LF ∷ []), length_fields xs)
