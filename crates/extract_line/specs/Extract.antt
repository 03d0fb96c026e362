-- W-211: the research extract's line of an accepted message, by its values alone. No reader is named.
use Rattle.std.specs.Prelude.{ℕ, ◌+◌, ◌-◌, cond, List, [], ◌∷◌, ◌++◌}
use Rattle.std.proofs.Math.Option.{Option, some, none}
use Rattle.text.specs.Bytes.{byte}
use Rattle.text.specs.Decimal.{digits}
use Rattle.label.specs.declared.Structure.{Structure}
use Rattle.label.specs.declared.Kind.{Kind}
use Rattle.label.specs.declared.Form.{Form}
use Rattle.label.specs.declared.Message.{Message}
use Rattle.structure.specs.Structures.{is_kind, number_in, total_of, content}
use Rattle.message.specs.Writing.{structures_of}
use Rattle.lines.specs.Lines.{LF}

-- "all its values, but neither nnnnnn nor ff": of an 001 its first character, pppp and yy, of any other kind its content
abbrev pub shown : Structure → List ℕ
shown Structure.Empty = []
shown (Structure.Donation d f) = d.first ∷ (digits 4 d.facility ++ digits 2 d.year)
shown (Structure.Groups g) = content (Structure.Groups g)
shown (Structure.Product p) = content (Structure.Product p)
shown (Structure.Expiry d) = content (Structure.Expiry d)
shown (Structure.ExpiryTime d t) = content (Structure.ExpiryTime d t)
shown (Structure.Collection d) = content (Structure.Collection d)
shown (Structure.CollectionTime d t) = content (Structure.CollectionTime d t)
shown (Structure.Production d) = content (Structure.Production d)
shown (Structure.ProductionTime d t) = content (Structure.ProductionTime d t)
shown (Structure.Testing t) = content (Structure.Testing t)
shown (Structure.Antigens a) = content (Structure.Antigens a)
shown (Structure.Lot l) = content (Structure.Lot l)
shown (Structure.Flexible f d t) = content (Structure.Flexible f d t)
shown (Structure.Antigens2001 a) = content (Structure.Antigens2001 a)

-- "its form": the first letter of its name
abbrev pub letter : Form → ℕ
letter Form.Single = byte "S"
letter Form.Pair = byte "P"
letter Form.Compound = byte "C"

-- "each structure's number" in three digits, then what is shown of it, with one blank before each
abbrev pub field : Structure → List ℕ
field x = byte " " ∷ (digits 3 (number_in x) ++ byte " " ∷ shown x)

abbrev pub fields : List Structure → List ℕ
fields [] = []
fields (x ∷ xs) = field x ++ fields xs

-- "its form, its bbb" in three digits, the structures within the count, and LF
abbrev pub line_of : Message → List ℕ
line_of m = letter m.form ∷ (digits 3 m.bbb ++ (fields (structures_of m) ++ LF ∷ []))

-- "all structures are of fixed length": how much is shown of a kind, seven characters of an 001, and of any other kind all but its identifier
abbrev pub shown_width : Option Kind → ℕ
shown_width none = 0
shown_width (some k) = cond (is_kind k Kind.Donation) 7 (total_of k - 2)

-- how many bytes the structures of these kinds take in the line: each its number, two blanks and what is shown
abbrev pub widths : List (Option Kind) → ℕ
widths [] = 0
widths (k ∷ ks) = (5 + shown_width k) + widths ks
