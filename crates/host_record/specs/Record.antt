-- W-213, "Records for the hospital host": which bytes are the record of which message. Neither import nor export is named.
use Rattle.std.specs.Prelude.{ℕ, ◌/◌, ◌%◌, ◌≡◌, List, [], ◌∷◌, ◌++◌, length}
use Rattle.text.specs.Decimal.{digits}
use Rattle.label.specs.declared.Edition.{Edition}
use Rattle.label.specs.declared.Form.{Form}
use Rattle.label.specs.declared.Message.{Message}
use Rattle.label.specs.declared.Structure.{Structure}
use Rattle.structure.specs.Structures.{number_in, body}
use Rattle.message.specs.Grammar.{in_turn, Produces}
use Rattle.message.specs.Writing.{structures_of}

-- "one tag byte, a two-byte length, high byte first, then the data"
abbrev pub field : ℕ → List ℕ → List ℕ
field tag d = tag ∷ length d / 256 ∷ length d % 256 ∷ d

-- "each structure is a field whose tag is its number" and "whose data is its content; for 001 that is the fifteen characters after ="
abbrev pub field_of : Structure → List ℕ
field_of x = field (number_in x) (body x)

-- the fields of structures one after the other
abbrev pub fields_of : List Structure → List ℕ
fields_of xs = in_turn field_of xs

-- "tag 23", which no structure has
abbrev pub HEAD : ℕ
HEAD = 23

-- "a tag 23 field holding aa and bbb"
abbrev pub head_field : ℕ → ℕ → List ℕ
head_field aa bbb = field HEAD (digits 2 aa ++ digits 3 bbb)

-- "a compound starts with" it
abbrev pub starts : Form → ℕ → ℕ → List ℕ
starts Form.Single aa bbb = []
starts Form.Pair aa bbb = []
starts Form.Compound aa bbb = head_field aa bbb

-- the record that a form, a bbb and structures have
abbrev pub record_by : Form → ℕ → List Structure → List ℕ
record_by form bbb xs = starts form (length xs) bbb ++ fields_of xs

-- the record of a message: entries past its count have no field
abbrev pub record_of : Message → List ℕ
record_of m = record_by m.form m.bbb (structures_of m)

-- "export every accepted message of the current edition": r is the record of m, which holds "the places of its written label"
pub record Records (m : Message) (r : List ℕ) : Type 0 where
  pub label : List ℕ
  pub accepted : Produces Edition.Current m label
  pub is : r ≡ record_of m

-- the longest record has sixteen 012s
abbrev pub longest_record : ℕ
longest_record = 344
