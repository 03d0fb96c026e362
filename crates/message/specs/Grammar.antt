-- 01, "The grammar of a message" and "What a reading is": which byte strings are writings of which messages. No reader is named.
use Rattle.std.specs.Prelude.{ℕ, ◌+◌, ◌-◌, ◌≤◌, ◌≡◌, cond, List, [], ◌∷◌, ◌++◌, length, replicate}
use Rattle.std.proofs.Math.Option.{Option, some, none}
use Rattle.demand.specs.Each.{Each}
use Rattle.text.specs.Bytes.{byte}
use Rattle.text.specs.Decimal.{digits}
use Rattle.label.specs.declared.Structure.{Structure}
use Rattle.label.specs.declared.Kind.{Kind}
use Rattle.label.specs.declared.Edition.{Edition}
use Rattle.label.specs.declared.Form.{Form}
use Rattle.label.specs.declared.Entry.{Entry}
use Rattle.label.specs.declared.Message.{Message}
use Rattle.structure.specs.Structures.{kind_of, kinds_of, Among, is_kind, LawfulIn, written}

-- a place for one structure, with "the place of its first byte and its total length" (W-209)
abbrev pub entry_of : ℕ → Structure → Entry
entry_of p x = record { structure = x; place = p; length = length (written x) }

-- "the empty entries have 0 and 0"
abbrev pub no_entry : Entry
no_entry = record { structure = Structure.Empty; place = 0; length = 0 }

-- structures one after the other, the first of them at p
abbrev pub entries_from : ℕ → List Structure → List Entry
entries_from p [] = []
entries_from p (x ∷ xs) = entry_of p x ∷ entries_from (p + length (written x)) xs

-- "sixteen places for them, those past the number being empty"
abbrev pub places : ℕ → List Structure → List Entry
places p xs = entries_from p xs ++ replicate (16 - length xs) no_entry

-- where the first structure of a form stands: behind an 023's seven bytes in a compound, else first
abbrev pub start_of : Form → ℕ
start_of Form.Single = 0
start_of Form.Pair = 0
start_of Form.Compound = 7

-- "a message holds its form, its bbb (0 for single and pair), the number of structures and sixteen places for them"
abbrev pub message_of : Form → ℕ → List Structure → Message
message_of form bbb xs = record { entries = places (start_of form) xs; count = length xs; bbb = bbb; form = form }

-- "form single, bbb 0, number 0, all sixteen places empty"
abbrev pub empty_message : Message
empty_message = message_of Form.Single 0 []

-- "an 001 then an 002, or an 003 then an 005"
pub data Pairs : Kind → Kind → Type 0 where
  donation_groups : Pairs Kind.Donation Kind.Groups
  product_expiry : Pairs Kind.Product Kind.ExpiryTime

-- "023": =+, aa, bbb
abbrev pub header : ℕ → ℕ → List ℕ
header aa bbb = byte "=" ∷ byte "+" ∷ (digits 2 aa ++ digits 3 bbb)

-- structures one after the other, each in its own bytes
abbrev pub in_turn : (Structure → List ℕ) → List Structure → List ℕ
in_turn f [] = []
in_turn f (x ∷ xs) = f x ++ in_turn f xs

-- and as a label has them
abbrev pub written_all : List Structure → List ℕ
written_all xs = in_turn written xs

-- W-208, "at most one 001": 1 for a donation number, 0 for any other kind and for none; and how many of them the structures have
abbrev pub donation_in : Option Kind → ℕ
donation_in none = 0
donation_in (some k) = cond (is_kind k Kind.Donation) 1 0

abbrev pub donations : List Structure → ℕ
donations [] = 0
donations (x ∷ xs) = donation_in (kind_of x) + donations xs

-- W-212: the edition of 2001 has "singles and pairs only", so an 023 and compounds are the current edition's
pub data HasCompounds : Edition → Type 0 where
  current : HasCompounds Edition.Current

-- W-212, "a label of the later edition's kinds": a single of a kind that the edition of 2001 has not, or a compound
pub data Later (m : Message) : Type 0 where
  later_kind : (x : Structure) (k : Kind) → m ≡ message_of Form.Single 0 (x ∷ []) → kind_of x ≡ some k
      → (Among k (kinds_of Edition.Of2001) → ⊥) → Later m
  later_form : m.form ≡ Form.Compound → Later m

-- "a message is one of" single, pair and compound: s is a writing of m in an edition
pub data Produces (ed : Edition) (m : Message) (s : List ℕ) : Type 0 where
  -- "one structure other than 023", of one of the edition's kinds
  single : (x : Structure) → LawfulIn ed x → m ≡ message_of Form.Single 0 (x ∷ []) → s ≡ written x → Produces ed m s
  -- "as the bars lie on the label"; W-212: the same two pairs in both editions
  pair : (x y : Structure) (h : LawfulIn ed x) (g : LawfulIn ed y) → Pairs h.kind g.kind → m ≡ message_of Form.Pair 0 (x ∷ y ∷ [])
      → s ≡ written x ++ written y → Produces ed m s
  -- "an 023, then exactly aa structures, none of them an 023"; aa is 01 to 16, bbb three digits; W-208: "at most one 001"
  compound : HasCompounds ed → (bbb : ℕ) (xs : List Structure) → 1 ≤ length xs → length xs ≤ 16 → bbb ≤ 999 → Each (LawfulIn ed) xs
      → donations xs ≤ 1 → m ≡ message_of Form.Compound bbb xs → s ≡ header (length xs) bbb ++ written_all xs → Produces ed m s

-- "the longest has 327 bytes"; in the edition of 2001 it is a pair
abbrev pub longest_of : Edition → ℕ
longest_of Edition.Current = 327
longest_of Edition.Of2001 = 22
