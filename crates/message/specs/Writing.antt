-- 01, "Refusal numbers": the rows of the writer, over the grammar of an edition. No writer is named.
use Rattle.std.specs.Prelude.{ℕ, ◌≤◌, ◌<◌, ◌≡◌, List, map, length, get_or, take}
use Rattle.std.proofs.Math.Option.{some}
use Rattle.demand.specs.Numbers.{ACCEPTED, SHAPE, FIELD, ROOM}
use Rattle.text.specs.Buffer.{laid}
use Rattle.label.specs.declared.Structure.{Structure}
use Rattle.label.specs.declared.Kind.{Kind}
use Rattle.label.specs.declared.Edition.{Edition}
use Rattle.label.specs.declared.Form.{Form}
use Rattle.label.specs.declared.Entry.{Entry}
use Rattle.label.specs.declared.Message.{Message}
use Rattle.structure.specs.Structures.{kind_of}
use Rattle.message.specs.declared.Written.{Written}
use Rattle.message.specs.Grammar.{no_entry, message_of, Produces}

-- the structure at an index
abbrev pub structure_at : Message → ℕ → Structure
structure_at m i = (get_or m.entries i no_entry).structure

-- a message of the grammar "has this form, this number of structures and the kinds of those within the number that are not empty"
pub record SameShape (m g : Message) : Type 0 where
  pub form : m.form ≡ g.form
  pub count : m.count ≡ g.count
  pub kinds : (i : ℕ) (k : Kind) → i < m.count → kind_of (structure_at m i) ≡ some k → kind_of (structure_at g i) ≡ some k

-- not so: "bbb is over 999, or not 0 in a single or pair"
pub data LawfulBbb (m : Message) : Type 0 where
  of_compound : m.form ≡ Form.Compound → m.bbb ≤ 999 → LawfulBbb m
  of_other : m.bbb ≡ 0 → LawfulBbb m

-- what row 7 asks for: a message of the grammar has the shape, and bbb is the form's; so a kind of the other edition has none (W-212)
pub record Shapely (ed : Edition) (m : Message) : Type 0 where
  pub model : Message
  pub text : List ℕ
  pub produced : Produces ed model text
  pub same : SameShape m model
  pub bbb : LawfulBbb m

-- "a value that reading can give"
pub record Given (ed : Edition) (x : Structure) : Type 0 where
  pub model : Message
  pub text : List ℕ
  pub produced : Produces ed model text
  pub index : ℕ
  pub inside : index < model.count
  pub there : structure_at model index ≡ x

-- what row 8 asks for: each structure within the count is one that reading can give
abbrev pub Fielded : Edition → Message → Type 0
Fielded ed m = (i : ℕ) → i < m.count → Given ed (structure_at m i)

-- the structures within the count
abbrev pub structures_of : Message → List Structure
structures_of m = map (λ (e : Entry). e.structure) (take m.count m.entries)

-- the message without what stands past its count, and with places and lengths worked out afresh
abbrev pub cleared : Message → Message
cleared m = message_of m.form m.bbb (structures_of m)

-- W-209, "the writer ignores the ones given": two messages that differ at most in places, lengths and what stands past their count
pub record Alike (m n : Message) : Type 0 where
  pub form : m.form ≡ n.form
  pub bbb : m.bbb ≡ n.bbb
  pub count : m.count ≡ n.count
  pub structures : structures_of m ≡ structures_of n

-- what is written of a message in a language W of an edition's messages: labels, or records (W-213)
module _ (W : Message → List ℕ → Type 0) where
  -- the table's rows of the writer, each with refusal number, place and buffer: SHAPE, then FIELD, then ROOM; a refusal leaves the bytes (demand 1)
  pub data StoresIn (ed : Edition) (m : Message) (before after : List ℕ) (w : Written) : Type 0 where
    row_shape : (Shapely ed m → ⊥) → w ≡ record { place = 0; refusal = SHAPE } → after ≡ before → StoresIn ed m before after w
    -- "its index, first such"
    row_field : Shapely ed m → (i : ℕ) → i < m.count → (Given ed (structure_at m i) → ⊥) → ((j : ℕ) → j < i → Given ed (structure_at m j))
        → w ≡ record { place = i; refusal = FIELD } → after ≡ before → StoresIn ed m before after w
    -- "bytes needed"
    row_room : Shapely ed m → Fielded ed m → (s : List ℕ) → W (cleared m) s → length before < length s
        → w ≡ record { place = length s; refusal = ROOM } → after ≡ before → StoresIn ed m before after w
    -- "none of 7 to 9 applies"; "from the buffer's first byte", and "changes no byte past it"
    row_accepted : Shapely ed m → Fielded ed m → (s : List ℕ) → W (cleared m) s → length s ≤ length before
        → w ≡ record { place = length s; refusal = ACCEPTED } → after ≡ laid s before → StoresIn ed m before after w

-- what `write` must give for an edition, a message and a buffer
abbrev pub Stores : Edition → Message → List ℕ → List ℕ → Written → Type 0
Stores ed m before after w = StoresIn (Produces ed) ed m before after w
