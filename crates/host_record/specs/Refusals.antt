-- W-213: the refusal numbers of a record, by the fatal byte b and the bytes p before it. No reader is named.
use Rattle.std.specs.Prelude.{ℕ, ◌≡◌, Bool, true, false, List, [], ◌∷◌, replicate}
use Rattle.demand.specs.Demand.{Acceptable}
use Rattle.demand.specs.Numbers.{NESTED, CHARACTER, VALUE, TRAILING, REPEAT, TAG, LENGTH}
use Rattle.text.specs.Bytes.{digit}
use Rattle.label.specs.declared.Edition.{Edition}
use Rattle.label.specs.declared.Kind.{Kind}
use Rattle.structure.specs.Structures.{row, number_in}
use Rattle.message.specs.Where.{Layout, Due, Inside, Nested, Repeated}
use Rattle.host_record.specs.Record.{field_of, HEAD, head_field, Records}

-- every byte is in the set of a length's position: a wrong one is LENGTH and not CHARACTER
abbrev pub any_byte : ℕ → Bool
any_byte b = true

-- the sets of the positions past a kind's tag: the length's, and the content's as in reading, "CHARACTER for tag 1's first character"
abbrev pub field_sets : Kind → List (ℕ → Bool)
field_sets k = any_byte ∷ any_byte ∷ (row k).content

-- the refusal number of a byte of its set where no record goes on: "18 LENGTH for a length byte", and the content's
abbrev pub field_refusals : Kind → List ℕ
field_refusals k = LENGTH ∷ LENGTH ∷ (row k).refusals

-- the sets past tag 23: the length's, and five digits
abbrev pub head_sets : List (ℕ → Bool)
head_sets = any_byte ∷ any_byte ∷ replicate 5 digit

-- and the refusal numbers there
abbrev pub head_refusals : List ℕ
head_refusals = LENGTH ∷ LENGTH ∷ replicate 5 VALUE

-- a record's fields: a tag names each, "a tag must fit the grammar at that spot", and the rest is as long as its kind has it
abbrev pub in_a_record : Layout
in_a_record =
    record {
      head = head_field;
      head_name = HEAD ∷ [];
      head_sets = head_sets;
      head_refusals = head_refusals;
      structure = field_of;
      name = λ x. number_in x ∷ [];
      sets = field_sets;
      refusals = field_refusals;
    }

-- b, fatal after p, has the refusal number n
pub data Fatal (p : List ℕ) (b n : ℕ) : Type 0 where
  -- "TRAILING right after a complete single, pair or compound"
  row_trailing : Acceptable Records p → n ≡ TRAILING → Fatal p b n
  -- "13 REPEAT for a second tag 1 in a compound"
  row_repeat : Repeated in_a_record Edition.Current p b → n ≡ REPEAT → Fatal p b n
  -- "3 NESTED for a second tag 23"
  row_nested : Nested in_a_record Edition.Current p b → n ≡ NESTED → Fatal p b n
  -- "17 TAG for other tags"
  row_tag : Due in_a_record Edition.Current p → (Repeated in_a_record Edition.Current p b → ⊥) → (Nested in_a_record Edition.Current p b → ⊥)
      → n ≡ TAG → Fatal p b n
  -- outside its position's set
  row_character : (σ : ℕ → Bool) (v : ℕ) → Inside in_a_record Edition.Current p σ v → σ b ≡ false → n ≡ CHARACTER → Fatal p b n
  -- in its position's set, but no lawful length or value goes on from there
  row_value : (σ : ℕ → Bool) (v : ℕ) → Inside in_a_record Edition.Current p σ v → σ b ≡ true → n ≡ v → Fatal p b n
