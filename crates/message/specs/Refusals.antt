-- 01, "Refusal numbers": the rows that a reading can have, by edition, fatal byte b and the bytes p before it. No reader is named.
use Rattle.std.specs.Prelude.{ℕ, ◌≡◌, Bool, true, false, List, [], ◌∷◌, ◌++◌, replicate, take}
use Rattle.std.proofs.Math.Option.{some}
use Rattle.demand.specs.Demand.{Acceptable, Answer, Right}
use Rattle.demand.specs.Numbers.{IDENTIFIER, NESTED, CHARACTER, VALUE, TRAILING, REPEAT}
use Rattle.text.specs.Bytes.{byte, digit}
use Rattle.label.specs.declared.Structure.{Structure}
use Rattle.label.specs.declared.Kind.{Kind}
use Rattle.label.specs.declared.Edition.{Edition}
use Rattle.label.specs.declared.Message.{Message}
use Rattle.structure.specs.Structures.{kind_of, identifier, sets, refusals, Lawful, written}
use Rattle.message.specs.Grammar.{header, Produces}
use Rattle.message.specs.Where.{Layout, Due, Hoped, Inside, Nested, Repeated}

-- a label's bytes: an 023 is "=+" and five digits
abbrev pub on_a_label : Layout
on_a_label =
    record {
      head = header;
      head_name = byte "=" ∷ byte "+" ∷ [];
      head_sets = replicate 5 digit;
      head_refusals = replicate 5 VALUE;
      structure = written;
      name = identifier;
      sets = sets;
      refusals = refusals;
    }

-- the byte after p "stands first or second where a structure is due"
pub data Opening (ed : Edition) (p : List ℕ) : Type 0 where
  first : Due on_a_label ed p → Opening ed p
  second : (q : List ℕ) (a : ℕ) → Due on_a_label ed q → p ≡ q ++ a ∷ [] → Opening ed p

-- 6: "right after a complete single, pair or compound, or breaks the identifier of a hoped-for second of a pair"
pub data Trailing (ed : Edition) (p : List ℕ) : Type 0 where
  complete : Acceptable (Produces ed) p → Trailing ed p
  breaks : (q : List ℕ) (l : Kind) (y : Structure) → Hoped on_a_label ed q l → Lawful y → kind_of y ≡ some l → p ≡ q ++ take 1 (identifier y)
      → Trailing ed p

-- the table's rows 2 to 6 and 10 to 13: b, fatal after p, has the refusal number n
pub data Fatal (ed : Edition) (p : List ℕ) (b n : ℕ) : Type 0 where
  -- "and neither 3 nor 6 applies", nor 13
  row_identifier : Opening ed p → (Nested on_a_label ed p b → ⊥) → (Repeated on_a_label ed p b → ⊥) → (Trailing ed p → ⊥) → n ≡ IDENTIFIER
      → Fatal ed p b n
  row_nested : Nested on_a_label ed p b → n ≡ NESTED → Fatal ed p b n
  row_repeat : Repeated on_a_label ed p b → n ≡ REPEAT → Fatal ed p b n
  -- "outside its position's set"
  row_character : (σ : ℕ → Bool) (v : ℕ) → Inside on_a_label ed p σ v → σ b ≡ false → n ≡ CHARACTER → Fatal ed p b n
  -- "in its position's set, but no lawful value goes on from there": the position's refusal number, VALUE, CHECK (W-203, W-212), DAY or TIME (W-204)
  row_value : (σ : ℕ → Bool) (v : ℕ) → Inside on_a_label ed p σ v → σ b ≡ true → n ≡ v → Fatal ed p b n
  row_trailing : Trailing ed p → n ≡ TRAILING → Fatal ed p b n

-- the answers that are right for a scan in an edition: value, refusal number and place
abbrev pub RightReading : Edition → List ℕ → Answer Message → Type 0
RightReading ed s a = Right (Produces ed) (Fatal ed) s a
