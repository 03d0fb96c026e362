-- A structure's field and its writing end alike: the field's tag and length stand over the first bytes of the writing.
use Rattle.std.specs.Prelude.{ℕ, ◌+◌, ◌-◌, ◌/◌, ◌%◌, ◌≤◌, ◌≡◌, refl, Bool, true, false, cond, List, ◌∷◌, eqb, length, drop}
use Rattle.std.proofs.Common.{sym, ap, ap₂, ◌∙◌, arith, length-drop}
use Rattle.label.specs.declared.Structure.{Structure}
use Rattle.structure.specs.Structures.{body, Lawful, content, written}
use Rattle.structure.specs.Laws.Kinds.{number_in, structure_out, spelled}
use Rattle.host_record.specs.Record.{field_of}
use Rattle.host_record.specs.Laws.Fields.{skip, data_is}

-- how far behind its tag's place a structure is written so that its data falls into place: an 001's has one byte of the identifier
abbrev pub ahead : Structure → ℕ
ahead x = skip (number_in x)

pub ahead_few : (x : Structure) → (1 ≤ ahead x) × (ahead x ≤ 2)
ahead_few x = by (eqb (number_in x) 1)
  where
    by : (t : Bool) → (1 ≤ cond t 2 1) × (cond t 2 1 ≤ 2)
    by true = (omega arith, omega arith)
    by false = (omega arith, omega arith)

module _ (x : Structure) (h : Lawful x) where
  -- the identifier's two bytes
  pub written_some : 2 ≤ length (written x)
  written_some = let (k, b, r) = structure_out x h in rw (spelled r) (omega arith)

  data_past : body x ≡ drop (3 - ahead x) (written x)
  data_past = data_is x ∙ by (eqb (number_in x) 1)
    where
      by : (t : Bool) → cond t (drop 1 (written x)) (content x) ≡ drop (3 - cond t 2 1) (written x)
      by true = refl
      by false = refl

  pub field_length : length (field_of x) ≡ length (written x) + ahead x
  field_length =
      let (lo, hi) = ahead_few x in
      let long = ap length data_past ∙ length-drop (3 - ahead x) (written x) in
      omega (arith, written_some)

  -- a tag and a length over the front of the writing are the field
  pub field_over : {tag long : ℕ} → tag ≡ number_in x → long ≡ length (body x)
      → tag ∷ long / 256 ∷ long % 256 ∷ drop (3 - ahead x) (written x) ≡ field_of x
  field_over e is =
      ap₂ (λ (t n : ℕ). t ∷ n / 256 ∷ n % 256 ∷ drop (3 - ahead x) (written x)) e is
      ∙ ap (λ (l : List ℕ). number_in x ∷ length (body x) / 256 ∷ length (body x) % 256 ∷ l) (sym data_past)
