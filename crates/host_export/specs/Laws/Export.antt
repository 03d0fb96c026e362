-- A field laid by way of its structure's writing, and the record that a message has.
use Rattle.std.specs.Prelude.{ℕ, ◌/◌, ◌%◌, ◌≤◌, ◌≡◌, refl, List, [], ◌∷◌, length}
use Rattle.std.proofs.Common.{sym, ap, ◌∙◌, arith}
use Rattle.text.specs.Buffer.{laid, laid_at}
use Rattle.text.specs.Laws.Laid.{laid_over}
use Rattle.label.specs.declared.Edition.{Edition}
use Rattle.label.specs.declared.Message.{Message}
use Rattle.label.specs.declared.Structure.{Structure}
use Rattle.structure.specs.Structures.{Lawful, body, written}
use Rattle.structure.specs.Laws.Kinds.{number_in}
use Rattle.message.specs.Writing.{structures_of, cleared}
use Rattle.message.specs.Laws.Write.{text_of}
use Rattle.message_writer.specs.Laws.Shape.{produces_text}
use Rattle.message_writer.specs.Laws.Stores.{Passed, passed_number}
use Rattle.message_writer.specs.Laws.Writer.{EachWithin}
use Rattle.host_record.specs.Record.{field_of, record_of, Records}
use Rattle.host_record.specs.Laws.Tree.{record_made}
use Rattle.host_record.specs.Laws.Lengths.{ahead, ahead_few, written_some, field_length, field_over}

pub passed_within : {m : Message} → Passed Edition.Current m → EachWithin Lawful m
passed_within p = record { few = passed_number p; each = p.lawful }

-- a lawful structure, and room for its field
pub record FieldRoom (x : Structure) (before : List ℕ) : Type 0 where
  pub lawful : Lawful x
  pub room : length (field_of x) ≤ length before

-- a structure's writing, and over its front a tag and a length
pub lays_field : {x : Structure} {before mid after : List ℕ} {tag long : ℕ} → FieldRoom x before → mid ≡ laid_at (ahead x) (written x) before
    → tag ≡ number_in x → long ≡ length (body x) → after ≡ laid (tag ∷ long / 256 ∷ long % 256 ∷ []) mid
    → after ≡ laid (field_of x) before
lays_field {x} {before} {tag = tag} {long = long} r writing named told fronted =
    let (lo, hi) = ahead_few x in
    let some = written_some x r.lawful in
    let is = field_length x r.lawful in
    laid_over (ahead x) (tag ∷ long / 256 ∷ long % 256 ∷ []) (written x) before (omega (arith, r.room)) (omega arith) (omega arith) writing fronted
    ∙ ap (λ (l : List ℕ). laid l before) (field_over x r.lawful named told)

-- a message has one record, and a message that passed has it
record_kept : (m : Message) → record_of (cleared m) ≡ record_of m
record_kept m = record_made m.form m.bbb (structures_of m) refl

pub one_record : (m : Message) (t : List ℕ) → Records (cleared m) t → t ≡ record_of m
one_record m t r = r.is ∙ record_kept m

pub passed_records : {m : Message} → length m.entries ≡ 16 → Passed Edition.Current m → Records (cleared m) (record_of m)
passed_records {m} sixteen p =
    record { label = text_of m; accepted = produces_text Edition.Current m sixteen p.shapely p.lawful; is = sym (record_kept m) }
