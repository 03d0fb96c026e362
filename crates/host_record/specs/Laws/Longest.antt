-- How long a field, and so a record, can be.
use Rattle.std.specs.Prelude.{ℕ, ◌+◌, ◌*◌, ◌≤◌, ◌≡◌, refl, true, List, [], ◌∷◌, ◌++◌, leb, length}
use Rattle.std.proofs.Common.{ap, arith, length-append, leb-true}
use Rattle.demand.specs.Each.{Each}
use Rattle.label.specs.declared.Edition.{Edition}
use Rattle.label.specs.declared.Form.{Form}
use Rattle.label.specs.declared.Kind.{Kind}
use Rattle.label.specs.declared.Message.{Message}
use Rattle.label.specs.declared.Structure.{Structure}
use Rattle.structure.specs.Structures.{kinds_of, Among, number_of, total_of, LawfulIn}
use Rattle.structure.specs.Theorems.{total_bytes}
use Rattle.structure.specs.Laws.Due.{each_among}
use Rattle.structure.specs.Laws.Kinds.{number_or}
use Rattle.message.specs.Grammar.{message_of}
use Rattle.message.specs.Laws.Longest.{sixteen, sixteen_lawful}
use Rattle.host_record.specs.Record.{field_of, fields_of, head_field, Records, longest_record}
use Rattle.host_record.specs.Laws.Fields.{skip}
use Rattle.host_record.specs.Laws.Lengths.{field_length}
use Rattle.host_record.specs.Laws.Tree.{Recorded, single, pair, compound, recorded, records_of}

kind_at_most : {k : Kind} → Among k (kinds_of Edition.Current) → leb (total_of k + skip (number_of k)) 21 ≡ true
kind_at_most m =
    each_among (λ (k : Kind). leb (total_of k + skip (number_of k)) 21 ≡ true)
    (refl, (refl, (refl, (refl, (refl, (refl, (refl, (refl, (refl, (refl, (refl, (refl, (refl, tt))))))))))))) m

field_at_most : (x : Structure) → LawfulIn Edition.Current x → length (field_of x) ≤ 21
field_at_most x h =
    let number = ap (λ o. skip (number_or o)) h.is in
    omega (
      arith,
      field_length x h.lawful,
      total_bytes x h.is,
      leb-true (total_of h.kind + skip (number_of h.kind)) 21 (kind_at_most h.among),
    )

fields_at_most : (xs : List Structure) → Each (LawfulIn Edition.Current) xs → length (fields_of xs) ≤ 21 * length xs
fields_at_most [] hs = omega arith
fields_at_most (x ∷ xs) (h, hs) = omega (arith, length-append (field_of x) (fields_of xs), field_at_most x h, fields_at_most xs hs)

pub at_most : {m : Message} {r : List ℕ} → Records m r → length r ≤ longest_record
at_most w = by (recorded w)
  where
    by : {m : Message} {r : List ℕ} → Recorded m r → length r ≤ longest_record
    by (single x h is e) = rw e (omega (arith, field_at_most x h))
    by (pair x y h g p is e) = rw e (omega (arith, length-append (field_of x) (field_of y), field_at_most x h, field_at_most y g))
    by (compound bbb xs lo hi small hs d is e) =
        rw e (omega (arith, length-append (head_field (length xs) bbb) (fields_of xs), fields_at_most xs hs))

pub as_long : (m : Message) × (r : List ℕ) × Records m r × (length r ≡ longest_record)
unfolding sixteen
as_long = (
  message_of Form.Compound 0 sixteen,
  head_field 16 0 ++ fields_of sixteen,
  records_of (compound 0 sixteen (omega arith) (omega arith) (omega arith) sixteen_lawful (omega arith) refl refl),
  refl,
)
