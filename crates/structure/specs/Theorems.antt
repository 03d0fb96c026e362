-- What follows from the table of structures.
use Rattle.std.specs.Prelude.{◌+◌, ◌≡◌, refl, [], ◌∷◌, map, length}
use Rattle.std.proofs.Math.Option.{some}
use Rattle.label.specs.declared.Structure.{Structure}
use Rattle.label.specs.declared.Kind.{Kind}
use Rattle.structure.specs.Structures.{kind_of, every_kind, total_of, sets, refusals, written}
use Rattle.structure.specs.Laws.Tables as tables

-- a structure's writing has its kind's "Total bytes", whatever its values
pub total_bytes : (x : Structure) {k : Kind} → kind_of x ≡ some k → length (written x) ≡ total_of k
total_bytes x e = tables.total_bytes x e

-- column "Total bytes" but for the 023's, in the table's order and then 031 and the antigen structure of 2001
pub totals : map total_of every_kind ≡ 16 ∷ 6 ∷ 10 ∷ 8 ∷ 12 ∷ 8 ∷ 12 ∷ 8 ∷ 12 ∷ 7 ∷ 20 ∷ 12 ∷ 18 ∷ 21 ∷ []
totals = refl

-- columns "Content" and "Total bytes", and the refusal numbers of 01, W-203 and W-204: each byte past the identifier's two has one set and one refusal number
pub tables_whole : (k : Kind) → (2 + length (sets k) ≡ total_of k) × (2 + length (refusals k) ≡ total_of k)
tables_whole k = tables.tables_whole k
