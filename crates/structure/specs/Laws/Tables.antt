-- The rows, counted kind by kind.
use Rattle.std.specs.Prelude.{ℕ, ◌+◌, ◌≡◌, refl, length}
use Rattle.std.proofs.Common.{ap, arith}
use Rattle.std.proofs.Math.Option.{some}
use Rattle.label.specs.declared.Structure.{Structure}
use Rattle.label.specs.declared.Kind.{Kind}
use Rattle.structure.specs.Structures.{kind_of, total_of, sets, refusals, written}

pub tables_whole : (k : Kind) → (2 + length (sets k) ≡ total_of k) × (2 + length (refusals k) ≡ total_of k)
tables_whole Kind.Donation = (refl, refl)
tables_whole Kind.Groups = (refl, refl)
tables_whole Kind.Product = (refl, refl)
tables_whole Kind.Expiry = (refl, refl)
tables_whole Kind.ExpiryTime = (refl, refl)
tables_whole Kind.Collection = (refl, refl)
tables_whole Kind.CollectionTime = (refl, refl)
tables_whole Kind.Production = (refl, refl)
tables_whole Kind.ProductionTime = (refl, refl)
tables_whole Kind.Testing = (refl, refl)
tables_whole Kind.Antigens = (refl, refl)
tables_whole Kind.Lot = (refl, refl)
tables_whole Kind.Flexible = (refl, refl)
tables_whole Kind.Antigens2001 = (refl, refl)

pub total_bytes : (x : Structure) {k : Kind} → kind_of x ≡ some k → length (written x) ≡ total_of k
total_bytes Structure.Empty e = let z : ◌≡◌ {A = ℕ} 0 1 = cc in absurd (omega arith)
total_bytes (Structure.Donation d f) {k} e = let is : Kind.Donation ≡ k = cc in ap total_of is
total_bytes (Structure.Groups g) {k} e = let is : Kind.Groups ≡ k = cc in ap total_of is
total_bytes (Structure.Product p) {k} e = let is : Kind.Product ≡ k = cc in ap total_of is
total_bytes (Structure.Expiry d) {k} e = let is : Kind.Expiry ≡ k = cc in ap total_of is
total_bytes (Structure.ExpiryTime d t) {k} e = let is : Kind.ExpiryTime ≡ k = cc in ap total_of is
total_bytes (Structure.Collection d) {k} e = let is : Kind.Collection ≡ k = cc in ap total_of is
total_bytes (Structure.CollectionTime d t) {k} e = let is : Kind.CollectionTime ≡ k = cc in ap total_of is
total_bytes (Structure.Production d) {k} e = let is : Kind.Production ≡ k = cc in ap total_of is
total_bytes (Structure.ProductionTime d t) {k} e = let is : Kind.ProductionTime ≡ k = cc in ap total_of is
total_bytes (Structure.Testing t) {k} e = let is : Kind.Testing ≡ k = cc in ap total_of is
total_bytes (Structure.Antigens a) {k} e = let is : Kind.Antigens ≡ k = cc in ap total_of is
total_bytes (Structure.Lot l) {k} e = let is : Kind.Lot ≡ k = cc in ap total_of is
total_bytes (Structure.Flexible f d t) {k} e = let is : Kind.Flexible ≡ k = cc in ap total_of is
total_bytes (Structure.Antigens2001 a) {k} e = let is : Kind.Antigens2001 ≡ k = cc in ap total_of is
