-- The contract of `extract` leaves one answer and one buffer.
use Rattle.std.specs.Prelude.{ℕ, ◌≡◌, List}
use Rattle.std.proofs.Common.{sym, ◌∙◌, subst, arith}
use Rattle.label.specs.declared.Edition.{Edition}
use Rattle.message.specs.declared.Reading.{Reading}
use Rattle.message.specs.Theorems.{one_result}
use Rattle.message.specs.declared.Written.{Written}
use Rattle.extract_line.specs.Extracts.{Gives, row_refused, row_room, row_extracted, Extracts}

one_row : {r : Reading} {before after after' : List ℕ} {d e : Written} → Gives r before after d → Gives r before after' e
    → (d ≡ e) × (after ≡ after')
one_row (row_refused f is here) (row_refused g as' there) = (is ∙ sym as', here ∙ sym there)
one_row (row_refused f is here) (row_room z l as' there) = absurd (f z)
one_row (row_refused f is here) (row_extracted z l as' there) = absurd (f z)
one_row (row_room z l is here) (row_refused g as' there) = absurd (g z)
one_row (row_room z l is here) (row_room y o as' there) = (is ∙ sym as', here ∙ sym there)
one_row (row_room z l is here) (row_extracted y o as' there) = absurd (omega arith)
one_row (row_extracted z l is here) (row_refused g as' there) = absurd (g z)
one_row (row_extracted z l is here) (row_room y o as' there) = absurd (omega arith)
one_row (row_extracted z l is here) (row_extracted y o as' there) = (is ∙ sym as', here ∙ sym there)

pub one_extract : {scan before after after' : List ℕ} {d e : Written} → Extracts scan before after d → Extracts scan before after' e
    → (d ≡ e) × (after ≡ after')
one_extract {scan} {before} {after} {d = d} x y =
    let same = one_result Edition.Current scan x.reading y.reading x.answers y.answers in
    one_row (subst (λ (r : Reading). Gives r before after d) same x.gives) y.gives
