-- An import answers a record as the tree does, and records are a language of messages in which each has one writing.
use Rattle.std.specs.Prelude.{ℕ, zero, suc, ◌<◌, ◌≡◌, refl, Bool, true, false, cond, List, ◌∷◌, eqb, length, get_or}
use Rattle.std.proofs.Common.{sym, ◌∙◌, subst, arith}
use Rattle.demand.specs.Demand.{Answer, accepted, refused, Right}
use Rattle.demand.specs.Numbers.{VALUE}
use Rattle.demand.specs.Laws.Tree as tree
use Rattle.label.specs.declared.Edition.{Edition}
use Rattle.label.specs.declared.Kind.{Kind}
use Rattle.label.specs.declared.Message.{Message}
use Rattle.structure.specs.Structures.{number_of, refusals}
use Rattle.structure.specs.Laws.Kinds.{tell_at, table_tells}
use Rattle.message.specs.declared.Reading.{Reading}
use Rattle.message.specs.Laws.Answers.{Refusal, accepted_in, refused_in}
use Rattle.message.specs.Laws.Write.{Tongue}
use Rattle.host_record.specs.Record.{Records}
use Rattle.message.specs.Where.{of_structure, of_head}
use Rattle.host_record.specs.Refusals.{field_refusals, head_refusals, Fatal, row_trailing, row_repeat, row_nested, row_tag}
use Rattle.host_record.specs.Refusals.{row_character, row_value}
use Rattle.host_record.specs.Host.{Imports}
use Rattle.host_record.specs.Laws.Fields.{content_is}
use Rattle.host_record.specs.Laws.Tree.{records, record_out}
use Rattle.host_record.specs.Laws.Tour.{records_stand}
use Rattle.host_record.specs.Laws.Fixes.{fixes}

-- the answer of a record, worked out byte by byte
unfoldable pub answer : List ℕ → Answer Message
answer s = tree.run records s

pub answered : (s : List ℕ) → Right Records Fatal s (answer s)
unfolding answer
answered s = tree.run_right Records Fatal records record_out records_stand.1 s

pub one_answer : (s : List ℕ) (a b : Answer Message) → Right Records Fatal s a → Right Records Fatal s b → a ≡ b
one_answer s a b x y = tree.one_answer Records Fatal records record_out fixes s a b x y

pub one_message : {m n : Message} {r : List ℕ} → Records m r → Records n r → m ≡ n
one_message x y = tree.one_reading Records Fatal records record_out x y

pub tongue : Tongue Edition.Current Records
tongue = record { labelled = λ w. (w.label, w.accepted); one = λ v w. v.is ∙ sym w.is }

-- no number of the tables is 0, which stands for acceptance
field_tells : (k : Kind) (i : ℕ) → 0 < get_or (field_refusals k) i VALUE
field_tells k zero = omega arith
field_tells k (suc zero) = omega arith
field_tells k (suc (suc i)) = rw (content_is k).1 (by (eqb (number_of k) 1) i)
  where
    by : (t : Bool) (i : ℕ) → 0 < get_or (cond t (VALUE ∷ refusals k) (refusals k)) i VALUE
    by true zero = omega arith
    by true (suc i) = (table_tells k i).0
    by false i = (table_tells k i).0

head_tells : (i : ℕ) → 0 < get_or head_refusals i VALUE
head_tells i = (tell_at head_refusals i VALUE refl (omega arith) (omega arith)).0

row_number : {p : List ℕ} {b n : ℕ} → Fatal p b n → 0 < n
row_number (row_trailing a e) = omega arith
row_number (row_repeat h e) = omega arith
row_number (row_nested h e) = omega arith
row_number (row_tag d nr nn e) = omega arith
row_number (row_character σ v i o e) = omega arith
row_number (row_value σ v (of_structure q x k c may h kind l is set number) o e) = rw (e, number) (field_tells k (length c))
row_number (row_value σ v (of_head h c l is set number) o e) = rw (e, number) (head_tells (length c))

pub imports_accepted : {s : List ℕ} (r : Reading) → answer s ≡ accepted r.message r.place → r.refusal ≡ 0 → Imports s r
imports_accepted {s} r e z = accepted_in r (subst (Right Records Fatal s) e (answered s)) z

pub imports_refused : {s : List ℕ} {r : Reading} {n k : ℕ} → answer s ≡ refused n k → Refusal n k r → Imports s r
imports_refused {s} e f = refused_in (λ p b row z. omega (arith, row_number row)) (subst (Right Records Fatal s) e (answered s)) f
