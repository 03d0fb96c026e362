-- A reading answers a scan as its tree does, and only one reading does.
use Rattle.std.specs.Prelude.{ℕ, ◌<◌, ◌≡◌, refl, List, length, replicate}
use Rattle.std.proofs.Common.{subst, arith}
use Rattle.demand.specs.Demand.{Answer, accepted, refused, Right}
use Rattle.demand.specs.Numbers.{ACCEPTED, VALUE}
use Rattle.demand.specs.Laws.Delivers.{delivers_accepted, delivers_refused, delivered, one_delivered}
use Rattle.label.specs.declared.Edition.{Edition}
use Rattle.label.specs.declared.Message.{Message}
use Rattle.structure.specs.Laws.Kinds.{tell_at, table_tells}
use Rattle.message.specs.declared.Reading.{Reading}
use Rattle.message.specs.Grammar.{Produces, empty_message}
use Rattle.message.specs.Where.{of_structure, of_head}
use Rattle.message.specs.Refusals.{Fatal, row_identifier, row_nested, row_repeat, row_character, row_value}
use Rattle.message.specs.Refusals.{row_trailing, RightReading}
use Rattle.message.specs.Reading.{AnswersIn, Answers}
use Rattle.demand.specs.Laws.Tree as tree
use Rattle.message.specs.Laws.Tree.{message, message_out}
use Rattle.message.specs.Laws.Tour.{message_stands}
use Rattle.message.specs.Laws.Fixes.{fixes}

-- the answer of a scan, worked out byte by byte
unfoldable pub answer : Edition → List ℕ → Answer Message
answer ed s = tree.run (message ed) s

pub answered : (ed : Edition) (s : List ℕ) → RightReading ed s (answer ed s)
unfolding answer
answered ed s = tree.run_right (Produces ed) (Fatal ed) (message ed) (message_out ed) (message_stands ed).1 s

pub one_answer : (ed : Edition) (s : List ℕ) (a b : Answer Message) → RightReading ed s a → RightReading ed s b → a ≡ b
one_answer ed s a b x y = tree.one_answer (Produces ed) (Fatal ed) (message ed) (message_out ed) (fixes ed) s a b x y

-- no row of the table has the number 0, and none has more than two digits
pub row_number : {ed : Edition} {p : List ℕ} {b n : ℕ} → Fatal ed p b n → (0 < n) × (n < 100)
row_number (row_identifier o f g h e) = (omega arith, omega arith)
row_number (row_nested w e) = (omega arith, omega arith)
row_number (row_repeat w e) = (omega arith, omega arith)
row_number (row_character σ v i o e) = (omega arith, omega arith)
row_number (row_value σ v (of_structure q x k c may h kind l is set number) o e) = rw (e, number) (table_tells k (length c))
row_number (row_value σ v (of_head h c l is set number) o e) = rw (e, number) (tell_at (replicate 5 VALUE) (length c) VALUE refl (omega arith) (omega arith))
row_number (row_trailing t e) = (omega arith, omega arith)

-- a refused reading, with its number and place
pub record Refusal (n k : ℕ) (r : Reading) : Type 0 where
  pub refusal : r.refusal ≡ n
  pub place : r.place ≡ k
  pub nothing : r.message ≡ empty_message

-- readings over any language of messages and its table
module _ {W : Message → List ℕ → Type 0} {F : List ℕ → ℕ → ℕ → Type 0} where
  pub accepted_in : {s : List ℕ} (r : Reading) → Right W F s (accepted r.message r.place) → r.refusal ≡ 0 → AnswersIn W F s r
  accepted_in r h z = delivers_accepted h z

  pub refused_in : {s : List ℕ} {r : Reading} {n k : ℕ} → ((p : List ℕ) (b : ℕ) → F p b n → n ≡ 0 → ⊥)
      → Right W F s (refused n k) → Refusal n k r
      → AnswersIn W F s r
  refused_in {s} {r} {n} {k} rows h f =
      let there : Right W F s (refused r.refusal r.place) = rw (f.refusal, f.place) h in
      let some : (p : List ℕ) (b : ℕ) → F p b r.refusal → r.refusal ≡ 0 → ⊥ = rw f.refusal rows in
      delivers_refused some there f.nothing

  -- an accepted reading is a message of the language, the bytes are its writing, and the place is their length
  pub reading_in : {s : List ℕ} {r : Reading} → AnswersIn W F s r → r.refusal ≡ ACCEPTED → W r.message s × (r.place ≡ length s)
  reading_in x z = delivered x z

  -- the contract leaves one reading where the language leaves one answer
  pub one_in : ((s : List ℕ) (a b : Answer Message) → Right W F s a → Right W F s b → a ≡ b) → (s : List ℕ) (q r : Reading)
      → AnswersIn W F s q → AnswersIn W F s r → q ≡ r
  one_in one s q r x y =
      let (m, n, k) = one_delivered (one s) x y in λ i. record { message = m i; place = k i; refusal = n i }

pub answers_accepted : (ed : Edition) (s : List ℕ) (r : Reading) → answer ed s ≡ accepted r.message r.place → r.refusal ≡ 0 → Answers ed s r
answers_accepted ed s r e z = accepted_in r (subst (RightReading ed s) e (answered ed s)) z

pub answers_refused : {ed : Edition} {s : List ℕ} {r : Reading} {n k : ℕ} → answer ed s ≡ refused n k → Refusal n k r → Answers ed s r
answers_refused {ed} {s} e f = refused_in (λ p b row z. omega (arith, (row_number row).0)) (subst (RightReading ed s) e (answered ed s)) f

pub accepted_reading : (ed : Edition) (s : List ℕ) (r : Reading) → Answers ed s r → r.refusal ≡ ACCEPTED
    → Produces ed r.message s × (r.place ≡ length s)
accepted_reading ed s r x z = reading_in x z

pub one_result : (ed : Edition) (s : List ℕ) (q r : Reading) → Answers ed s q → Answers ed s r → q ≡ r
one_result ed s q r x y = one_in (one_answer ed) s q r x y
