-- From the theorems about reading and writing a language to those about its answers in C's form.
use Rattle.std.specs.Prelude.{ℕ, zero, suc, ◌-◌, ◌≡◌, refl, List, ◌++◌, length, replicate}
use Rattle.std.proofs.Common.{sym, ap, ◌∙◌, arith, take_at}
use Rattle.demand.specs.Demand.{Answer, Right}
use Rattle.label.specs.declared.Edition.{Edition}
use Rattle.label.specs.declared.Entry.{Entry}
use Rattle.label.specs.declared.Message.{Message}
use Rattle.message.specs.declared.Reading.{Reading}
use Rattle.message.specs.Grammar.{start_of, no_entry, entries_from, Produces}
use Rattle.message.specs.Reading.{AnswersIn}
use Rattle.message.specs.Laws.Places.{length_entries}
use Rattle.message.specs.Laws.Write.{made, Tongue}
use Rattle.message.specs.Laws.Write as write
use Rattle.message.specs.Laws.Alike.{alike_stored}
use Rattle.message.specs.Laws.Answers.{reading_in, one_in}
use Rattle.c_values.specs.declared.CReading.{CReading}
use Rattle.c_values.specs.Values.{stands_for, message_in_c, reading_in_c}
use Rattle.c_values.specs.InC.{ReadsIn}
use Rattle.c_values.specs.Faithful.{Faithful}
use Rattle.c_values.specs.Laws.Values.{unformed, message_back, Trimmed}

-- a message that the grammar produces has nothing past its number
produced_trimmed : {ed : Edition} {m : Message} {s : List ℕ} → Produces ed m s → Trimmed m.entries m.count
produced_trimmed w =
    let d = made w in
    let es = entries_from (start_of d.form) d.xs in
    rw d.is (record {
      within = d.room;
      is = ap (λ (l : List Entry). l ++ replicate (16 - length d.xs) no_entry) (sym (take_at es _ (length d.xs) (length_entries _ d.xs)));
    })

module _ {ed : Edition} {W : Message → List ℕ → Type 0} {F : List ℕ → ℕ → ℕ → Type 0} (τ : Tongue ed W) where
  -- nor has a reading's
  pub read_trimmed : {s : List ℕ} (r : Reading) → AnswersIn W F s r → Trimmed r.message.entries r.message.count
  read_trimmed {s} r x = by r.refusal refl
    where
      by : (n : ℕ) → r.refusal ≡ n → Trimmed r.message.entries r.message.count
      by zero e = produced_trimmed (τ.labelled (reading_in x e).0).1
      by (suc n) e = rw (x.empty (λ z. omega arith)) (record { within = omega arith; is = refl })

  number_is : {s : List ℕ} {r : CReading} (x : ReadsIn W F s r) → r.refusal ≡ x.reading.refusal
  number_is x = ap (λ (q : CReading). q.refusal) x.is

  meant_is : {s : List ℕ} {r : CReading} (x : ReadsIn W F s r) → stands_for r.message ≡ x.reading.message
  meant_is x = ap (λ (q : CReading). stands_for q.message) x.is ∙ message_back x.reading.message

  pub faithful : ((s : List ℕ) (a b : Answer Message) → Right W F s a → Right W F s b → a ≡ b) → Faithful ed W F
  faithful one = record {
    one_read = λ {s} x y. x.is ∙ ap reading_in_c (one_in one s x.reading y.reading x.answers y.answers) ∙ sym y.is;
    refused_empty = λ x h. ap (λ (q : CReading). q.message) x.is ∙ ap message_in_c (x.answers.empty (λ e. h (number_is x ∙ e)));
    one_write = λ m n a x y. alike_stored a τ x y;
    no_form = λ m {before} {after} {w} h x.
        let is = unformed m (λ e. omega arith) (λ e. omega arith) (λ e. omega arith) in
        write.empty_shape τ before after w (rw is at x);
    read_written = λ {s} {r} {before} {after} {w} x z room y.
        write.read_written τ s x.reading before after w x.answers (sym (number_is x) ∙ z) room (rw (meant_is x) at y);
    written_read = λ m {before} {after} {w} {r} x z y.
        y.is ∙ ap reading_in_c (write.written_read τ one (stands_for m) before after w y.reading x z y.answers);
  }
