-- Both answers about a scan are parts of its verdict, and each is the only one.
use Rattle.std.specs.Prelude.{ℕ, ◌≡◌, List, length, Option}
use Rattle.std.proofs.Common.{sym, ap, ◌∙◌, true≢false}
use Rattle.demand.specs.Numbers.{ACCEPTED}
use Rattle.text.specs.Bytes.{check_character}
use Rattle.label.specs.declared.Edition.{Edition}
use Rattle.label.specs.declared.Message.{Message}
use Rattle.message.specs.declared.Reading.{Reading}
use Rattle.message.specs.Reading.{Answers}
use Rattle.message.specs.Laws.Answers.{accepted_reading}
use Rattle.message.specs.Theorems as message
use Rattle.check37.specs.Check.{check_of, DonationNumber, Checks, donation, no_donation, check_byte}
use Rattle.check37.specs.Theorems as check37
use Rattle.terminal.specs.declared.Verdict.{Verdict}
use Rattle.terminal.specs.Terminal.{verdict_of, Judges, ScanRefusal, ScanPlace, CheckCharacter}

-- the two answers of 01 are parts of the verdict
module _ {s : List ℕ} {v : Verdict} (x : Judges s v) where
  pub number_of_verdict : ScanRefusal s v.refusal
  number_of_verdict = record { reading = x.reading; answers = x.answers; given = ap (λ (w : Verdict). w.refusal) x.is }

  pub place_of_verdict : ScanPlace s v.place
  place_of_verdict = record { reading = x.reading; answers = x.answers; given = ap (λ (w : Verdict). w.place) x.is }

-- a scan has one reading
one_reading : {s : List ℕ} {r q : Reading} → Answers Edition.Current s r → Answers Edition.Current s q → r ≡ q
one_reading {s} {r} {q} a b = message.one_result Edition.Current s r q a b

pub one_verdict : {s : List ℕ} {v w : Verdict} → Judges s v → Judges s w → v ≡ w
one_verdict x y = x.is ∙ ap verdict_of (one_reading x.answers y.answers) ∙ sym y.is

-- the empty message of a refused scan has no structures
pub refused_none : {s : List ℕ} {v : Verdict} → Judges s v → (v.refusal ≡ ACCEPTED → ⊥) → v.count ≡ 0
refused_none x h =
    let number = ap (λ (w : Verdict). w.refusal) x.is in
    ap (λ (w : Verdict). w.count) x.is ∙ ap (λ (m : Message). m.count) (x.answers.empty (λ e. h (number ∙ e)))

pub one_refusal : {s : List ℕ} {n m : ℕ} → ScanRefusal s n → ScanRefusal s m → n ≡ m
one_refusal x y = cc (one_reading x.answers y.answers)

pub one_place : {s : List ℕ} {k l : ℕ} → ScanPlace s k → ScanPlace s l → k ≡ l
one_place x y = cc (one_reading x.answers y.answers)

pub one_check : {s : List ℕ} {n m : ℕ} → CheckCharacter s n → CheckCharacter s m → n ≡ m
one_check {s} x y = cc (check37.one_check s x.check y.check x.checks y.checks)

-- the length if accepted
pub accepted_place : {s : List ℕ} {k : ℕ} → ScanRefusal s ACCEPTED → ScanPlace s k → k ≡ length s
accepted_place {s} x y =
    let same = one_reading y.answers x.answers in
    let zero : y.reading.refusal ≡ ACCEPTED = cc in
    y.given ∙ (accepted_reading Edition.Current s y.reading y.answers zero).1

-- no check character has the byte 0
never_zero : (s : List ℕ) → check_of s ≡ 0 → ⊥
never_zero s e = true≢false (sym (check37.check_in_set s) ∙ ap check_character e)

zero_check : {s : List ℕ} {r : Option ℕ} → Checks s r → check_byte r ≡ 0 → DonationNumber s → ⊥
zero_check {s} (donation d e) z h = never_zero s (sym (ap check_byte e) ∙ z)
zero_check (no_donation n e) z h = n h

pub zero_says : {s : List ℕ} → CheckCharacter s 0 → DonationNumber s → ⊥
zero_says x h = zero_check x.checks (sym x.given) h
