-- The labels, tested: what the rules give beside what the papers state.
use Rattle.std.specs.Prelude.{ℕ, zero, suc, ◌≤◌, ◌<◌, ◌≡◌, refl, Bool, true, false, ◌&&◌, List, [], ◌∷◌, map, eqb, length, get_or, Option, Some}
use Rattle.std.proofs.Common.{sym, subst, true≢false, arith, eqb-true}
use Rattle.demand.specs.Demand.{Answer, accepted}
use Rattle.demand.specs.Each.{Each}
use Rattle.text.specs.Bytes.{byte, bytes, digit, first_character}
use Rattle.text.specs.Laws.Bytes.{both}
use Rattle.calendar.specs.Calendar.{leap_day}
use Rattle.label.specs.declared.Structure.{Structure}
use Rattle.label.specs.declared.Edition.{Edition}
use Rattle.label.specs.declared.Message.{Message}
use Rattle.check37.specs.Check.{check_of, DonationNumber, donation}
use Rattle.bloodgroup.specs.Groups.{Means}
use Rattle.bloodgroup.specs.Laws.Search.{group_of}
use Rattle.bloodgroup.specs.Laws.Groups.{group_means}
use Rattle.message.specs.Laws.Tree.{message}
use Rattle.message.specs.Laws.Answers.{answer, answered}
use Rattle.proved_labels.specs.Labels.{Said, reads, older, means, checks, alone, AsSaid, said}

data Result : Type 0 where
  an_answer : Answer Message → Result
  a_group : Answer Message → Option (ℕ × ℕ) → Result
  a_check : Bool → Option ℕ → Result

-- thirteen characters of a donation number, as a test
abbrev all_digits : List ℕ → Bool
all_digits [] = true
all_digits (b ∷ s) = digit b && all_digits s

abbrev is_number : List ℕ → Bool
is_number [] = false
is_number (b ∷ s) = eqb (length s) 12 && (first_character b && all_digits s)

digit_there : (s : List ℕ) (i : ℕ) → all_digits s ≡ true → i < length s → digit (get_or s i 0) ≡ true
digit_there [] i e l = absurd (omega arith)
digit_there (b ∷ s) zero e l = (both (digit b) (all_digits s) e).0
digit_there (b ∷ s) (suc i) e l = digit_there s i (both (digit b) (all_digits s) e).1 (omega arith)

tested_number : (s : List ℕ) → is_number s ≡ true → DonationNumber s
tested_number [] e = absurd (true≢false (sym e))
tested_number (b ∷ s) e =
    let (long, rest) = both _ _ e in
    let (first, later) = both _ _ rest in
    let twelve : length s ≡ 12 = eqb-true _ 12 long in
    record { long = omega arith; first = first; later = at later twelve }
  where
    at : all_digits s ≡ true → length s ≡ 12 → (i : ℕ) → 1 ≤ i → i < 13 → digit (get_or (b ∷ s) i 0) ≡ true
    at e f zero l g = absurd (omega arith)
    at e f (suc i) l g = digit_there s i e (omega arith)

abbrev worked_out : Said → Result
worked_out (reads label a) = an_answer (answer Edition.Current (bytes label))
worked_out (older label a) = an_answer (answer Edition.Of2001 (bytes label))
worked_out (means label g at) = a_group (answer Edition.Current (bytes label)) (group_of g.gg0 g.gg1)
worked_out (checks number c) = a_check (is_number (bytes number)) (Some (check_of (bytes number)))

abbrev stated : Said → Result
stated (reads label a) = an_answer a
stated (older label a) = an_answer a
stated (means label g at) = a_group (accepted (alone (Structure.Groups g)) (length (bytes label))) at
stated (checks number c) = a_check true (Some (byte c))

tested : map worked_out said ≡ map stated said
unfolding answer message leap_day
tested = refl

holds : (x : Said) → worked_out x ≡ stated x → AsSaid x
holds (reads label a) e = let same : answer Edition.Current (bytes label) ≡ a = cc in rw same at (answered Edition.Current (bytes label))
holds (older label a) e = let same : answer Edition.Of2001 (bytes label) ≡ a = cc in rw same at (answered Edition.Of2001 (bytes label))
holds (means label g at) e =
    let same : answer Edition.Current (bytes label) ≡ accepted (alone (Structure.Groups g)) (length (bytes label)) = cc in
    let found : group_of g.gg0 g.gg1 ≡ at = cc in
    (rw same at (answered Edition.Current (bytes label)), subst (Means g.gg0 g.gg1) found (group_means g.gg0 g.gg1))
holds (checks number c) e =
    let number_is : is_number (bytes number) ≡ true = cc in
    let same : Some (check_of (bytes number)) ≡ Some (byte c) = cc in
    donation (tested_number (bytes number) number_is) (sym same)

all_hold : (xs : List Said) → map worked_out xs ≡ map stated xs → Each AsSaid xs
all_hold [] e = tt
all_hold (x ∷ xs) e = let h : worked_out x ≡ stated x = cc in let t : map worked_out xs ≡ map stated xs = cc in (holds x h, all_hold xs t)

pub labels_hold : Each AsSaid said
labels_hold = all_hold said tested
