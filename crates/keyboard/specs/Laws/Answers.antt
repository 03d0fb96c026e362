-- An entry's answer is what its tree gives, and only one answer meets the contract.
use Rattle.std.specs.Prelude.{ℕ, ◌≡◌, List}
use Rattle.std.proofs.Common.{subst, arith}
use Rattle.demand.specs.Demand.{Answer, accepted, refused}
use Rattle.demand.specs.Numbers.{ACCEPTED}
use Rattle.demand.specs.Laws.Tree as tree
use Rattle.demand.specs.Laws.Delivers.{delivers_accepted, delivers_refused, one_delivered}
use Rattle.demand.specs.Laws.Fixes.{fixes}
use Rattle.label.specs.declared.Donation.{Donation}
use Rattle.keyboard.specs.declared.Entered.{Entered}
use Rattle.label.specs.Zeros.{no_donation}
use Rattle.keyboard.specs.Entry.{Types, Fatal, row_character, row_check, row_trailing, RightEntry, Enters}
use Rattle.keyboard.specs.Laws.Tree.{entry, entry_ends, entry_stands, one_row}

-- the answer of an entry, worked out byte by byte
unfoldable pub answer : List ℕ → Answer Donation
answer s = tree.run entry s

pub answered : (s : List ℕ) → RightEntry s (answer s)
unfolding answer
answered s = tree.run_right Types Fatal entry entry_ends entry_stands.1 s

pub one_answer : (s : List ℕ) (a b : Answer Donation) → RightEntry s a → RightEntry s b → a ≡ b
one_answer s a b x y = tree.one_answer Types Fatal entry entry_ends (fixes Types Fatal one_row entry entry_ends entry_stands.1) s a b x y

-- no row of the table has the number 0
row_number : {p : List ℕ} {b n : ℕ} → Fatal p b n → n ≡ ACCEPTED → ⊥
row_number (row_character l o e) z = omega arith
row_number (row_check l o e) z = omega arith
row_number (row_trailing a e) z = omega arith

-- what a refused entry holds
pub record Refusal (n k : ℕ) (r : Entered) : Type 0 where
  pub refusal : r.refusal ≡ n
  pub place : r.place ≡ k
  pub donation : r.donation ≡ no_donation

pub enters_accepted : (s : List ℕ) (r : Entered) → answer s ≡ accepted r.donation r.place → r.refusal ≡ ACCEPTED → Enters s r
enters_accepted s r e z = delivers_accepted (subst (RightEntry s) e (answered s)) z

pub enters_refused : {s : List ℕ} {r : Entered} {n k : ℕ} → answer s ≡ refused n k → Refusal n k r → Enters s r
enters_refused {s} {r} e h =
    let right : RightEntry s (refused r.refusal r.place) = rw (h.refusal, h.place) (subst (RightEntry s) e (answered s)) in
    delivers_refused (λ p b. row_number) right h.donation

-- the contract leaves one answer for every entry
pub one_entry : (s : List ℕ) (q r : Entered) → Enters s q → Enters s r → q ≡ r
one_entry s q r x y =
    let (d, n, k) = one_delivered (one_answer s) x y in λ i. record { donation = d i; place = k i; refusal = n i }
