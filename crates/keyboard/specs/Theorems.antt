-- What follows from the language of keyboard entries and its table: every entry has one right answer, and an entry and a scan agree.
use Rattle.std.specs.Prelude.{ℕ, ◌≡◌, List, [], ◌∷◌, ◌++◌, ◌↔◌, take, drop}
use Rattle.demand.specs.Demand.{Answer, refused, Acceptable}
use Rattle.demand.specs.Numbers.{ACCEPTED, CHECK}
use Rattle.demand.specs.Laws.Tree as tree
use Rattle.demand.specs.Laws.Delivers as delivers
use Rattle.text.specs.Bytes.{bytes}
use Rattle.label.specs.declared.Donation.{Donation}
use Rattle.label.specs.declared.Flags.{Flags}
use Rattle.label.specs.declared.Structure.{Structure}
use Rattle.check37.specs.Check.{check_of, DonationNumber}
use Rattle.structure.specs.Donation.{LawfulDonation, LawfulFlags, donation_text}
use Rattle.structure.specs.Structures.{Lawful, written}
use Rattle.keyboard.specs.declared.Entered.{Entered}
use Rattle.keyboard.specs.Entry.{Types, typed, Fatal, RightEntry, Enters}
use Rattle.keyboard.specs.Laws.Tree.{entry, entry_ends}
use Rattle.keyboard.specs.Laws.Answers.{answer, answered}
use Rattle.keyboard.specs.Laws.Answers as answers
use Rattle.keyboard.specs.Laws.Number as number

-- every byte string has an answer that meets the demand
pub some_entry : (s : List ℕ) → (a : Answer Donation) × RightEntry s a
some_entry s = (answer s, answered s)

-- and only one: donation number, refusal number and place
pub one_answer : (s : List ℕ) (a b : Answer Donation) → RightEntry s a → RightEntry s b → a ≡ b
one_answer s a b x y = answers.one_answer s a b x y

-- `enter`'s contract leaves one answer for every entry
pub one_entry : (s : List ℕ) (q r : Entered) → Enters s q → Enters s r → q ≡ r
one_entry s q r x y = answers.one_entry s q r x y

-- demand 3 "with these strings as the language": an entry is accepted exactly if it is a donation number and then its check
pub accepted_exactly : (s : List ℕ) (r : Entered) → Enters s r → (r.refusal ≡ ACCEPTED) ↔ Acceptable Types s
accepted_exactly s r x = delivers.accepted_exactly x

-- a byte string is the entry of at most one donation number
pub one_reading : {d e : Donation} {s : List ℕ} → Types d s → Types e s → d ≡ e
one_reading x y = tree.one_reading Types Fatal entry entry_ends x y

-- a wrong check is refused before the bytes that follow it
pub check_first : RightEntry (bytes "W000021123456BA") (refused CHECK 13)
unfolding answer entry
check_first = answered (bytes "W000021123456BA")

-- "the 13 characters before ff are the donation number itself": an 001 without its = and its flags
abbrev pub characters : Donation → Flags → List ℕ
characters d f = take 13 (drop 1 (written (Structure.Donation d f)))

-- s is those characters of a lawful 001 and then their check
pub record FromScan (d : Donation) (f : Flags) (s : List ℕ) : Type 0 where
  pub lawful : Lawful (Structure.Donation d f)
  pub is : s ≡ characters d f ++ check_of (characters d f) ∷ []

-- an 001 with any of its lawful flags, its characters and their check, is typed as its donation number
pub scan_typed : (d : Donation) (f : Flags) (s : List ℕ) → FromScan d f s → Types d s
scan_typed d f s h = typed h.lawful.0 h.is

-- and nothing else is: what is typed is that of an 001 with whichever of its lawful flags
pub typed_scan : (d : Donation) (f : Flags) (s : List ℕ) → LawfulFlags d f → Types d s → FromScan d f s
typed_scan d f s l (typed h e) = record { lawful = (h, l); is = e }

-- "the check character of 13 bytes": the bytes that have one are the donation numbers of the 001s, and no others
pub number_text : (s : List ℕ) → DonationNumber s → (d : Donation) × LawfulDonation d × (s ≡ donation_text d)
number_text s n = number.number_in s n

-- and the donation number of each 001 is such
pub text_number : (d : Donation) → LawfulDonation d → DonationNumber (donation_text d)
text_number d h = number.number_out d h
