-- What follows of the verdict and the three answers: each contract leaves one answer for any bytes.
use Rattle.std.specs.Prelude.{ℕ, ◌≡◌, List, length}
use Rattle.demand.specs.Numbers.{ACCEPTED}
use Rattle.check37.specs.Check.{DonationNumber}
use Rattle.terminal.specs.declared.Verdict.{Verdict}
use Rattle.terminal.specs.Terminal.{Judges, ScanRefusal, ScanPlace, CheckCharacter}
use Rattle.terminal.specs.Laws.Terminal as laws

-- one verdict for a scan
pub one_verdict : (s : List ℕ) (v w : Verdict) → Judges s v → Judges s w → v ≡ w
one_verdict s v w x y = laws.one_verdict x y

-- its refusal number and place are the two answers
pub verdict_answers : (s : List ℕ) (v : Verdict) → Judges s v → ScanRefusal s v.refusal × ScanPlace s v.place
verdict_answers s v x = (laws.number_of_verdict x, laws.place_of_verdict x)

-- a refused scan has no structures
pub refused_none : (s : List ℕ) (v : Verdict) → Judges s v → (v.refusal ≡ ACCEPTED → ⊥) → v.count ≡ 0
refused_none s v x h = laws.refused_none x h

-- one refusal number for a scan
pub one_refusal : (s : List ℕ) (n m : ℕ) → ScanRefusal s n → ScanRefusal s m → n ≡ m
one_refusal s n m x y = laws.one_refusal x y

-- one place
pub one_place : (s : List ℕ) (k l : ℕ) → ScanPlace s k → ScanPlace s l → k ≡ l
one_place s k l x y = laws.one_place x y

-- one check character for a donation number, and 0 for any other bytes
pub one_check : (s : List ℕ) (n m : ℕ) → CheckCharacter s n → CheckCharacter s m → n ≡ m
one_check s n m x y = laws.one_check x y

-- "the length if accepted"
pub accepted_place : (s : List ℕ) (k : ℕ) → ScanRefusal s ACCEPTED → ScanPlace s k → k ≡ length s
accepted_place s k x y = laws.accepted_place x y

-- the answer 0 is no check character: a donation number never gets it
pub zero_says : (s : List ℕ) → CheckCharacter s 0 → DonationNumber s → ⊥
zero_says s x h = laws.zero_says x h
