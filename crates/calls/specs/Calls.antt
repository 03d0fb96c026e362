-- What a call of read and one of write add to the ledger of all that was read and written.
use Rattle.std.specs.Prelude.{ℕ, ◌≤◌, ◌<◌, ◌≡◌, List, [], ◌++◌, length, take, Option, Some, None, Result, Ok, Err}
use Rattle.ledger.specs.Moved as ledger
use Rattle.calls.specs.declared.Unwritten.{Unwritten}

-- from one call to another standard input brought `came`, and standard output took `put`
abbrev pub Moved : (from to : ℕ) (came put : List ℕ) → Type 0
Moved = ledger.Moved

-- the last call was a read that brought nothing: the end of the input
abbrev pub Ended : ℕ → Type 0
Ended = ledger.Ended

-- the last call was a read that failed
abbrev pub Broken : ℕ → Type 0
Broken = ledger.Broken

-- the last call was a write that did not take all that it was handed
abbrev pub Short : ℕ → Type 0
Short = ledger.Short

-- nothing was moved; one run of calls and then another
pub moved_still : {n : ℕ} → Moved n n [] []
moved_still = ledger.moved_still

pub moved_then : {n m k : ℕ} {came put came' put' : List ℕ} → Moved n m came put → Moved m k came' put'
    → Moved n k (came ++ came') (put ++ put')
moved_then = ledger.moved_then

-- so many bytes came, and stand in front of what was lent; none of what had room is the end of the input; or nothing yet; or an error
abbrev pub Brings : {E : Type 0} (part : List ℕ) (from to : ℕ) → Result (Option ℕ) E → Type 0
Brings part n m (Ok (Some k)) = (k ≤ length part) × Moved n m (take k part) [] × (0 < length part → k ≡ 0 → Ended m)
Brings part n m (Ok None) = Moved n m [] []
Brings part n m (Err _) = Moved n m [] [] × Broken m

-- so many bytes were taken, from the front of what was handed; or none
abbrev pub Takes : (part : List ℕ) (from to : ℕ) → Result ℕ Unwritten → Type 0
Takes part n m (Ok k) = (k ≤ length part) × Moved n m [] (take k part) × (k < length part → Short m)
Takes part n m (Err _) = Moved n m [] [] × (0 < length part → Short m)
