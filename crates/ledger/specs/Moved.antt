-- What a program has read and written. Of all crates only `calls` names this one (crates.txt), so only its read and its write make such a fact.
use Rattle.std.specs.Prelude.{◌≡◌, ℕ, ◌+◌, ◌%◌, ◌^◌, List, [], ◌++◌}
use Rattle.std.proofs.Common.{append_assoc, append-nil}

-- the next call
abbrev pub tick : ℕ → ℕ
tick n = (n + 1) % 2 ^ 64

-- from one call to another standard input brought `came`, and standard output took `put`
pub data Moved : (from to : ℕ) (came put : List ℕ) → Type 0 where
  still : {n : ℕ} → Moved n n [] []
  read : {n m : ℕ} {came put : List ℕ} (block : List ℕ) → Moved n m came put → Moved n (tick m) (came ++ block) put
  wrote : {n m : ℕ} {came put : List ℕ} (piece : List ℕ) → Moved n m came put → Moved n (tick m) came (put ++ piece)

-- the last call was a read that brought nothing
pub data Ended : ℕ → Type 0 where
  read_nothing : (m : ℕ) → Ended (tick m)

-- the last call was a read that failed
pub data Broken : ℕ → Type 0 where
  read_failed : (m : ℕ) → Broken (tick m)

-- the last call was a write that did not take all that it was handed
pub data Short : ℕ → Type 0 where
  wrote_less : (m : ℕ) → Short (tick m)

pub moved_still : {n : ℕ} → Moved n n [] []
moved_still = Moved.still

-- one run of calls and then another
pub moved_then : {n m k : ℕ} {came put came' put' : List ℕ} → Moved n m came put → Moved m k came' put'
    → Moved n k (came ++ came') (put ++ put')
moved_then {came = came} {put = put} x Moved.still = rw (append-nil came, append-nil put) x
moved_then {came = came} x (Moved.read {came = here} block y) = rw (← append_assoc came here block) (Moved.read block (moved_then x y))
moved_then {put = put} x (Moved.wrote {put = here} piece y) = rw (← append_assoc put here piece) (Moved.wrote piece (moved_then x y))

-- what one call makes known
pub moved_read : {n m : ℕ} {block : List ℕ} → m ≡ tick n → Moved n m block []
moved_read {block = block} e = rw e (Moved.read block Moved.still)

pub moved_wrote : {n m : ℕ} {piece : List ℕ} → m ≡ tick n → Moved n m [] piece
moved_wrote {piece = piece} e = rw e (Moved.wrote piece Moved.still)

pub read_ended : (n : ℕ) {m : ℕ} → m ≡ tick n → Ended m
read_ended n e = rw e (Ended.read_nothing n)

pub wrote_short : (n : ℕ) {m : ℕ} → m ≡ tick n → Short m
wrote_short n e = rw e (Short.wrote_less n)

pub read_broke : (n : ℕ) {m : ℕ} → m ≡ tick n → Broken m
read_broke n e = rw e (Broken.read_failed n)
