-- A test of a whole list, and of a number that is listed.
use Rattle.std.specs.Prelude.{ℕ, zero, suc, ◌≡◌, Bool, true, false, ◌&&◌, ◌||◌, eqb, get_or}
use Rattle.std.proofs.Common.{sym, true≢false, ⊎_elim, eqb-true}
use mathlib.Core.List.{List, [], ◌∷◌, Memᴰ}
use Rattle.text.specs.Laws.Bytes.{both, either}

-- each passes
abbrev pub all : {A : Type 0} → (A → Bool) → List A → Bool
all test [] = true
all test (x ∷ xs) = test x && all test xs

pub all_among : {A : Type 0} (test : A → Bool) {x : A} {xs : List A} → all test xs ≡ true → Memᴰ x xs → test x ≡ true
all_among test e (Memᴰ.head {x = y} {xs = xs} is) = rw is (both (test y) (all test xs) e).0
all_among test e (Memᴰ.tail {x = y} {xs = xs} m) = all_among test (both (test y) (all test xs) e).1 m

-- and each is found at its place
pub all_at : {A : Type 0} (test : A → Bool) (xs : List A) (i : ℕ) (d : A) → all test xs ≡ true → test d ≡ true → test (get_or xs i d) ≡ true
all_at test [] i d e h = h
all_at test (x ∷ xs) zero d e h = (both (test x) (all test xs) e).0
all_at test (x ∷ xs) (suc i) d e h = all_at test xs i d (both (test x) (all test xs) e).1 h

-- n is one of these
abbrev pub listed : List ℕ → ℕ → Bool
listed [] n = false
listed (m ∷ ms) n = eqb n m || listed ms n

pub listed_passes : (test : ℕ → Bool) (ms : List ℕ) {n : ℕ} → all test ms ≡ true → listed ms n ≡ true → test n ≡ true
listed_passes test [] e h = absurd (true≢false (sym h))
listed_passes test (m ∷ ms) {n} e h =
    let (here, rest) = both (test m) (all test ms) e in
    ⊎_elim (λ f. rw (eqb-true n m f) here) (λ f. listed_passes test ms rest f) (either (eqb n m) (listed ms n) h)
