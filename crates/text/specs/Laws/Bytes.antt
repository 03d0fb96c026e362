-- Membership in a set as facts about the byte, and back.
use Rattle.std.specs.Prelude.{ℕ, suc, ◌≤◌, ◌<◌, ◌≡◌, refl, Bool, true, false, ◌&&◌, ◌||◌, ◌⊎◌, leb}
use Prim.Native.Char.{Char}
use Rattle.std.proofs.Common.{sym, true≢false, inl, inr, le_of_suc-le-suc, leb-true, le-leb}
use Rattle.std.proofs.Math.Bool.{and-false}
use Rattle.std.proofs.lemmas.Bool.{lt-leb}
use Rattle.text.specs.Bytes.{byte, from}

pub both : (x y : Bool) → (x && y) ≡ true → (x ≡ true) × (y ≡ true)
both true y e = (refl, e)
both false y e = absurd (true≢false (sym e))

pub either : (x y : Bool) → (x || y) ≡ true → (x ≡ true) ⊎ (y ≡ true)
either true y e = inl refl
either false y e = inr e

pub either_right : (x y : Bool) → y ≡ true → (x || y) ≡ true
either_right true y e = refl
either_right false y e = e

-- a byte of a range, and that a byte lies in it
pub in_range : (lo hi : Char) (b : ℕ) → from lo hi b ≡ true → (byte lo ≤ b) × (b ≤ byte hi)
in_range lo hi b e = let h = both _ _ e in (leb-true _ _ h.0, leb-true _ _ h.1)

pub range_in : (lo hi : Char) (b : ℕ) → byte lo ≤ b → b ≤ byte hi → from lo hi b ≡ true
range_in lo hi b g h = rw (le-leb _ _ g, le-leb _ _ h)

-- a byte within, below and above a range, as a match over ranges tells them apart
pub test_within : (lo hi b : ℕ) → lo ≤ b → b < suc hi → true ≡ (leb lo b && leb b hi)
test_within lo hi b g h = rw (le-leb lo b g, le-leb b hi (le_of_suc-le-suc h))

pub test_below : (lo hi b : ℕ) → b < lo → false ≡ (leb lo b && leb b hi)
test_below lo hi b h = rw (lt-leb lo b h)

pub test_above : (lo hi b : ℕ) → hi < b → false ≡ (leb lo b && leb b hi)
test_above lo hi b h = rw (lt-leb b hi h, and-false)

pub range_below : (lo hi : Char) (b : ℕ) → b < byte lo → from lo hi b ≡ false
range_below lo hi b h = sym (test_below (byte lo) (byte hi) b h)

pub range_above : (lo hi : Char) (b : ℕ) → byte hi < b → from lo hi b ≡ false
range_above lo hi b h = sym (test_above (byte lo) (byte hi) b h)

pub ruleset ranges = (test_within, test_below, test_above)
