-- A loop over a list, one byte more. It stands here and not in specs/ so that an edit of the rule is read, and refused.
use Rattle.std.specs.Prelude.{ℕ, ◌+◌, ◌*◌, ◌/◌, ◌%◌, ◌≤◌, ◌<◌, ◌≡◌, List, length, get_or, take}
use Rattle.std.proofs.Common.{sym, ◌∙◌, arith, add-one, take-suc}
use Rattle.check37.specs.Check.{worth, remainder}
use Rattle.check37.specs.Laws.Worth.{Sums, by_37, worth_below, remainder_append}

module _ (s : List ℕ) (n i : ℕ) (x : Sums (take i s) n) where
  pub one_passed : (m : ℕ) → i < length s → m ≤ 1000000 → m % 37 ≡ n % 37 → Sums (take (i + 1) s) ((m + worth (get_or s i 0)) * 2)
  one_passed m h low e =
      let w = worth (get_or s i 0) in
      let next : remainder 0 (take (i + 1) s) ≡ (n % 37 + w) * 2 % 37 = rw (x.is, add-one, take-suc s i 0, remainder_append) in
      record { is = by_37 ((m + w) * 2) ((n % 37 + w) * 2) 0 (m / 37 * 2) (omega arith) ∙ sym next; room = omega (arith, worth_below (get_or s i 0)) }
