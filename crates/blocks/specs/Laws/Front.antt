-- What came stands behind what stays; what was taken piece by piece.
use Rattle.std.specs.Prelude.{ℕ, ◌+◌, ◌-◌, ◌≤◌, ◌<◌, ◌≡◌, List, [], ◌++◌, length, take, drop, Option, Some, None, Result, Ok, Err}
use Rattle.std.proofs.Common.{ap, sym, ◌∙◌, append-nil, arith, length-take, length-drop, take_at, drop_at, take-add, take-take, length-take-le}
use Rattle.std.proofs.Math.Seq.{slice, slice_empty, take-append-add}
use Rattle.std.proofs.lemmas.List.{take-append-le}
use Rattle.calls.specs.Calls as calls
use Rattle.calls.specs.Calls.{Moved, Short, Takes, moved_then}
use Rattle.blocks.specs.Reads.{BLOCK, Reads}

-- the front of what came behind the front
behind : (kept k : ℕ) (front part rest : List ℕ) → length front ≡ kept → k ≤ length part
    → slice kept (kept + k) (front ++ (part ++ rest)) ≡ take k part
behind kept k front part rest e h =
    ap (λ (n : ℕ). drop kept (take (n + k) (front ++ (part ++ rest)))) (sym e)
    ∙ ap (drop kept) (take-append-add front (part ++ rest) k)
    ∙ drop_at front (take k (part ++ rest)) kept e
    ∙ take-append-le k part rest h

module _ (kept : ℕ) (s part rest : List ℕ) (n m : ℕ) (h : kept ≤ length s) (long : length part ≡ BLOCK) where
  -- bytes read behind the front leave it as it is
  pub reads_behind : {E : Type 0} (r : Result (Option ℕ) E) → calls.Brings part n m r → Reads kept s (take kept s ++ (part ++ rest)) n m r
  reads_behind (Ok (Some k)) (low, moved, ended) =
      let front = length-take-le kept s h in
      record {
        stays = take_at (take kept s) (part ++ rest) kept front;
        brings = (omega arith, rw (behind kept k (take kept s) part rest front low) moved, ended (omega arith));
      }
  reads_behind (Ok None) x = record { stays = take_at (take kept s) (part ++ rest) kept (length-take-le kept s h); brings = x }
  reads_behind (Err _) x = record { stays = take_at (take kept s) (part ++ rest) kept (length-take-le kept s h); brings = x }

-- nothing more was taken
pub none_taken : {n m k : ℕ} {text : List ℕ} → Moved n m [] text → Moved m k [] [] → Moved n k [] text
none_taken {text = text} x y = rw (append-nil text) at (moved_then x y)

-- while a text is written a front of it was taken, and as long as bytes are left the last write took less than it was handed
pub record Sending (out : List ℕ) (from to done turns : ℕ) : Type 0 where
  pub within : done ≤ length out
  pub moved : Moved from to [] (take done out)
  pub short : done < length out → 0 < turns → Short to

module _ {out : List ℕ} {from to done turns : ℕ} (x : Sending out from to done turns) where
  abbrev rest : List ℕ
  rest = take (length out - done) (drop done out)

  rest_long : length rest ≡ length out - done
  rest_long = simp (length-take, length-drop) (omega arith)

  -- one piece more was taken
  pub more_taken : {k more : ℕ} → Takes rest to k (Ok more) → Sending out from k (done + more) (turns + 1)
  more_taken {k} {more} (low, took, less) =
      let long = rest_long in
      let part = take-take more (length out - done) (drop done out) (omega arith) in
      let fits : done + more ≤ length out = omega (arith, x.within) in
      record {
        within = fits;
        moved = rw (take-add done more out) (moved_then x.moved (rw part at took));
        short = λ h l. less (omega arith);
      }

  -- or none, though bytes are left
  pub none_more : {k : ℕ} → done < length out → Moved to k [] [] × (0 < length rest → Short k)
      → (done < length out) × Moved from k [] (take done out) × Short k
  none_more h (stays, less) = let long = rest_long in (h, none_taken x.moved stays, less (omega arith))

-- the end of the input was read
pub came_none : (kept : ℕ) {size n m : ℕ} (buffer : List ℕ) → size ≡ 0 → Moved n m (slice kept (kept + size) buffer) [] → Moved n m [] []
came_none kept {size} buffer e x =
    let same : kept + size ≡ kept = omega arith in
    rw (same, slice_empty kept buffer) at x
