-- Counters picked by a table of their places.
use Rattle.std.specs.Prelude.{ℕ, ◌+◌, ◌≤◌, ◌<◌, ◌≡◌, true, List, map, ltb, length, get_or, set}
use Rattle.std.proofs.Common.{sym, arith, ltb-true, lt-ltb}
use Rattle.std.proofs.lemmas.List.{length-map}
use Rattle.std.proofs.Math.ListN.{get_or-map}
use Rattle.text.specs.Buffer.{laid_at}
use Rattle.tally_figures.specs.Laws.Tests.{all, all_at}
use Rattle.tally_text.specs.Laws.Pasted.{Pasting, pasting_first, pasting_next, pasting_all}

-- the counter at each of the places
abbrev pub picked : List ℕ → List ℕ → List ℕ
picked counters places = map (λ (i : ℕ). get_or counters i 0) places

-- the places are there, and so is room for what is picked
pub record Picks (at : ℕ) (places counters figures : List ℕ) : Type 0 where
  pub size : ℕ
  pub long : length counters ≡ size
  pub low : all (λ (m : ℕ). ltb m size) places ≡ true
  pub some : 0 < size
  pub room : at + length places ≤ length figures

-- i of them are picked
pub record Picking (at : ℕ) (places counters before : List ℕ) (i : ℕ) (here : List ℕ) : Type 0 where
  pub pasting : Pasting at (picked counters places) before i here
  pub long : length (picked counters places) ≡ length places

pub picking_first : {at : ℕ} {places counters before : List ℕ} → Picks at places counters before → Picking at places counters before 0 before
picking_first {places = places} {counters} p =
    let long : length (picked counters places) ≡ length places = length-map places (λ (i : ℕ). get_or counters i 0) in
    record { pasting = pasting_first (omega (arith, p.room)); long = long }

pub place_there : {at : ℕ} {places counters before : List ℕ} → Picks at places counters before → (i : ℕ) → get_or places i 0 < length counters
place_there {places = places} p i =
    let size = p.size in
    let low = ltb-true (get_or places i 0) size (all_at (λ (m : ℕ). ltb m size) places i 0 p.low (lt-ltb 0 size p.some)) in
    omega (arith, p.long)

module _ {at : ℕ} {places counters before : List ℕ} {i : ℕ} {here : List ℕ} (p : Picking at places counters before i here) where
  pub picking_next : i < length places → Picking at places counters before (i + 1) (set here (at + i) (get_or counters (get_or places i 0) 0))
  picking_next h =
      let f : ℕ → ℕ = λ i. get_or counters i 0 in
      record {
        pasting = pasting_next p.pasting (f 0) (omega (arith, p.long)) (sym (get_or-map f places i 0));
        long = p.long;
      }

  pub picking_all : length places ≤ i → here ≡ laid_at at (picked counters places) before
  picking_all h = pasting_all p.pasting (omega (arith, p.long))
