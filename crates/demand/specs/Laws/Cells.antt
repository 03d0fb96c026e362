-- A part of a list, cell by cell: what code reads by index.
use Rattle.std.specs.Prelude.{ℕ, zero, suc, ◌+◌, ◌-◌, ◌≤◌, ◌≡◌, refl, List, [], ◌∷◌, length, get_or, take, drop}
use Rattle.std.proofs.Common.{ap, ◌∙◌, arith, length-drop, drop-cons, take_all}

abbrev pub cells : List ℕ → ℕ → ℕ → List ℕ
cells l i zero = []
cells l i (suc n) = get_or l i 0 ∷ cells l (suc i) n

pub part_cells : (l : List ℕ) (i n : ℕ) → i + n ≤ length l → take n (drop i l) ≡ cells l i n
part_cells l i zero h = refl
part_cells l i (suc n) h =
    let cut : drop i l ≡ get_or l i 0 ∷ drop (suc i) l = drop-cons l i 0 (omega arith) in
    ap (take (suc n)) cut ∙ ap (get_or l i 0 ∷◌) (part_cells l (suc i) n (omega arith))

pub front_cells : (l : List ℕ) (n : ℕ) → n ≤ length l → take n l ≡ cells l 0 n
front_cells l n h = part_cells l 0 n (omega arith)

-- the part of a list from n on, as code lends it
pub tail_part : (n : ℕ) (l : List ℕ) → take (length l - n) (drop n l) ≡ drop n l
tail_part n l = take_all (length l - n) (drop n l) (simp length-drop (omega arith))
