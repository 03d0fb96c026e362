-- Where structures stand that follow one another: their entries, one by one and from the end.
use Rattle.std.specs.Prelude.{ℕ, zero, suc, ◌+◌, ◌-◌, ◌<◌, ◌≡◌, refl, List, [], ◌∷◌, ◌++◌, map, length, get_or, take, replicate}
use Rattle.std.proofs.Common.{sym, ap, ap₂, ◌∙◌, subst, append-nil, append_assoc, add-zero, arith, length-append}
use Rattle.std.proofs.Math.ListN.{get_or-append}
use Rattle.std.proofs.Math.Seq.{take-append_seam, drop-append_seam}
use Rattle.label.specs.declared.Structure.{Structure}
use Rattle.label.specs.declared.Entry.{Entry}
use Rattle.structure.specs.Structures.{written}
use Rattle.message.specs.Grammar.{entry_of, no_entry, entries_from, places, in_turn, written_all}
use Rattle.message.specs.Places.{bytes_at, Tiles}

pub length_entries : (p : ℕ) (xs : List Structure) → length (entries_from p xs) ≡ length xs
length_entries p [] = refl
length_entries p (x ∷ xs) = ap suc (length_entries (p + length (written x)) xs)

-- what the entries hold
pub entries_hold : (p : ℕ) (xs : List Structure) → map (λ (e : Entry). e.structure) (entries_from p xs) ≡ xs
entries_hold p [] = refl
entries_hold p (x ∷ xs) = ap (x ∷◌) (entries_hold (p + length (written x)) xs)

-- one structure more stands where those before it end
pub entries_on : (p : ℕ) (xs : List Structure) (y : Structure)
    → entries_from p (xs ++ y ∷ []) ≡ entries_from p xs ++ entry_of (p + length (written_all xs)) y ∷ []
entries_on p [] y = ap (λ (q : ℕ). entry_of q y ∷ []) (sym (add-zero p))
entries_on p (x ∷ xs) y =
    let past : p + length (written x) + length (written_all xs) ≡ p + length (written x ++ written_all xs) =
    omega (arith, length-append (written x) (written_all xs)) in
    ap (entry_of p x ∷◌)
    (entries_on (p + length (written x)) xs y ∙ ap (λ (q : ℕ). entries_from (p + length (written x)) xs ++ entry_of q y ∷ []) past)

-- structures and one more, each in its own bytes
pub in_turn_snoc : (f : Structure → List ℕ) (xs : List Structure) (x : Structure) → in_turn f (xs ++ x ∷ []) ≡ in_turn f xs ++ f x
in_turn_snoc f [] x = append-nil (f x)
in_turn_snoc f (y ∷ xs) x = ap (f y ++◌) (in_turn_snoc f xs x) ∙ sym (append_assoc (f y) (in_turn f xs) (f x))

pub written_snoc : (xs : List Structure) (x : Structure) → written_all (xs ++ x ∷ []) ≡ written_all xs ++ written x
written_snoc xs x = in_turn_snoc written xs x

pub written_on : (xs : List Structure) (y : Structure) → length (written_all (xs ++ y ∷ [])) ≡ length (written_all xs) + length (written y)
written_on xs y = ap length (written_snoc xs y) ∙ length-append (written_all xs) (written y)

-- within the number the sixteen places are the structures' entries
pub at_entries : (p : ℕ) (xs : List Structure) (i : ℕ) → i < length xs → get_or (places p xs) i no_entry ≡ get_or (entries_from p xs) i no_entry
at_entries p xs i l =
    let rest = replicate (16 - length xs) no_entry in
    get_or-append (entries_from p xs) rest no_entry i (rw (length_entries p xs) l)

pub held_at : (p : ℕ) (xs : List Structure) (i : ℕ) → i < length xs → (get_or (entries_from p xs) i no_entry).structure ≡ get_or xs i Structure.Empty
held_at p [] i l = absurd (omega arith)
held_at p (x ∷ xs) zero l = refl
held_at p (x ∷ xs) (suc i) l = held_at (p + length (written x)) xs i (omega arith)

-- the bytes from an entry's place on, for its length, are its structure's
pub bytes_there : (f : List ℕ) (xs : List Structure) (i : ℕ) → i < length xs
    → bytes_at (f ++ written_all xs) (get_or (entries_from (length f) xs) i no_entry) ≡ written (get_or xs i Structure.Empty)
bytes_there f [] i l = absurd (omega arith)
bytes_there f (x ∷ xs) zero l =
    ap (take (length (written x))) (drop-append_seam f (written x ++ written_all xs)) ∙ take-append_seam (written x) (written_all xs)
bytes_there f (x ∷ xs) (suc i) l =
    ap₂ (λ (s : List ℕ) (n : ℕ). bytes_at s (get_or (entries_from n xs) i no_entry)) (sym (append_assoc f (written x) (written_all xs)))
    (sym (length-append f (written x)))
    ∙ bytes_there (f ++ written x) xs i (omega arith)

-- entries tile the bytes from the first structure's place to the last one's end
pub entries_tile : (p : ℕ) (xs : List Structure) → Tiles p (entries_from p xs) (p + length (written_all xs))
entries_tile p [] = sym (add-zero p)
entries_tile p (x ∷ xs) =
    let end : p + length (written x) + length (written_all xs) ≡ p + length (written x ++ written_all xs) =
    omega (arith, length-append (written x) (written_all xs)) in
    (refl, subst (Tiles (p + length (written x)) (entries_from (p + length (written x)) xs)) end (entries_tile (p + length (written x)) xs))
