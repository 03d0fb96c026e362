-- W-209, "Where each structure stood": what the places and lengths of entries say of a message's bytes.
use Rattle.std.specs.Prelude.{ℕ, ◌+◌, ◌≡◌, List, [], ◌∷◌, get_or, take, drop}
use Rattle.label.specs.declared.Entry.{Entry}
use Rattle.label.specs.declared.Message.{Message}
use Rattle.message.specs.Grammar.{no_entry}

-- the entry at an index
abbrev pub entry_in : Message → ℕ → Entry
entry_in m i = get_or m.entries i no_entry

-- "the bytes of a message from one place, for its length"
abbrev pub bytes_at : List ℕ → Entry → List ℕ
bytes_at s e = take e.length (drop e.place s)

-- entries tile the bytes from p to q: each begins where the one before it ends, and the last one ends at q
abbrev pub Tiles : ℕ → List Entry → ℕ → Type 0
Tiles p [] q = p ≡ q
Tiles p (e ∷ es) q = (e.place ≡ p) × Tiles (p + e.length) es q
