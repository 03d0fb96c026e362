-- What a lent buffer holds after bytes were stored in it.
use Rattle.std.specs.Prelude.{ℕ, List, ◌++◌, length, take, drop}

-- demands 1 and 2: the bytes from the buffer's first byte on, and past them every byte as before
abbrev pub laid : List ℕ → List ℕ → List ℕ
laid bytes before = bytes ++ drop (length bytes) before

-- the same from an index on
abbrev pub laid_at : ℕ → List ℕ → List ℕ → List ℕ
laid_at at bytes before = take at before ++ laid bytes (drop at before)
