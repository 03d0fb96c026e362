-- Why bytes are no whole, told from where they begin or from further back.
use Rattle.std.specs.Prelude.{ℕ, ◌+◌, ◌^◌, ◌<◌}
use Rattle.demand.specs.declared.Stop.{Stop}

-- the same with its place so many bytes further on
abbrev pub behind : Stop → ℕ → Stop
behind Stop.Short n = Stop.Short
behind (Stop.Refused r i) n = Stop.Refused r (i + n)

-- that place is one of a scan's
abbrev pub PlacedBehind : Stop → ℕ → Type 0
PlacedBehind Stop.Short n = Unit {0}
PlacedBehind (Stop.Refused r i) n = i + n < 2 ^ 64
