-- A set of bytes told by their bits: the test is computed for every byte.
use Rattle.std.specs.Prelude.{ℕ, ◌<◌, ◌≡◌, refl, Bool, ltb}
use Rattle.std.specs.Int.Bits.{bit_xor}
use Rattle.text.specs.Bytes.{digit}
use Rattle.text.specs.Laws.Every.{agree_at}

-- the ten digits are those that differ from 0 in the lower four bits alone, by less than 10
abbrev digit_bits : ℕ → Bool
digit_bits b = ltb (bit_xor b 48) 10

pub digit_by_bits : (b : ℕ) → b < 256 → digit_bits b ≡ digit b
digit_by_bits b h = agree_at digit_bits digit 256 b refl h
