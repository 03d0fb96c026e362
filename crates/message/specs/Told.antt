-- 01, "Refusal numbers": what is told of writing, a refusal's number and place, or row 0 and how many bytes there are.
use Rattle.std.specs.Prelude.{ℕ, Result, Ok, Err}
use Rattle.demand.specs.Numbers.{ACCEPTED}
use Rattle.demand.specs.Numbered.{number_of}
use Rattle.message.specs.declared.Refused.{Refused}
use Rattle.message.specs.declared.Written.{Written}

-- row 0 with the length, any other row with its place
abbrev pub told : Result ℕ Refused → Written
told (Ok n) = record { place = n; refusal = ACCEPTED }
told (Err r) = record { place = r.place; refusal = number_of r.refusal }
