-- The numbers of the refusals that the code names: each is that of its row in the table.
use Rattle.std.specs.Prelude.{ℕ, Result, Ok, Err}
use Rattle.demand.specs.Numbers.{ACCEPTED, SHORT, IDENTIFIER, NESTED, CHARACTER, VALUE, TRAILING, SHAPE, FIELD, ROOM, CHECK, DAY, TIME, REPEAT, ALREADY, FULL}
use Rattle.demand.specs.Numbers.{ABSENT, TAG, LENGTH}
use Rattle.demand.specs.declared.Refusal.{Refusal}

-- "Refusal numbers": the row of a refusal
abbrev pub number_of : Refusal → ℕ
number_of Refusal.Short = SHORT
number_of Refusal.Identifier = IDENTIFIER
number_of Refusal.Nested = NESTED
number_of Refusal.Character = CHARACTER
number_of Refusal.Value = VALUE
number_of Refusal.Trailing = TRAILING
number_of Refusal.Shape = SHAPE
number_of Refusal.Field = FIELD
number_of Refusal.Room = ROOM
number_of Refusal.Check = CHECK
number_of Refusal.Day = DAY
number_of Refusal.Time = TIME
number_of Refusal.Repeat = REPEAT
number_of Refusal.Already = ALREADY
number_of Refusal.Full = FULL
number_of Refusal.Absent = ABSENT
number_of Refusal.Tag = TAG
number_of Refusal.Length = LENGTH

-- a number is its own row
abbrev pub itself : ℕ → ℕ
itself n = n

-- row 0 where a byte fits, else the row of its refusal
abbrev pub judged_by : {R : Type 0} → (R → ℕ) → Result (Unit {0}) R → ℕ
judged_by row (Ok _) = ACCEPTED
judged_by row (Err r) = row r

abbrev pub judged : Result (Unit {0}) Refusal → ℕ
judged r = judged_by number_of r
