-- W-202, "Flexible date and time": the sixteen characters of an 031.
use Rattle.std.specs.Prelude.{ℕ, ◌≤◌, List, ◌∷◌, ◌++◌}
use Rattle.text.specs.Bytes.{byte}
use Rattle.text.specs.Decimal.{digits}
use Rattle.months.specs.declared.Day.{Day}
use Rattle.flexible.specs.declared.Flexible.{Flexible}

-- "the first is one of those listed in section 3.10": 1 or 2; "a type from 01 to 05"
pub record LawfulFlexible (f : Flexible) : Type 0 where
  pub least_first : byte "1" ≤ f.first
  pub most_first : f.first ≤ byte "2"
  pub least_type : 1 ≤ f.timetype
  pub most_type : f.timetype ≤ 5

-- the first character, "the second is 0", then the type
abbrev pub type_text : Flexible → List ℕ
type_text f = f.first ∷ byte "0" ∷ digits 2 f.timetype

-- "yyyymmdd"
abbrev pub day_text : Day → List ℕ
day_text d = digits 4 d.year ++ (digits 2 d.month ++ digits 2 d.day)
