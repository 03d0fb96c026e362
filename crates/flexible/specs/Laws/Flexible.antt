-- An 031's content: first characters and type, then the day, then the time. Nothing of the three is proved again.
use Rattle.std.specs.Prelude.{ℕ, get_or, replicate, ◌≡◌, List, [], ◌++◌}
use Rattle.demand.specs.Numbers.{VALUE}
use Rattle.text.specs.Bytes.{byte}
use Rattle.text.specs.Laws.Decimal.{digit_position}
use Rattle.std.proofs.Common.{ap₂, ◌∙◌}
use Rattle.demand.specs.Each.{Each}
use Rattle.demand.specs.Laws.Content.{Position, Fits, Opens}
use Rattle.demand.specs.Laws.Joined.{joined, joined_opens, joined_in, joined_out}
use Rattle.calendar.specs.declared.Time.{Time}
use Rattle.calendar.specs.Calendar.{LawfulTime, time_text, time_of}
use Rattle.calendar.specs.Laws.Time.{time_positions, time_opens, time_in, time_out, time_fits}
use Rattle.months.specs.declared.Day.{Day}
use Rattle.months.specs.Months.{LawfulDay}
use Rattle.flexible.specs.declared.Flexible.{Flexible}
use Rattle.flexible.specs.Flexible.{LawfulFlexible, type_text, day_text}
use Rattle.flexible.specs.Laws.DateType.{type_of, type_positions, type_opens, type_in, type_out, type_fits}
use Rattle.flexible.specs.Laws.Day.{day_of, day_positions, day_opens, day_in, day_out, day_fits}

abbrev pub moment_positions : List Position
moment_positions = joined day_positions time_positions

abbrev pub flexible_positions : List Position
flexible_positions = joined type_positions moment_positions

pub flexible_opens : Each Opens flexible_positions
flexible_opens = joined_opens type_positions moment_positions type_opens (joined_opens day_positions time_positions day_opens time_opens)

-- the values of an 031, all of them lawful, and their writing
abbrev pub LawfulMoment : Flexible → Day → Time → Type 0
LawfulMoment f d t = LawfulFlexible f × (LawfulDay d × LawfulTime t)

abbrev pub flexible_text : Flexible → Day → Time → List ℕ
flexible_text f d t = type_text f ++ (day_text d ++ time_text t)

pub flexible_in : {c : List ℕ} → Fits flexible_positions [] c
    → (f : Flexible) × (d : Day) × (t : Time) × LawfulMoment f d t × (c ≡ flexible_text f d t)
flexible_in fs =
    let halves = joined_in type_positions moment_positions fs in
    let later = joined_in day_positions time_positions halves.right_fits in
    let (type, is) = type_in halves.left_fits in
    let (day, isd) = day_in later.left_fits in
    let (t, hour, ist) = time_in later.right_fits in
    (_, _, t, (type, (day, hour)), halves.whole ∙ ap₂ ◌++◌ is (later.whole ∙ ap₂ ◌++◌ isd ist))

pub flexible_out : (f : Flexible) (d : Day) (t : Time) → LawfulMoment f d t → Fits flexible_positions [] (flexible_text f d t)
flexible_out f d t h =
    joined_out type_positions moment_positions (type_out f h.0) (joined_out day_positions time_positions (day_out d h.1.0) (time_out t h.1.1))

-- digits that stand for a lawful type, day and time, with 0 for the second of them
pub flexible_fits : {p q r a b c : List ℕ} → Fits (replicate 4 (digit_position VALUE)) p a → Fits (replicate 8 (digit_position VALUE)) q b
    → Fits (replicate 4 (digit_position VALUE)) r c → get_or a 1 0 ≡ byte "0" → LawfulFlexible (type_of a) → LawfulDay (day_of b)
    → LawfulTime (time_of c)
    → Fits flexible_positions [] (a ++ (b ++ c))
flexible_fits fs gs hs zeroth type day hour =
    joined_out type_positions moment_positions (type_fits fs zeroth type)
    (joined_out day_positions time_positions (day_fits gs day) (time_fits hs hour))
