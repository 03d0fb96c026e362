-- A date and time: the date's content, then the time's. Nothing of the date is proved again.
use Rattle.std.specs.Prelude.{◌≡◌, List, [], ◌++◌, ℕ, replicate}
use Rattle.std.proofs.Common.{ap₂, ◌∙◌}
use Rattle.demand.specs.Each.{Each}
use Rattle.demand.specs.Numbers.{VALUE}
use Rattle.demand.specs.Laws.Content.{Position, Fits, Opens}
use Rattle.demand.specs.Laws.Joined.{joined, joined_opens, joined_in, joined_out}
use Rattle.text.specs.Laws.Decimal.{digit_position}
use Rattle.calendar.specs.declared.Date.{Date}
use Rattle.calendar.specs.declared.Time.{Time}
use Rattle.calendar.specs.Calendar.{LawfulDate, LawfulTime, date_text, time_text, date_of, time_of}
use Rattle.calendar.specs.Laws.Date.{date_positions, date_opens, date_in, date_out, date_fits}
use Rattle.calendar.specs.Laws.Time.{time_positions, time_opens, time_in, time_out, time_fits}

abbrev pub stamp_positions : List Position
stamp_positions = joined date_positions time_positions

pub stamp_opens : Each Opens stamp_positions
stamp_opens = joined_opens date_positions time_positions date_opens time_opens

pub stamp_in : {c : List ℕ} → Fits stamp_positions [] c → (d : Date) × (t : Time) × LawfulDate d × LawfulTime t × (c ≡ date_text d ++ time_text t)
stamp_in fs =
    let halves = joined_in date_positions time_positions fs in
    let (d, day, is) = date_in halves.left_fits in
    let (t, hour, ist) = time_in halves.right_fits in
    (d, t, day, hour, halves.whole ∙ ap₂ ◌++◌ is ist)

pub stamp_out : (d : Date) (t : Time) → LawfulDate d → LawfulTime t → Fits stamp_positions [] (date_text d ++ time_text t)
stamp_out d t day hour = joined_out date_positions time_positions (date_out d day) (time_out t hour)

-- six digits that stand for a lawful date, and four for a lawful time
pub stamp_fits : {p q a b : List ℕ} → Fits (replicate 6 (digit_position VALUE)) p a → Fits (replicate 4 (digit_position VALUE)) q b
    → LawfulDate (date_of a) → LawfulTime (time_of b) → Fits stamp_positions [] (a ++ b)
stamp_fits fs gs day hour = joined_out date_positions time_positions (date_fits fs day) (time_fits gs hour)
