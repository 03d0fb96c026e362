-- Only what is judged of a line decides what a job writes for it, and there is room for that.
use Rattle.std.specs.Prelude.{ℕ, ◌+◌, ◌^◌, ◌≤◌, ◌<◌, List, length}
use Rattle.std.proofs.Common.{arith}
use Rattle.lines.specs.Lines.{JUDGED}
use Rattle.lines.specs.Buffer.{Lays}
use Rattle.lines.specs.Report.{LineReport}
use Rattle.lines.specs.Laws.Upto.{Judging}
use Rattle.lines.specs.Laws.Laid.{line_within}
use Rattle.lines.specs.Laws.Report as report
use Rattle.extract_line.specs.Lines.{LineExtract}
use Rattle.extract_line.specs.Laws.Lines as extract
use Rattle.stream.specs.Jobs.{LINE_ROOM}
use Rattle.stream.specs.Laws.Moves.{LaysLine}

pub report_judging : Judging LineReport
report_judging n u v text e x = report.line_alike e x

pub extract_judging : Judging (λ n. LineExtract)
extract_judging n u v text e x = extract.line_alike e x

pub lays_report : {n at r : ℕ} {line s t : List ℕ} → n < 2 ^ 64 → at + LINE_ROOM ≤ length s → Lays (LineReport n line) at s t r
    → LaysLine (LineReport n line) at s t r
lays_report h room x = record { lays = x; near = omega (arith, (line_within x (omega arith) (omega arith)).1) }

pub lays_extract : {at r : ℕ} {line s t : List ℕ} → length line ≤ JUDGED → Lays (LineExtract line) at s t r → LaysLine (LineExtract line) at s t r
lays_extract h x = record { lays = x; near = omega (arith, x.ends, extract.extract_short x.due) }
