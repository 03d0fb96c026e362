-- Room for what a job writes.
use Rattle.std.specs.Prelude.{ℕ, ◌+◌}
use Rattle.lines.specs.Lines.{JUDGED}
use Rattle.extract_line.specs.Lines.{extract_room}
use Rattle.blocks.specs.Reads.{BLOCK}

-- room for the text of a line: the extract takes most
abbrev pub LINE_ROOM : ℕ
LINE_ROOM = extract_room JUDGED

-- room for a block of output, and the text of a line behind it
abbrev pub OUTPUT_ROOM : ℕ
OUTPUT_ROOM = BLOCK + LINE_ROOM
