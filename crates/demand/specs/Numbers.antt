-- 01, "Refusal numbers": the numbers by name.
use Rattle.std.specs.Prelude.{ℕ}

-- row 0: accepted
abbrev pub ACCEPTED : ℕ
ACCEPTED = 0

-- row 1: begins an accepted message and is none
abbrev pub SHORT : ℕ
SHORT = 1

-- row 2: no identifier where a structure is due
abbrev pub IDENTIFIER : ℕ
IDENTIFIER = 2

-- row 3: an 023 within a compound
abbrev pub NESTED : ℕ
NESTED = 3

-- row 4: outside the set of its position
abbrev pub CHARACTER : ℕ
CHARACTER = 4

-- row 5: no lawful value goes on
abbrev pub VALUE : ℕ
VALUE = 5

-- row 6: after a complete message
abbrev pub TRAILING : ℕ
TRAILING = 6

-- row 7: writer, no shape of a message
abbrev pub SHAPE : ℕ
SHAPE = 7

-- row 8: writer, no value that reading gives
abbrev pub FIELD : ℕ
FIELD = 8

-- row 9: writer, buffer too short
abbrev pub ROOM : ℕ
ROOM = 9

-- row 10: keyboard, a wrong check character; W-203: flags that do not carry it
abbrev pub CHECK : ℕ
CHECK = 10

-- W-204, 11: no lawful day goes on
abbrev pub DAY : ℕ
DAY = 11

-- W-204, 12: no lawful hour or minute goes on
abbrev pub TIME : ℕ
TIME = 12

-- W-208, 13: a second 001 in a compound
abbrev pub REPEAT : ℕ
REPEAT = 13

-- W-207, 14: a unit that stands on the shelf list
abbrev pub ALREADY : ℕ
ALREADY = 14

-- W-207, 15: no record of the shelf list is free
abbrev pub FULL : ℕ
FULL = 15

-- W-207, 16: no record of the shelf list holds the unit
abbrev pub ABSENT : ℕ
ABSENT = 16

-- W-213, 17: a tag that no record has at that spot
abbrev pub TAG : ℕ
TAG = 17

-- W-213, 18: a length that is not the kind's
abbrev pub LENGTH : ℕ
LENGTH = 18
