-- 01, "Terminal and bench program": the three answers that the firmware asks for, and one verdict, of the current edition (W-212). No
-- reader is named.
use Rattle.std.specs.Prelude.{ℕ, ◌≡◌, List, Option}
use Rattle.label.specs.declared.Edition.{Edition}
use Rattle.message.specs.declared.Reading.{Reading}
use Rattle.message.specs.Reading.{Answers}
use Rattle.check37.specs.Check.{Checks, check_byte}
use Rattle.terminal.specs.declared.Verdict.{Verdict}

-- refusal number, place and count of structures of a reading
abbrev pub verdict_of : Reading → Verdict
verdict_of r = record { place = r.place; count = r.message.count; refusal = r.refusal }

-- all three of the reading that is right for a scan
pub record Judges (s : List ℕ) (v : Verdict) : Type 0 where
  pub reading : Reading
  pub answers : Answers Edition.Current s reading
  pub is : v ≡ verdict_of reading

-- "the refusal number for a scan"
pub record ScanRefusal (s : List ℕ) (n : ℕ) : Type 0 where
  pub reading : Reading
  pub answers : Answers Edition.Current s reading
  pub given : n ≡ reading.refusal

-- "its place (the length if accepted)"
pub record ScanPlace (s : List ℕ) (k : ℕ) : Type 0 where
  pub reading : Reading
  pub answers : Answers Edition.Current s reading
  pub given : k ≡ reading.place

-- "the check character of 13 bytes (0 if they are no donation number)"
pub record CheckCharacter (s : List ℕ) (n : ℕ) : Type 0 where
  pub check : Option ℕ
  pub checks : Checks s check
  pub given : n ≡ check_byte check
