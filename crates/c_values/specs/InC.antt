-- What C gets of some bytes: a reading that is right for them, in C's form. No reader is named.
use Rattle.std.specs.Prelude.{ℕ, ◌≡◌, List}
use Rattle.label.specs.declared.Edition.{Edition}
use Rattle.label.specs.declared.Message.{Message}
use Rattle.message.specs.declared.Reading.{Reading}
use Rattle.message.specs.Grammar.{Produces}
use Rattle.message.specs.Refusals.{Fatal}
use Rattle.message.specs.Reading.{AnswersIn}
use Rattle.c_values.specs.declared.CReading.{CReading}
use Rattle.c_values.specs.Values.{reading_in_c}

-- right by a language of messages and its table: labels, or records of the host
pub record ReadsIn (W : Message → List ℕ → Type 0) (F : List ℕ → ℕ → ℕ → Type 0) (s : List ℕ) (r : CReading) : Type 0 where
  pub reading : Reading
  pub answers : AnswersIn W F s reading
  pub is : r ≡ reading_in_c reading

-- the same by an edition's grammar
abbrev pub ReadsLabel : Edition → List ℕ → CReading → Type 0
ReadsLabel ed s r = ReadsIn (Produces ed) (Fatal ed) s r
