-- 01, "Refusal numbers": what `read` must give for a scan in an edition.
use Rattle.std.specs.Prelude.{ℕ, List}
use Rattle.demand.specs.Demand.{Delivers}
use Rattle.label.specs.declared.Edition.{Edition}
use Rattle.label.specs.declared.Message.{Message}
use Rattle.message.specs.declared.Reading.{Reading}
use Rattle.message.specs.Grammar.{empty_message, Produces}
use Rattle.message.specs.Refusals.{Fatal}

-- right by a language of messages and its table; "a refused reading gives the empty message"
abbrev pub AnswersIn : (Message → List ℕ → Type 0) → (List ℕ → ℕ → ℕ → Type 0) → List ℕ → Reading → Type 0
AnswersIn W F s r = Delivers W F empty_message s r.message r.refusal r.place

-- the same by an edition's grammar
abbrev pub Answers : Edition → List ℕ → Reading → Type 0
Answers ed s r = AnswersIn (Produces ed) (Fatal ed) s r
