-- What follows of the extract: what a line keeps of a message and what it hides, and one answer to every scan and buffer.
use Rattle.std.specs.Prelude.{ℕ, ◌+◌, ◌≡◌, List, map, length}
use Rattle.std.proofs.Common.{sym, ap, ◌∙◌}
use Rattle.label.specs.declared.Edition.{Edition}
use Rattle.label.specs.declared.Message.{Message}
use Rattle.structure.specs.Structures.{kind_of}
use Rattle.message.specs.Grammar.{Produces}
use Rattle.message.specs.Writing.{structures_of}
use Rattle.message.specs.declared.Written.{Written}
use Rattle.extract_line.specs.Extract.{line_of, widths}
use Rattle.extract_line.specs.Masked.{masked}
use Rattle.extract_line.specs.Extracts.{Extracts}
use Rattle.extract_line.specs.Lines.{Extract}
use Rattle.extract_line.specs.Laws.Shown as shown
use Rattle.extract_line.specs.Laws.Back as back
use Rattle.extract_line.specs.Laws.One as one
use Rattle.extract_line.specs.Laws.Lines as lines

-- "two accepted messages that differ only in sequence numbers and flags produce the same line"
pub same_line : (m n : Message) → masked m ≡ masked n → line_of m ≡ line_of n
same_line m n e = sym (shown.masked_line m) ∙ ap line_of e ∙ shown.masked_line n

-- "two that differ in anything else produce different lines"
pub different_lines : (m n : Message) (s t : List ℕ) → Produces Edition.Current m s → Produces Edition.Current n t → line_of m ≡ line_of n
    → masked m ≡ masked n
different_lines m n s t v w e = sym (back.line_back v) ∙ ap back.read_off e ∙ back.line_back w

-- "all structures are of fixed length": the kinds alone decide the line's
pub fixed_width : (m : Message) → length (line_of m) ≡ 5 + widths (map kind_of (structures_of m))
fixed_width m = shown.line_length m

-- `extract`'s contract leaves one answer and one buffer for every scan and every buffer
pub one_extract : (scan before after after' : List ℕ) (d e : Written) → Extracts scan before after d → Extracts scan before after' e
    → (d ≡ e) × (after ≡ after')
one_extract scan before after after' d e x y = one.one_extract x y

-- any lines have an extract
pub some_text : (n : ℕ) (ls : List (List ℕ)) → (text : List ℕ) × Extract n ls text
some_text n ls = lines.some_extract n ls

-- and only one
pub one_text : (n : ℕ) (ls : List (List ℕ)) (a b : List ℕ) → Extract n ls a → Extract n ls b → a ≡ b
one_text n ls a b x y = lines.one_extract x y
