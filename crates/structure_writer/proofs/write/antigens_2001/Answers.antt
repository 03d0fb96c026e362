-- The digits are laid behind the identifier, and behind them the check of what was laid.
use Rattle.std.proofs.Common.{[], ℕ, ◌≡◌, refl, ap, ◌∙◌, List, ◌∷◌, ◌++◌, arith, take, drop}
use Rattle.label.specs.declared.Structure.{Structure}
use Rattle.text.specs.Buffer.{laid_at}
use Rattle.text.specs.Decimal.{digits}
use Rattle.text.specs.Laws.Laid.{laid_then}
use Rattle.check37.specs.Check.{check_of}
use Rattle.structure.specs.Structures.{identifier, antigen_digits}
use Rattle.structure_writer.proofs.write.antigens_2001.Goals as goal

pub returns : goal.returns
returns c =
    let args = c.args in
    let a = args.a in
    let before = args.part.now in
    let named = identifier (Structure.Antigens2001 a) in
    let front = laid_then 0 2 named (digits 16 a.results) before (omega arith) refl c.name.ensures c.write_digits.ensures in
    let whole = laid_then 0 18 (named ++ digits 16 a.results) (digits 2 a.ii) before (omega arith) refl front c.write_digits-2.ensures in
    let own : c.check_of-check.result ≡ check_of (antigen_digits a) = c.check_of-check.ensures
    ∙ ap (λ (l : List ℕ). check_of (take 18 (drop 2 l))) whole in
    let check = c.put.ensures ∙ ap (λ (b : ℕ). laid_at 20 (b ∷ []) c.write_digits-2.new.buffer) own in
    laid_then 0 20 (named ++ antigen_digits a) (check_of (antigen_digits a) ∷ []) before (omega arith) refl whole check
