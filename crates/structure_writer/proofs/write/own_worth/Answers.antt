-- Bytes 1 to 13 of a donation as it is written are its number.
use Rattle.std.proofs.Common.{ℕ, ap, ◌∙◌, List, take, drop}
use Rattle.check37.specs.Check.{check_worth}
use Rattle.structure_writer.proofs.write.own_worth.Goals as goal

pub returns : goal.returns
returns c = c.check_worth.ensures ∙ ap (λ (l : List ℕ). check_worth (take 13 (drop 1 l))) c.donation.ensures
