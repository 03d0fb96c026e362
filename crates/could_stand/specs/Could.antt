-- What could stand at demand 3's place, over the grammar of an edition. No reader is named.
use Rattle.std.specs.Prelude.{ℕ, ◌<◌, ◌≡◌, false, List, [], ◌∷◌, ◌++◌, length, get_or, take}
use Rattle.demand.specs.Demand.{Acceptable, Begins, Place}
use Rattle.text.specs.Decides.{Decides}
use Rattle.label.specs.declared.Edition.{Edition}
use Rattle.message.specs.Grammar.{Produces}
use Rattle.could_stand.specs.declared.Could.{Could}

-- what `could_stand` must give for an edition and any bytes
pub record CouldStand (ed : Edition) (s : List ℕ) (c : Could) : Type 0 where
  -- the place is demand 3's, of accepted bytes too
  pub place : Place (Produces ed) s c.place
  -- the message may end there exactly if the beginning up to the place is acceptable
  pub end : Decides c.end (Acceptable (Produces ed) (take c.place s))
  -- a byte may stand there exactly if the beginning and that byte begin some acceptable message; all 256 have an answer
  pub byte : (b : ℕ) → b < 256 → Decides (get_or c.byte b false) (Begins (Produces ed) (take c.place s ++ b ∷ []))
  pub all : length c.byte ≡ 256
