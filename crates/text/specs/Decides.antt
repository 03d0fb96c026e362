-- A test and the fact that it decides.
use Rattle.std.specs.Prelude.{◌≡◌, Bool, true}

-- the test is true exactly if the fact holds
pub record Decides (t : Bool) (P : Type 0) : Type 0 where
  pub passed : t ≡ true → P
  pub passes : P → t ≡ true
