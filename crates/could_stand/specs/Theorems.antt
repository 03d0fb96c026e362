-- What follows from what could stand there.
use Rattle.std.specs.Prelude.{ℕ, ◌≡◌, List}
use Rattle.label.specs.declared.Edition.{Edition}
use Rattle.could_stand.specs.declared.Could.{Could}
use Rattle.could_stand.specs.Could.{CouldStand}
use Rattle.could_stand.specs.Laws.One as one

-- `could_stand`'s contract leaves one answer for every edition and every scan
pub one_could : (ed : Edition) (s : List ℕ) (c d : Could) → CouldStand ed s c → CouldStand ed s d → c ≡ d
one_could ed s c d x y = one.one_could ed s c d x y
