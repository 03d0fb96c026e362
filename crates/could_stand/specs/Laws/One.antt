-- Two answers to what could stand there are one.
use Rattle.std.specs.Prelude.{ℕ, ◌<◌, ◌≡◌, refl, Bool, true, false, List, [], ◌∷◌, ◌++◌, get_or, take}
use Rattle.std.proofs.Common.{sym, ◌∙◌, subst, arith, ext_get_or}
use Rattle.demand.specs.Demand.{Acceptable, Begins}
use Rattle.text.specs.Decides.{Decides}
use Rattle.label.specs.declared.Edition.{Edition}
use Rattle.message.specs.Grammar.{Produces}
use Rattle.could_stand.specs.declared.Could.{Could}
use Rattle.could_stand.specs.Could.{CouldStand}

one_test : {t u : Bool} {P : Type 0} → Decides t P → Decides u P → t ≡ u
one_test {t = true} x y = sym (y.passes (x.passed refl))
one_test {t = false} {u = true} x y = x.passes (y.passed refl)
one_test {t = false} {u = false} x y = refl

pub one_could : (ed : Edition) (s : List ℕ) (c d : Could) → CouldStand ed s c → CouldStand ed s d → c ≡ d
one_could ed s c d x y = λ i. record { place = place i; end = end i; byte = byte i }
  where
    place : c.place ≡ d.place
    place =
        let above = x.place.longest d.place y.place.within y.place.begins in
        let below = y.place.longest c.place x.place.within x.place.begins in
        omega arith

    end : c.end ≡ d.end
    end = one_test x.end (subst (λ (k : ℕ). Decides d.end (Acceptable (Produces ed) (take k s))) (sym place) y.end)

    byte : c.byte ≡ d.byte
    byte =
        ext_get_or false c.byte d.byte (x.all ∙ sym y.all) λ b l.
        let few : b < 256 = omega (arith, x.all) in
        one_test (x.byte b few)
        (subst (λ (k : ℕ). Decides (get_or d.byte b false) (Begins (Produces ed) (take k s ++ b ∷ []))) (sym place) (y.byte b few))
