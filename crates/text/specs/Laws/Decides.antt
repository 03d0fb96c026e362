-- Tests put together, and the facts that they decide.
use Rattle.std.specs.Prelude.{ℕ, ◌≤◌, ◌≡◌, refl, Bool, true, false, ◌&&◌, ◌||◌, not, ◌⊎◌, leb, eqb}
use Rattle.std.proofs.Common.{sym, ap, ◌∙◌, subst, true≢false, inl, inr, leb-true, le-leb, eqb-true, eq-eqb}
use Rattle.text.specs.Decides.{Decides}
use Rattle.text.specs.Laws.Bytes.{both, either, either_right}

pub decides_both : {t u : Bool} {P Q : Type 0} → Decides t P → Decides u Q → Decides (t && u) (P × Q)
decides_both {t} {u} x y =
    record { passed = λ e. let (f, g) = both t u e in (x.passed f, y.passed g); passes = λ h. rw (x.passes h.0, y.passes h.1) }

pub decides_either : {t u : Bool} {P Q : Type 0} → Decides t P → Decides u Q → Decides (t || u) (P ⊎ Q)
decides_either {t} {u} {P} {Q} x y = record { passed = λ e. told (either t u e); passes = passes }
  where
    told : (t ≡ true) ⊎ (u ≡ true) → P ⊎ Q
    told (inl e) = inl (x.passed e)
    told (inr e) = inr (y.passed e)

    passes : P ⊎ Q → (t || u) ≡ true
    passes (inl h) = rw (x.passes h)
    passes (inr h) = either_right t u (y.passes h)

infixl 34 ◌and◌
pub ◌and◌ : {t u : Bool} {P Q : Type 0} → Decides t P → Decides u Q → Decides (t && u) (P × Q)
◌and◌ = decides_both

-- the same fact in other words
pub decides_as : {t : Bool} {P Q : Type 0} → Decides t P → (P → Q) → (Q → P) → Decides t Q
decides_as x f g = record { passed = λ e. f (x.passed e); passes = λ h. x.passes (g h) }

-- another test with the same value
pub decides_same : {t u : Bool} {P : Type 0} → t ≡ u → Decides u P → Decides t P
decides_same {P = P} e x = subst (λ (b : Bool). Decides b P) (sym e) x

pub decides_itself : (t : Bool) → Decides t (t ≡ true)
decides_itself t = record { passed = λ e. e; passes = λ e. e }

pub decides_most : (n m : ℕ) → Decides (leb n m) (n ≤ m)
decides_most n m = record { passed = leb-true n m; passes = le-leb n m }

pub decides_equal : (n m : ℕ) → Decides (eqb n m) (n ≡ m)
decides_equal n m = record { passed = eqb-true n m; passes = eq-eqb n m }

-- what a test that was turned round says
pub decided_not : {t : Bool} {P : Type 0} → Decides t P → not t ≡ true → P → ⊥
decided_not {t} x e h = true≢false (sym e ∙ ap not (x.passes h))

pub decided : {t : Bool} {P : Type 0} → Decides t P → not t ≡ false → P
decided {t = true} x e = x.passed refl
decided {t = false} x e = absurd (true≢false e)

-- a test whose outcome is known
pub decides_yes : {P : Type 0} → P → Decides true P
decides_yes h = record { passed = λ e. h; passes = λ h. refl }

pub decides_no : {P : Type 0} → (P → ⊥) → Decides false P
decides_no n = record { passed = λ e. absurd (true≢false (sym e)); passes = λ h. absurd (n h) }
