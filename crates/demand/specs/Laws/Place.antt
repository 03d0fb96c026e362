-- What a refusal's place says of the bytes before it, at it and behind it.
use Rattle.std.specs.Prelude.{ℕ, suc, ◌+◌, ◌-◌, ◌≤◌, ◌<◌, ◌≡◌, refl, List, [], ◌∷◌, ◌++◌, length, take, drop}
use Rattle.std.proofs.Common.{sym, ap, ◌∙◌, subst, append_assoc, arith, lt_of_not-le, length-append, take-append-drop, take-take, take_at}
use Rattle.std.proofs.Math.Seq.{take-append-add, take-append_seam}
use Rattle.demand.specs.Demand.{Acceptable, Begins, Place, Reason, Refused}
use Rattle.demand.specs.Laws.Tree.{begins_front, length_snoc, one_cut}

-- the bytes up to the one behind p
cut : (p : List ℕ) (b : ℕ) (u : List ℕ) → take (suc (length p)) (p ++ b ∷ u) ≡ p ++ b ∷ []
cut p b u = rw (← append_assoc p (b ∷ []) u) (take_at (p ++ b ∷ []) u (suc (length p)) (length_snoc p b))

module _ {M : Type 0} {W : M → List ℕ → Type 0} where
  pub before_place : (s : List ℕ) (j k : ℕ) → Place W s k → j ≤ k → Begins W (take j s)
  before_place s j k at l =
      subst (Begins W) (take-take j k s l)
      (begins_front W (take j (take k s)) (drop j (take k s)) (subst (Begins W) (sym (take-append-drop j (take k s))) at.begins))

  module _ (p : List ℕ) (b : ℕ) where
    module _ (u : List ℕ) (at : Place W (p ++ b ∷ u) (length p)) where
      none_begins : Begins W (p ++ b ∷ []) → ⊥
      none_begins v =
          let fits : suc (length p) ≤ length (p ++ b ∷ u) = simp length-append (omega arith) in
          let l : suc (length p) ≤ length p = at.longest (suc (length p)) fits (rw (cut p b u) v) in
          omega arith

      pub at_place : (v : List ℕ) → Acceptable W (p ++ b ∷ v) → ⊥
      at_place v (m, w) = none_begins (v, (m, rw append_assoc w))

      past : (v : List ℕ) (j : ℕ) → length p < j → Begins W (take j (p ++ b ∷ v)) → ⊥
      past v j l a =
          let i = j - suc (length p) in
          let is : j ≡ length (p ++ b ∷ []) + i = omega (arith, length_snoc p b) in
          let front : take j ((p ++ b ∷ []) ++ v) ≡ (p ++ b ∷ []) ++ take i v = ap (λ (k : ℕ). take k ((p ++ b ∷ []) ++ v)) is
          ∙ take-append-add (p ++ b ∷ []) v i in
          none_begins (begins_front W (p ++ b ∷ []) (take i v) (rw (← front, append_assoc p (b ∷ []) v) a))

      same_place : (v : List ℕ) → Place W (p ++ b ∷ v) (length p)
      same_place v = record {
        within = simp length-append (omega arith);
        begins = rw take-append_seam (rw take-append_seam at at.begins);
        longest = λ j h a. let l : j < suc (length p) = lt_of_not-le (λ l. past v j l a) in omega arith;
      }

    module _ {F : List ℕ → ℕ → ℕ → Type 0} where
      same_row : (u v : List ℕ) (n : ℕ) → Reason W F (p ++ b ∷ u) (length p) n → Reason W F (p ++ b ∷ v) (length p) n
      same_row u v n (Reason.short e d) = let l : length (p ++ b ∷ u) ≡ length p + suc (length u) = length-append p (b ∷ u) in absurd (omega arith)
      same_row u v n (Reason.fatal q c r e d row) =
          let (before, rest) = one_cut p q (b ∷ u) (c ∷ r) e d in
          let byte : b ≡ c = cc in
          Reason.fatal p b v refl refl (rw (before, byte) row)

      pub behind_place : (u v : List ℕ) (n : ℕ) → Refused W F (p ++ b ∷ u) n (length p) → Refused W F (p ++ b ∷ v) n (length p)
      behind_place u v n x =
          record { not_acceptable = at_place u x.place v; place = same_place u x.place v; reason = same_row u v n x.reason }
