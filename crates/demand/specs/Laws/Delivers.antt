-- What a value, a number and a place deliver, over any language and any table.
use Rattle.std.specs.Prelude.{ℕ, ◌≡◌, refl, Bool, true, false, cond, List, ◌↔◌, eqb, length}
use Rattle.std.proofs.Common.{sym, ◌∙◌, subst, arith, ne_eqb, eq-eqb, eqb-true}
use Rattle.std.proofs.lemmas.Bool.{eqb-false}
use Rattle.demand.specs.Demand.{Answer, accepted, refused, answer_of, Acceptable, Reason, Right, Delivers}
use Rattle.demand.specs.Numbers.{ACCEPTED}

-- two of one answer are one, where a refusal's value is `nothing`
same_answer : {M : Type 0} (nothing m m' : M) (n n' k k' : ℕ) → ((n ≡ ACCEPTED → ⊥) → m ≡ nothing)
    → ((n' ≡ ACCEPTED → ⊥) → m' ≡ nothing)
    → answer_of m n k ≡ answer_of m' n' k' → (m ≡ m') × (n ≡ n') × (k ≡ k')
same_answer nothing m m' n n' k k' h g same = by (eqb n 0) (eqb n' 0) refl refl same
  where
    by : (t u : Bool) → eqb n 0 ≡ t → eqb n' 0 ≡ u → cond t (accepted m k) (refused n k) ≡ cond u (accepted m' k') (refused n' k')
        → (m ≡ m') × (n ≡ n') × (k ≡ k')
    by true true e f same = (cc, eqb-true n 0 e ∙ sym (eqb-true n' 0 f), cc)
    by true false e f same = let z : ◌≡◌ {A = ℕ} 0 1 = cc in absurd (omega arith)
    by false true e f same = let z : ◌≡◌ {A = ℕ} 0 1 = cc in absurd (omega arith)
    by false false e f same = (h (eqb-false n 0 e) ∙ sym (g (eqb-false n' 0 f)), cc, cc)

module _ {M : Type 0} {W : M → List ℕ → Type 0} {F : List ℕ → ℕ → ℕ → Type 0} {nothing m : M} {n k : ℕ} {s : List ℕ} where
  pub delivers_accepted : Right W F s (accepted m k) → n ≡ ACCEPTED → Delivers W F nothing s m n k
  delivers_accepted h z =
      record { right = subst (λ (t : Bool). Right W F s (cond t (accepted m k) (refused n k))) (sym (eq-eqb n 0 z)) h; empty = λ f. absurd (f z) }

  -- no row has the number 0
  pub delivers_refused : ((p : List ℕ) (b : ℕ) → F p b n → n ≡ ACCEPTED → ⊥) → Right W F s (refused n k) → m ≡ nothing
      → Delivers W F nothing s m n k
  delivers_refused rows h none =
      record {
        right = subst (λ (t : Bool). Right W F s (cond t (accepted m k) (refused n k))) (sym (ne_eqb n 0 (some h.reason))) h;
        empty = λ f. none;
      }
    where
      some : Reason W F s k n → n ≡ 0 → ⊥
      some (Reason.short e d) z = omega arith
      some (Reason.fatal p b r e l row) z = rows p b row z

  -- what is accepted is a writing of the value, and the place is its length
  pub delivered : Delivers W F nothing s m n k → n ≡ ACCEPTED → W m s × (k ≡ length s)
  delivered x z = subst (λ (i : ℕ). Right W F s (answer_of m i k)) z x.right

  -- the number is 0 exactly if the language can produce the bytes
  pub accepted_exactly : Delivers W F nothing s m n k → (n ≡ ACCEPTED) ↔ Acceptable W s
  accepted_exactly x = (λ z. (m, (delivered x z).0), λ a. by (eqb n 0) refl x.right a)
    where
      by : (t : Bool) → eqb n 0 ≡ t → Right W F s (cond t (accepted m k) (refused n k)) → Acceptable W s → n ≡ 0
      by true e g a = eqb-true n 0 e
      by false e g a = absurd (g.not_acceptable a)

  -- one answer leaves one value, number and place
  pub one_delivered : ((a b : Answer M) → Right W F s a → Right W F s b → a ≡ b) → {m' : M} {n' k' : ℕ} → Delivers W F nothing s m n k
      → Delivers W F nothing s m' n' k' → (m ≡ m') × (n ≡ n') × (k ≡ k')
  one_delivered one {m'} {n'} {k'} x y =
      same_answer nothing m m' n n' k k' x.empty y.empty (one (answer_of m n k) (answer_of m' n' k') x.right y.right)
