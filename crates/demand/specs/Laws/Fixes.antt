-- Where the table has one number for a byte, the tree fixes it: a law over any language and any such table.
use Rattle.std.specs.Prelude.{ℕ, ◌≡◌, List, [], ◌∷◌, ◌++◌, length}
use Rattle.std.proofs.Common.{ap, ◌∙◌, append_assoc, append-nil, arith}
use Rattle.demand.specs.Demand.{Begins}
use Rattle.demand.specs.Laws.Tree.{Tree, fatal, ask, final, at, at_append, at_fatal, Alive, Ends, Sound, alive_begins, lives, length_snoc, one_cut}

-- two ways to cut off the last byte are one
pub one_last : (p q : List ℕ) (b c : ℕ) → p ++ b ∷ [] ≡ q ++ c ∷ [] → (p ≡ q) × (b ≡ c)
one_last p q b c e =
    let long : length (p ++ b ∷ []) ≡ length (q ++ c ∷ []) = ap length e in
    let (same, rest) = one_cut p q (b ∷ []) (c ∷ []) e (omega (arith, length_snoc p b, length_snoc q c)) in
    (same, cc)

module _ {M : Type 0} (W : M → List ℕ → Type 0) (F : List ℕ → ℕ → ℕ → Type 0)
    (one_row : (p : List ℕ) (b m n : ℕ) → F p b m → F p b n → m ≡ n)
    (whole : Tree M) (out : (m : M) (s : List ℕ) → W m s → Ends (at whole s) m) (sound : Sound W F whole []) where
  -- a tour goes on from every node that refuses nothing
  sound_at : (t : Tree M) (p s : List ℕ) → Sound W F t p → Alive (at t s) → Sound W F (at t s) (p ++ s)
  sound_at (fatal n) p s h a = absurd (rw (at_fatal n s) at a)
  sound_at (ask f) p [] h a = rw append-nil h
  sound_at (ask f) p (b ∷ s) h a = rw (append_assoc p (b ∷ []) s) at (sound_at (f b) (p ++ b ∷ []) s (h.1 b) a)
  sound_at (final m f) p [] h a = rw append-nil h
  sound_at (final m f) p (b ∷ s) h a = rw (append_assoc p (b ∷ []) s) at (sound_at (f b) (p ++ b ∷ []) s (h.1 b) a)

  sound_next : (t : Tree M) (p : List ℕ) (b : ℕ) → Sound W F t p → Alive t → Sound W F (at t (b ∷ [])) (p ++ b ∷ [])
  sound_next (fatal n) p b h a = absurd a
  sound_next (ask f) p b h a = h.1 b
  sound_next (final m f) p b h a = h.1 b

  refuses : (t : Tree M) (p : List ℕ) (b n : ℕ) → Sound W F t (p ++ b ∷ []) → (Alive t → ⊥) → F p b n → t ≡ fatal n
  refuses (fatal m) p b n (q, c, e, begins, row) dead other =
      let (same, byte) = one_last p q b c e in
      ap fatal (one_row p b m n (rw (same, byte) row) other)
  refuses (ask f) p b n h dead row = absurd (dead tt)
  refuses (final m f) p b n h dead row = absurd (dead tt)

  pub fixes : (p : List ℕ) (b n : ℕ) → F p b n → Begins W p → (Begins W (p ++ b ∷ []) → ⊥) → at whole (p ++ b ∷ []) ≡ fatal n
  fixes p b n row begins ends =
      let alive : Alive (at whole p) = lives W F whole out p begins in
      let next : at whole (p ++ b ∷ []) ≡ at (at whole p) (b ∷ []) = at_append whole p (b ∷ []) in
      next ∙ refuses (at (at whole p) (b ∷ [])) p b n (sound_next (at whole p) p b (sound_at whole [] p sound alive) alive)
      (λ a. ends (alive_begins W F whole [] (p ++ b ∷ []) sound (rw next a))) row
