-- A language as a tree of bytes, and the one theorem behind demand 3: what a tour of the tree finds is the one right answer.
use Rattle.std.specs.Prelude.{ℕ, suc, pred, ◌+◌, ◌-◌, ◌≤◌, ◌<◌, ◌≡◌, refl, List, [], ◌∷◌, ◌++◌, length, take, drop}
use Rattle.std.proofs.Common.{sym, ap, ap₂, ◌∙◌, subst, append_assoc, append-nil, arith, length-append, lt_of_not-le, add-one, take_at}
use Rattle.std.proofs.Math.Seq.{take-append-add, take-append_seam, drop-append_seam, take-length}
use Rattle.demand.specs.Numbers.{SHORT}
use Rattle.demand.specs.Demand.{Answer, accepted, refused, Begins, Place, Reason, Refused, Right}

-- a node refuses, asks for a byte, or may end here and may go on (the first of a pair)
pub data Tree (M : Type 0) : Type 0 where
  fatal : (n : ℕ) → Tree M
  ask : (ℕ → Tree M) → Tree M
  final : M → (ℕ → Tree M) → Tree M

pub length_snoc : (p : List ℕ) (b : ℕ) → length (p ++ b ∷ []) ≡ suc (length p)
length_snoc p b = length-append p (b ∷ []) ∙ add-one (length p)

-- two ways to cut a string at one place are one
pub one_cut : (p p' q q' : List ℕ) → p ++ q ≡ p' ++ q' → length p ≡ length p' → (p ≡ p') × (q ≡ q')
one_cut p p' q q' e l =
    (sym (take-append_seam p q) ∙ ap₂ take l e ∙ take-append_seam p' q', sym (drop-append_seam p q) ∙ ap₂ drop l e ∙ drop-append_seam p' q')

module _ {M : Type 0} where
  -- the node that the bytes lead to; a refusal stays one
  abbrev pub at : Tree M → List ℕ → Tree M
  at t [] = t
  at (fatal n) (b ∷ s) = fatal n
  at (ask f) (b ∷ s) = at (f b) s
  at (final m f) (b ∷ s) = at (f b) s

  abbrev pub Ends : Tree M → M → Type 0
  Ends (fatal n) m = ⊥
  Ends (ask f) m = ⊥
  Ends (final n f) m = n ≡ m

  -- a node that refuses nothing yet
  abbrev pub Alive : Tree M → Type 0
  Alive (fatal n) = ⊥
  Alive (ask f) = Unit
  Alive (final m f) = Unit

  -- the answer at a node after k bytes
  abbrev pub walk : Tree M → List ℕ → ℕ → Answer M
  walk (fatal n) s k = refused n (pred k)
  walk (ask f) [] k = refused SHORT k
  walk (ask f) (b ∷ s) k = walk (f b) s (suc k)
  walk (final m f) [] k = accepted m k
  walk (final m f) (b ∷ s) k = walk (f b) s (suc k)

  abbrev pub run : Tree M → List ℕ → Answer M
  run t s = walk t s 0

  pub at_append : (t : Tree M) (p s : List ℕ) → at t (p ++ s) ≡ at (at t p) s
  at_append t [] s = refl
  at_append (fatal n) (b ∷ p) [] = refl
  at_append (fatal n) (b ∷ p) (c ∷ s) = refl
  at_append (ask f) (b ∷ p) s = at_append (f b) p s
  at_append (final m f) (b ∷ p) s = at_append (f b) p s

  pub at_fatal : (n : ℕ) (s : List ℕ) → at (fatal n) s ≡ fatal n
  at_fatal n [] = refl
  at_fatal n (b ∷ s) = refl

  pub alive_front : (t : Tree M) (p s : List ℕ) → Alive (at t (p ++ s)) → Alive (at t p)
  alive_front t [] s h = alive_root t s h
    where
      alive_root : (t : Tree M) (s : List ℕ) → Alive (at t s) → Alive t
      alive_root (fatal n) s h = rw (at_fatal n s) at h
      alive_root (ask f) s h = tt
      alive_root (final m f) s h = tt
  alive_front (fatal n) (b ∷ p) s h = h
  alive_front (ask f) (b ∷ p) s h = alive_front (f b) p s h
  alive_front (final m f) (b ∷ p) s h = alive_front (f b) p s h

  pub ends_once : (t : Tree M) {m n : M} → Ends t m → Ends t n → m ≡ n
  ends_once (fatal k) e d = absurd e
  ends_once (ask f) e d = absurd e
  ends_once (final k f) e d = sym e ∙ d

  pub ends_alive : (t : Tree M) (m : M) → Ends t m → Alive t
  ends_alive (fatal n) m e = e
  ends_alive (ask f) m e = tt
  ends_alive (final n f) m e = tt

module _ {M : Type 0} (W : M → List ℕ → Type 0) where
  pub begins_of : {m : M} {s : List ℕ} → W m s → Begins W s
  begins_of {m} {s} w = ([], (m, rw append-nil w))

  pub begins_front : (p q : List ℕ) → Begins W (p ++ q) → Begins W p
  begins_front p q (u, (m, w)) = (q ++ u, (m, rw append_assoc at w))

  module _ (F : List ℕ → ℕ → ℕ → Type 0) where
    -- a tour of a node that the bytes p lead to: what may end here is a writing, what asks begins one, what refuses has its row
    abbrev pub Sound : Tree M → List ℕ → Type 0
    Sound (fatal n) p = (q : List ℕ) × (b : ℕ) × (p ≡ q ++ b ∷ []) × Begins W q × F q b n
    Sound (ask f) p = Begins W p × ((b : ℕ) → Sound (f b) (p ++ b ∷ []))
    Sound (final m f) p = W m p × ((b : ℕ) → Sound (f b) (p ++ b ∷ []))

    -- in a sound tree, what leads to no refusal begins an acceptable message
    pub alive_begins : (t : Tree M) (p s : List ℕ) → Sound t p → Alive (at t s) → Begins W (p ++ s)
    alive_begins (fatal n) p s h a = absurd (rw (at_fatal n s) at a)
    alive_begins (ask f) p [] h a = rw append-nil h.0
    alive_begins (ask f) p (b ∷ s) h a = rw (append_assoc p (b ∷ []) s) at (alive_begins (f b) (p ++ b ∷ []) s (h.1 b) a)
    alive_begins (final m f) p [] h a = rw append-nil (begins_of h.0)
    alive_begins (final m f) p (b ∷ s) h a = rw (append_assoc p (b ∷ []) s) at (alive_begins (f b) (p ++ b ∷ []) s (h.1 b) a)

    module _ (whole : Tree M) (out : (m : M) (s : List ℕ) → W m s → Ends (at whole s) m) where
      -- a beginning of an acceptable message leads to no refusal
      pub lives : (p : List ℕ) → Begins W p → Alive (at whole p)
      lives p (u, (m, w)) = alive_front whole p u (ends_alive (at whole (p ++ u)) m (out m (p ++ u) w))

      dead : (p : List ℕ) (n : ℕ) → at whole p ≡ fatal n → Begins W p → ⊥
      dead p n e (u, (m, w)) = rw (at_append whole p u, e, at_fatal n u) at (out m (p ++ u) w)

      next_at : (t : Tree M) (p : List ℕ) (b : ℕ) → at whole p ≡ t → at whole (p ++ b ∷ []) ≡ at t (b ∷ [])
      next_at t p b e = at_append whole p (b ∷ []) ∙ ap (λ (u : Tree M). at u (b ∷ [])) e

      on : (p : List ℕ) (b : ℕ) (s : List ℕ) (t : Tree M)
          → Right W F ((p ++ b ∷ []) ++ s) (walk t s (length (p ++ b ∷ []))) → Right W F (p ++ b ∷ s) (walk t s (suc (length p)))
      on p b s t h = rw (append_assoc, length_snoc p b) at h

      module _ (q : List ℕ) (b : ℕ) (s : List ℕ) (n : ℕ) (e : at whole (q ++ b ∷ []) ≡ fatal n) (begins : Begins W q) (row : F q b n) where
        past : (j : ℕ) → length q < j → Begins W (take j (q ++ b ∷ s)) → ⊥
        past j h v =
            let i = j - length (q ++ b ∷ []) in
            let is : j ≡ length (q ++ b ∷ []) + i = omega (arith, length_snoc q b) in
            let cut : take j ((q ++ b ∷ []) ++ s) ≡ (q ++ b ∷ []) ++ take i s = ap (λ (k : ℕ). take k ((q ++ b ∷ []) ++ s)) is
            ∙ take-append-add (q ++ b ∷ []) s i in
            dead (q ++ b ∷ []) n e (begins_front (q ++ b ∷ []) (take i s) (rw (← cut, append_assoc q (b ∷ []) s) v))

        fatal_place : Place W (q ++ b ∷ s) (length q)
        fatal_place =
            record {
              within = simp length-append (omega arith);
              begins = rw take-append_seam begins;
              longest = λ j h v. let l : j < suc (length q) = lt_of_not-le (λ l. past j l v) in omega arith;
            }

        fatal_right : Refused W F (q ++ b ∷ s) n (length q)
        fatal_right = record {
          not_acceptable = λ a. past (length (q ++ b ∷ s)) (simp length-append (omega arith)) (rw take-length (begins_of a.1));
          place = fatal_place;
          reason = Reason.fatal q b s refl refl row;
        }

      right_at : (t : Tree M) (p s : List ℕ) → at whole p ≡ t → Sound t p → Right W F (p ++ s) (walk t s (length p))
      right_at (fatal n) p s e (q, b, is, begins, row) = rw (is, append_assoc, length_snoc q b) (fatal_right q b s n (rw is at e) begins row)
      right_at (ask f) p [] e (begins, next) =
          rw append-nil record {
            not_acceptable = λ a. subst (λ (t : Tree M). Ends t a.0) e (out a.0 p a.1);
            place = record { within = omega arith; begins = rw take-length begins; longest = λ j h v. h };
            reason = Reason.short refl refl;
          }
      right_at (ask f) p (b ∷ s) e (begins, next) = on p b s (f b) (right_at (f b) (p ++ b ∷ []) s (next_at (ask f) p b e) (next b))
      right_at (final m f) p [] e (w, next) = rw append-nil (w, refl)
      right_at (final m f) p (b ∷ s) e (w, next) = on p b s (f b) (right_at (f b) (p ++ b ∷ []) s (next_at (final m f) p b e) (next b))

      -- every byte string has a right answer: the one that the tree gives
      pub run_right : Sound whole [] → (s : List ℕ) → Right W F s (run whole s)
      run_right sound s = right_at whole [] s refl sound

      -- a byte string has at most one reading
      pub one_reading : {m n : M} {s : List ℕ} → W m s → W n s → m ≡ n
      one_reading {m} {n} {s} v w = ends_once (at whole s) (out m s v) (out n s w)

      one_place : (s : List ℕ) (j k : ℕ) → Place W s j → Place W s k → j ≡ k
      one_place s j k p q = let l = p.longest k q.within q.begins in let g = q.longest j p.within p.begins in omega arith

      not_both : (s : List ℕ) (k : ℕ) (p : List ℕ) (b : ℕ) (r : List ℕ) → k ≡ length s → s ≡ p ++ b ∷ r → k ≡ length p → ⊥
      not_both s k p b r e d f = let l : length s ≡ length p + suc (length r) = ap length d ∙ length-append p (b ∷ r) in omega arith

      module _
          (tells : (p : List ℕ) (b n : ℕ) → F p b n → Begins W p → (Begins W (p ++ b ∷ []) → ⊥) → at whole (p ++ b ∷ []) ≡ fatal n) where
        told_at : (p : List ℕ) (b : ℕ) (r : List ℕ) (n : ℕ) → F p b n → Place W (p ++ b ∷ r) (length p) → at whole (p ++ b ∷ []) ≡ fatal n
        told_at p b r n row place =
            let cut : take (suc (length p)) (p ++ b ∷ r) ≡ p ++ b
            ∷ [] = rw (← append_assoc p (b ∷ []) r) (take_at (p ++ b ∷ []) r (suc (length p)) (length_snoc p b)) in
            let fits : suc (length p) ≤ length (p ++ b ∷ r) = simp length-append (omega arith) in
            tells p b n row (rw take-append_seam at place.begins) (λ v. let l = place.longest (suc (length p)) fits (rw cut v) in omega arith)

        one_number : (s : List ℕ) (k m n : ℕ) → Place W s k → Reason W F s k m → Reason W F s k n → m ≡ n
        one_number s k m n place (Reason.short e d) (Reason.short f g) = d ∙ sym g
        one_number s k m n place (Reason.short e d) (Reason.fatal q c u g i row) = absurd (not_both s k q c u e g i)
        one_number s k m n place (Reason.fatal p b r e h row) (Reason.short f g) = absurd (not_both s k p b r f e h)
        one_number s k m n place (Reason.fatal p b r e h row) (Reason.fatal q c u g i row') =
            let (same, rest) = one_cut p q (b ∷ r) (c ∷ u) (sym e ∙ g) (sym h ∙ i) in
            let byte : b ≡ c = cc in
            let here : at whole (p ++ b ∷ []) ≡ fatal m = told_at p b r m row (rw (e, h) at place) in
            let there : at whole (q ++ c ∷ []) ≡ fatal n = told_at q c u n row' (rw (g, i) at place) in
            cc

        -- the language and the table alone fix the answer: value, number and place
        pub one_answer : (s : List ℕ) (a b : Answer M) → Right W F s a → Right W F s b → a ≡ b
        one_answer s (accepted m j) (accepted n k) x y = ap₂ accepted (one_reading x.0 y.0) (x.1 ∙ sym y.1)
        one_answer s (accepted m j) (refused n k) x y = absurd (y.not_acceptable (m, x.0))
        one_answer s (refused m j) (accepted n k) x y = absurd (x.not_acceptable (n, y.0))
        one_answer s (refused m j) (refused n k) x y =
            let same : j ≡ k = one_place s j k x.place y.place in
            ap₂ refused (one_number s k m n y.place (rw same at x.reason) y.reason) same
