-- A content of fixed length, byte by byte: each position has its set, and a rule for which bytes of the set go on to a lawful value.
use Rattle.std.specs.Prelude.{ℕ, zero, suc, ◌+◌, ◌-◌, ◌≤◌, ◌<◌, ◌≡◌, refl, Bool, true, false, cond, List, [], ◌∷◌, ◌++◌, map, ltb, length, get_or, take, drop}
use Rattle.std.specs.Prelude.{replicate}
use Rattle.std.proofs.Common.{sym, ap, ap₂, ◌∙◌, subst, append_assoc, append-nil, not-suc-le-zero, le_of_suc-le-suc, arith, lt-ltb, le-ltb, ltb-true, ltb-false}
use Rattle.std.proofs.Common.{drop_at, take-add, take-take, length-take-le}
use Rattle.std.proofs.Math.Path.{fun_ext}
use Rattle.std.proofs.lemmas.List.{get_or-replicate}
use Rattle.std.proofs.Math.ListN.{get_or-map}
use Rattle.std.proofs.Math.Seq.{drop-append_seam}
use Rattle.demand.specs.Each.{Each}
use Rattle.demand.specs.Numbers.{CHARACTER}
use Rattle.demand.specs.Demand.{Begins}
use Rattle.demand.specs.Laws.Tree.{Tree, fatal, ask, at, at_fatal, Alive, Sound, begins_front}

-- the position's set, whether a byte of it goes on after the bytes before it, and the number where it does not
pub record Position : Type 0 where
  pub set : ℕ → Bool
  pub rule : List ℕ → ℕ → Bool
  pub refusal : ℕ

-- a position whose whole set goes on
abbrev pub free : (ℕ → Bool) → ℕ → Position
free set n = record { set = set; rule = λ p b. true; refusal = n }

-- past the end of a content
abbrev pub nowhere : Position
nowhere = free (λ b. false) CHARACTER

-- a byte that may stand at a position after the bytes before it
pub record Fit (π : Position) (before : List ℕ) (b : ℕ) : Type 0 where
  pub inside : π.set b ≡ true
  pub lawful : π.rule before b ≡ true

pub data Fits : List Position → List ℕ → List ℕ → Type 0 where
  none : {p : List ℕ} → Fits [] p []
  more : {π : Position} {πs : List Position} {p : List ℕ} {b : ℕ} {c : List ℕ} → Fit π p b → Fits πs (p ++ b ∷ []) c
      → Fits (π ∷ πs) p (b ∷ c)

pub fits_length : {πs : List Position} {p c : List ℕ} → Fits πs p c → length c ≡ length πs
fits_length none = refl
fits_length (more f fs) = ap suc (fits_length fs)

-- each byte of a fitting content is in its position's set
pub fits_inside : {πs : List Position} {p c : List ℕ} (d : Position) → Fits πs p c → (i : ℕ) → i < length πs
    → (get_or πs i d).set (get_or c i 0) ≡ true
fits_inside d none i l = absurd (not-suc-le-zero l)
fits_inside d (more f fs) zero l = f.inside
fits_inside d (more f fs) (suc i) l = fits_inside d fs i (le_of_suc-le-suc l)

-- a content in two parts
pub fits_join : {πs ρs : List Position} {p c d : List ℕ} → Fits πs p c → Fits ρs (p ++ c) d → Fits (πs ++ ρs) p (c ++ d)
fits_join {p = p} none gs = rw append-nil at gs
fits_join (more {p = p} {b = b} {c = c} f fs) gs = more f (fits_join fs (rw (← append_assoc p (b ∷ []) c) at gs))

pub record Parts (πs ρs : List Position) (p c : List ℕ) : Type 0 where
  pub left : List ℕ
  pub right : List ℕ
  pub whole : c ≡ left ++ right
  pub left_fits : Fits πs p left
  pub right_fits : Fits ρs (p ++ left) right

pub fits_split : (πs : List Position) {ρs : List Position} {p c : List ℕ} → Fits (πs ++ ρs) p c → Parts πs ρs p c
fits_split [] {c = c} fs = record { left = []; right = c; whole = refl; left_fits = none; right_fits = rw append-nil fs }
fits_split (π ∷ πs) (more {p = p} {b = b} f fs) =
    let h = fits_split πs fs in
    record {
      left = b ∷ h.left;
      right = h.right;
      whole = ap (b ∷◌) h.whole;
      left_fits = more f h.left_fits;
      right_fits = rw append_assoc at h.right_fits;
    }

-- a position that looks past n bytes that stand before its content
abbrev pub shift : ℕ → Position → Position
shift n π = record { set = π.set; rule = λ p b. π.rule (drop n p) b; refusal = π.refusal }

module _ (q : List ℕ) where
  abbrev pub shifted : List Position → List Position
  shifted πs = map (shift (length q)) πs

  pub shift_out : {πs : List Position} {p c : List ℕ} → Fits πs p c → Fits (shifted πs) (q ++ p) c
  shift_out none = none
  shift_out (more {p = p} {b = b} f fs) =
      more record { inside = f.inside; lawful = rw (← drop-append_seam q p) at f.lawful } (rw (← append_assoc q p (b ∷ [])) at (shift_out fs))

  pub shift_in : (πs : List Position) {p c : List ℕ} → Fits (shifted πs) (q ++ p) c → Fits πs p c
  shift_in [] none = none
  shift_in (π ∷ πs) {p = p} (more {b = b} f fs) =
      more record { inside = f.inside; lawful = subst (λ (l : List ℕ). π.rule l b ≡ true) (drop-append_seam q p) f.lawful }
      (shift_in πs (rw append_assoc at fs))

-- positions that all have one number for what is unlawful
pub one_refusal : (n : ℕ) (πs : List Position) → map (λ (π : Position). π.refusal) πs ≡ replicate (length πs) n
    → (i : ℕ) → i < length πs → (get_or πs i nowhere).refusal ≡ n
one_refusal n πs e i l =
    sym (get_or-map (λ (π : Position). π.refusal) πs i nowhere)
    ∙ ap (λ (m : List ℕ). get_or m i CHARACTER) e
    ∙ get_or-replicate (length πs) i n CHARACTER l

-- positions of which n have one number and those behind them another
pub refusals_by : (n m a b : ℕ) (πs : List Position) → map (λ (π : Position). π.refusal) πs ≡ replicate n a ++ replicate m b
    → (i : ℕ) → i < n + m → (get_or πs i nowhere).refusal ≡ cond (ltb i n) a b
refusals_by n m a b πs e i l =
    sym (get_or-map (λ (π : Position). π.refusal) πs i nowhere) ∙ ap (λ (k : List ℕ). get_or k i CHARACTER) e ∙ sides n i l
  where
    onward : (n i : ℕ) (t : Bool) → ltb i n ≡ t → ltb i n ≡ ltb (suc i) (suc n)
    onward n i true e = let l = ltb-true i n e in e ∙ sym (lt-ltb (suc i) (suc n) (omega arith))
    onward n i false e = let l = ltb-false i n e in e ∙ sym (le-ltb (suc i) (suc n) (omega arith))

    sides : (n i : ℕ) → i < n + m → get_or (replicate n a ++ replicate m b) i CHARACTER ≡ cond (ltb i n) a b
    sides zero i l = rw (le-ltb i 0 (omega arith)) (get_or-replicate m i b CHARACTER (omega arith))
    sides (suc n) zero l = rw (lt-ltb 0 (suc n) (omega arith))
    sides (suc n) (suc i) l = sides n i (omega arith) ∙ ap (λ (t : Bool). cond t a b) (onward n i (ltb i n) refl)

-- the number of a byte at a position: 0 where it fits
abbrev pub verdict : Position → List ℕ → ℕ → ℕ
verdict π p b = cond (π.set b) (cond (π.rule p b) 0 π.refusal) CHARACTER

-- r is the number of the byte at i of a content, after the bytes before it
pub record Judges (πs : List Position) (c : List ℕ) (i r : ℕ) : Type 0 where
  pub is : r ≡ verdict (get_or πs i nowhere) (take i c) (get_or c i 0)

-- a byte's number by two tests that code makes
pub verdict_by : (n : ℕ) {m r : ℕ} {inside goes x y : Bool} → m ≡ cond x (cond y 0 n) CHARACTER → inside ≡ x → goes ≡ y
    → r ≡ cond inside (cond goes 0 n) CHARACTER → r ≡ m
verdict_by n e f g is = is ∙ ap₂ (λ (x y : Bool). cond x (cond y 0 n) CHARACTER) f g ∙ sym e

pub judges_by : (n : ℕ) {πs : List Position} {c : List ℕ} {i r : ℕ} {inside goes x y : Bool}
    → verdict (get_or πs i nowhere) (take i c) (get_or c i 0) ≡ cond x (cond y 0 n) CHARACTER → inside ≡ x → goes ≡ y
    → r ≡ cond inside (cond goes 0 n) CHARACTER → Judges πs c i r
judges_by n e f g is = record { is = verdict_by n e f g is }

pub judges_set : (n : ℕ) {πs : List Position} {c : List ℕ} {i r : ℕ} {inside x : Bool}
    → verdict (get_or πs i nowhere) (take i c) (get_or c i 0) ≡ cond x (cond true 0 n) CHARACTER → inside ≡ x
    → r ≡ cond inside (cond true 0 n) CHARACTER → Judges πs c i r
judges_set n e f is = judges_by n {goes = true} {y = true} e f refl is

-- what lies past the first n of some bytes
pub drop_take : (n j : ℕ) (l : List ℕ) → n ≤ length l → drop n (take (n + j) l) ≡ take j (drop n l)
drop_take n j l h = ap (drop n) (take-add n j l) ∙ drop_at (take n l) (take j (drop n l)) n (length-take-le n l h)

-- a part of some bytes' front is a part of the bytes
pub part_within : (l : List ℕ) (i n k : ℕ) → i + n ≤ k → i ≤ length l → take n (drop i (take k l)) ≡ take n (drop i l)
part_within l i n k h g =
    let is : k ≡ i + (k - i) = omega arith in
    ap (λ (m : ℕ). take n (drop i (take m l))) is ∙ ap (take n) (drop_take i (k - i) l g) ∙ take-take n (k - i) (drop i l) (omega arith)

-- a shifted position judges as the position does past the n bytes
pub shift_verdict : (n : ℕ) (πs : List Position) (c : List ℕ) (j b : ℕ) → n ≤ length c
    → verdict (get_or (map (shift n) πs) j nowhere) (take (n + j) c) b ≡ verdict (get_or πs j nowhere) (take j (drop n c)) b
shift_verdict n πs c j b h = rw (get_or-map (shift n) πs j nowhere, drop_take n j c h)

module _ {M : Type 0} where
  -- a byte's way on: refused outside the set, refused by the rule, or let through
  abbrev pub judged : Position → List ℕ → ℕ → Tree M → Tree M
  judged π p b t = cond (π.set b) (cond (π.rule p b) t (fatal π.refusal)) (fatal CHARACTER)

  -- the positions' bytes after p, and then what k says of them all
  abbrev pub content : List Position → List ℕ → (List ℕ → Tree M) → Tree M
  content [] p k = k p
  content (π ∷ πs) p k = ask (λ b. judged π p b (content πs (p ++ b ∷ []) k))

  pub judged_fit : {π : Position} {p : List ℕ} {b : ℕ} (t : Tree M) → Fit π p b → judged π p b t ≡ t
  judged_fit t f = rw (f.inside, f.lawful)

  -- fitting bytes lead to the rest of the content
  pub content_on : {πs : List Position} {p c : List ℕ} (ρs : List Position) (k : List ℕ → Tree M) (s : List ℕ)
      → Fits πs p c → at (content (πs ++ ρs) p k) (c ++ s) ≡ at (content ρs (p ++ c) k) s
  content_on {p = p} ρs k s none = rw append-nil
  content_on ρs k s (more {p = p} {b = b} {c = c} f fs) = rw (judged_fit _ f) (rw append_assoc at (content_on ρs k s fs))

  pub content_at : {πs : List Position} {p c : List ℕ} (k : List ℕ → Tree M) (s : List ℕ)
      → Fits πs p c → at (content πs p k) (c ++ s) ≡ at (k (p ++ c)) s
  content_at {πs} k s fs = rw (append-nil πs) at (content_on [] k s fs)

  -- a content that looks past the bytes q before it is the content without them
  pub content_shift : (q : List ℕ) (πs : List Position) (p : List ℕ) (k : List ℕ → Tree M)
      → content (map (shift (length q)) πs) (q ++ p) (λ c. k (drop (length q) c)) ≡ content πs p k
  content_shift q [] p k = ap k (drop-append_seam q p)
  content_shift q (π ∷ πs) p k =
      ap ask (fun_ext λ b.
      let on : content (map (shift (length q)) πs) ((q ++ p) ++ b ∷ []) (λ c. k (drop (length q) c)) ≡ content πs (p ++ b ∷ []) k =
      rw (append_assoc q p (b ∷ [])) (content_shift q πs (p ++ b ∷ []) k) in
      ap₂ (λ (l : List ℕ) (t : Tree M). judged π l b t) (drop-append_seam q p) on)

  -- bytes that lead into a content fit its first positions, and the next position judges the next byte
  pub record Inside (πs : List Position) (p c : List ℕ) (k : List ℕ → Tree M) : Type 0 where
    pub done : List Position
    pub here : Position
    pub rest : List Position
    pub split : πs ≡ done ++ here ∷ rest
    pub fits : Fits done p c
    pub node : at (content πs p k) c ≡ content (here ∷ rest) (p ++ c) k

  pub content_inside : (πs : List Position) (p c : List ℕ) (k : List ℕ → Tree M) → length c < length πs → Alive (at (content πs p k) c)
      → Inside πs p c k
  content_inside [] p c k h a = absurd (not-suc-le-zero h)
  content_inside (π ∷ πs) p [] k h a = record { done = []; here = π; rest = πs; split = refl; fits = none; node = rw append-nil }
  content_inside (π ∷ πs) p (b ∷ c) k h a = through (π.set b) (π.rule p b) refl refl a (content_inside πs (p ++ b ∷ []) c k (le_of_suc-le-suc h))
    where
      next : Tree M
      next = content πs (p ++ b ∷ []) k

      through : (x y : Bool) → π.set b ≡ x → π.rule p b ≡ y → Alive (at (cond x (cond y next (fatal π.refusal)) (fatal CHARACTER)) c)
          → (Alive (at next c) → Inside πs (p ++ b ∷ []) c k) → Inside (π ∷ πs) p (b ∷ c) k
      through false y e d a h = absurd (rw (at_fatal CHARACTER c) at a)
      through true false e d a h = absurd (rw (at_fatal π.refusal c) at a)
      through true true e d a h =
          let i = h a in
          let f : Fit π p b = record { inside = e; lawful = d } in
          record {
            done = π ∷ i.done;
            here = i.here;
            rest = i.rest;
            split = ap (π ∷◌) i.split;
            fits = more f i.fits;
            node = rw (judged_fit next f) (rw (append_assoc p (b ∷ []) c) at i.node);
          }

  -- a content is alive where what follows it is
  pub content_alive : (πs : List Position) (p : List ℕ) (k : List ℕ → Tree M) → ((c : List ℕ) → Alive (k c)) → Alive (content πs p k)
  content_alive [] p k h = h p
  content_alive (π ∷ πs) p k h = tt

-- whatever stands before it, some byte fits at the position: no fitting beginning is a dead end
abbrev pub Opens : Position → Type 0
Opens π = (p : List ℕ) → (b : ℕ) × Fit π p b

pub shift_opens : (n : ℕ) (π : Position) → Opens π → Opens (shift n π)
shift_opens n π o p = let (b, f) = o (drop n p) in (b, record { inside = f.inside; lawful = f.lawful })

pub free_fit : {set : ℕ → Bool} {n : ℕ} {p : List ℕ} {b : ℕ} → set b ≡ true → Fit (free set n) p b
free_fit e = record { inside = e; lawful = refl }

pub free_opens : (set : ℕ → Bool) (n b : ℕ) → set b ≡ true → Opens (free set n)
free_opens set n b e p = (b, free_fit e)

pub example : (πs : List Position) (p : List ℕ) → Each Opens πs → (c : List ℕ) × Fits πs p c
example [] p os = ([], none)
example (π ∷ πs) p (o, os) = let (b, f) = o p in let (c, fs) = example πs (p ++ b ∷ []) os in (b ∷ c, more f fs)

module _ {M : Type 0} (W : M → List ℕ → Type 0) (F : List ℕ → ℕ → ℕ → Type 0) where
  -- a tour of a node at which a message can go on or end
  abbrev pub Stands : Tree M → List ℕ → Type 0
  Stands t q = Begins W q × Sound W F t q

  -- the row of a byte that does not fit at π, where the content so far is c and the message so far q
  pub record Rows (π : Position) (c q : List ℕ) (b : ℕ) : Type 0 where
    pub outside : π.set b ≡ false → F q b CHARACTER
    pub unlawful : π.set b ≡ true → π.rule c b ≡ false → F q b π.refusal

  judged_sound : (π : Position) (p q : List ℕ) (b : ℕ) (t : Tree M) (x y : Bool) → π.set b ≡ x → π.rule p b ≡ y
      → Begins W q → Rows π p q b → (Fit π p b → Stands t (q ++ b ∷ []))
      → Sound W F (cond x (cond y t (fatal π.refusal)) (fatal CHARACTER)) (q ++ b ∷ [])
  judged_sound π p q b t false y e d begins rows on = (q, b, refl, begins, rows.outside e)
  judged_sound π p q b t true false e d begins rows on = (q, b, refl, begins, rows.unlawful e d)
  judged_sound π p q b t true true e d begins rows on = (on record { inside = e; lawful = d }).1

  pub content_sound : (πs : List Position) (p q : List ℕ) (k : List ℕ → Tree M) → Each Opens πs
      → ((c : List ℕ) → Fits πs p c → Stands (k (p ++ c)) (q ++ c))
      → ((ρs : List Position) (π : Position) (σs : List Position) (c : List ℕ) (b : ℕ) → πs ≡ ρs ++ π ∷ σs → Fits ρs p c
      → Rows π (p ++ c) (q ++ c) b)
      → Stands (content πs p k) q
  content_sound [] p q k os ends rows = simp append-nil at (ends [] none)
  content_sound (π ∷ πs) p q k (o, os) ends rows =
      let (e, fs) = example (π ∷ πs) p (o, os) in
      let begins : Begins W q = begins_front W q e (ends e fs).0 in
      let first : (b : ℕ) → Rows π p q b = λ b. simp append-nil at (rows [] π πs [] b refl none) in
      let on : (b : ℕ) → Fit π p b → Stands (content πs (p ++ b ∷ []) k) (q ++ b ∷ []) = λ b f.
      content_sound πs (p ++ b ∷ []) (q ++ b ∷ []) k os
      (λ c gs. rw (append_assoc p (b ∷ []) c, append_assoc q (b ∷ []) c) (ends (b ∷ c) (more f gs)))
      (λ ρs ρ σs c d e gs. rw (append_assoc p (b ∷ []) c, append_assoc q (b ∷ []) c)
      (rows (π ∷ ρs) ρ σs (b ∷ c) d (ap (π ∷◌) e) (more f gs)))
      in
      (begins, (begins, λ b. judged_sound π p q b _ (π.set b) (π.rule p b) refl refl begins (first b) (on b)))
