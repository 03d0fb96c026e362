-- What scanning a content finds, and what the tree of the content then says, whatever follows.
use Rattle.std.specs.Prelude.{ℕ, suc, ◌+◌, ◌-◌, ◌≤◌, ◌<◌, ◌≡◌, refl, Bool, true, false, cond, List, [], ◌∷◌, ◌++◌, length, get_or, take, drop, Result, Ok, Err}
use Rattle.std.proofs.Common.{sym, ap, ap₂, ◌∙◌, append_assoc, append-nil, zero-add, add-suc, suc-add, add-one, arith, take-append-drop, length-drop, take_all}
use Rattle.std.proofs.Common.{take-add, take-suc, drop-cons, length-take-le, get_or-drop}
use Rattle.std.proofs.Math.Seq.{take-length, split_at}
use Rattle.demand.specs.Demand.{refused}
use Rattle.demand.specs.Numbers.{SHORT, CHARACTER}
use Rattle.demand.specs.declared.Stop.{Stop}
use Rattle.demand.specs.Numbered.{number_of}
use Rattle.demand.specs.Laws.Tree.{Tree, fatal, walk}
use Rattle.demand.specs.Laws.Content.{Position, Fit, Fits, none, more, nowhere, verdict, content, judged, judged_fit, fits_join}

-- s begins with the identifier's second byte, and the content follows it: it is whole
pub record Whole (πs : List Position) (s : List ℕ) : Type 0 where
  pub long : length πs < length s
  pub fits : Fits πs (take 1 s) (take (length πs) (drop 1 s))

-- it ends too early
pub record Early (πs : List Position) (s : List ℕ) : Type 0 where
  pub some : 0 < length s
  pub short : length s ≤ length πs
  pub fits : Fits (take (length s - 1) πs) (take 1 s) (drop 1 s)

-- its byte at i does not fit, with the number n
pub record Unfitting (πs : List Position) (s : List ℕ) (n i : ℕ) : Type 0 where
  pub within : i < length πs
  pub inside : i + 1 < length s
  pub fits : Fits (take i πs) (take 1 s) (take i (drop 1 s))
  pub number : verdict (get_or πs i nowhere) (take (i + 1) s) (get_or s (i + 1) 0) ≡ n
  pub refused : n ≡ 0 → ⊥

-- what a scan tells of it
abbrev pub Scanned : List Position → List ℕ → Result (Unit {0}) Stop → Type 0
Scanned πs s (Ok _) = Whole πs s
Scanned πs s (Err Stop.Short) = Early πs s
Scanned πs s (Err (Stop.Refused r i)) = Unfitting πs s (number_of r) i

module _ {M : Type 0} where
  -- fitting bytes lead to the rest of the content
  pub walk_on : {πs : List Position} {p c : List ℕ} (ρs : List Position) (k : List ℕ → Tree M) (s : List ℕ) (j : ℕ)
      → Fits πs p c → walk (content (πs ++ ρs) p k) (c ++ s) j ≡ walk (content ρs (p ++ c) k) s (length c + j)
  walk_on {p = p} ρs k s j none = ap₂ (λ (q : List ℕ) (i : ℕ). walk (content ρs q k) s i) (sym (append-nil p)) (sym (zero-add j))
  walk_on ρs k s j (more {πs = πs} {p = p} {b = b} {c = c} f fs) =
      ap (λ (t : Tree M). walk t (c ++ s) (suc j)) (judged_fit (content (πs ++ ρs) (p ++ b ∷ []) k) f)
      ∙ walk_on ρs k s (suc j) fs
      ∙ ap₂ (λ (q : List ℕ) (i : ℕ). walk (content ρs q k) s i) (append_assoc p (b ∷ []) c) (add-suc (length c) j ∙ sym (suc-add (length c) j))

  -- a byte with a number is refused with it
  judged_unfit : (π : Position) (p : List ℕ) (d n : ℕ) (t : Tree M) → verdict π p d ≡ n → (n ≡ 0 → ⊥) → judged π p d t ≡ fatal n
  judged_unfit π p d n t v z = by (π.set d) (π.rule p d) v
    where
      by : (x y : Bool) → cond x (cond y 0 π.refusal) CHARACTER ≡ n → cond x (cond y t (fatal π.refusal)) (fatal CHARACTER) ≡ fatal n
      by false y e = ap fatal e
      by true false e = ap fatal e
      by true true e = absurd (z (sym e))

  -- a whole content: on to what follows it
  pub whole_walk : (πs : List Position) (b : ℕ) (c : List ℕ) (k : List ℕ → Tree M) (j : ℕ) → Whole πs (b ∷ c)
      → walk (content πs (b ∷ []) k) c j ≡ walk (k (b ∷ take (length πs) c)) (drop (length πs) c) (length πs + j)
  whole_walk πs b c k j w =
      let n = length πs in
      ap₂ (λ (ρs : List Position) (s : List ℕ). walk (content ρs (b ∷ []) k) s j) (sym (append-nil πs)) (sym (take-append-drop n c))
      ∙ walk_on [] k (drop n c) j w.fits
      ∙ ap (λ (i : ℕ). walk (k (b ∷ take n c)) (drop n c) (i + j)) (length-take-le n c (omega (arith, w.long)))

  -- bytes that end within the content
  pub short_walk : (πs : List Position) (b : ℕ) (c : List ℕ) (k : List ℕ → Tree M) (j : ℕ) → Early πs (b ∷ c)
      → walk (content πs (b ∷ []) k) c j ≡ refused SHORT (length c + j)
  short_walk πs b c k j w =
      let m = length (b ∷ c) - 1 in
      let is : m ≡ length c = omega arith in
      let rest : drop m πs ≡ get_or πs m nowhere ∷ drop (suc m) πs = drop-cons πs m nowhere (omega (arith, w.short)) in
      ap₂ (λ (ρs : List Position) (s : List ℕ). walk (content ρs (b ∷ []) k) s j) (sym (take-append-drop m πs)) (sym (append-nil c))
      ∙ walk_on (drop m πs) k [] j w.fits
      ∙ ap (λ (ρs : List Position). walk (content ρs (b ∷ c) k) [] (length c + j)) rest

  -- a byte that does not fit
  pub unfit_walk : (πs : List Position) (b : ℕ) (c : List ℕ) (k : List ℕ → Tree M) (j n i : ℕ) → Unfitting πs (b ∷ c) n i
      → walk (content πs (b ∷ []) k) c j ≡ refused n (i + j)
  unfit_walk πs b c k j n i w =
      let π = get_or πs i nowhere in
      let d = get_or c i 0 in
      let here : verdict π (b ∷ take i c) d ≡ n = rw (add-one i) at w.number in
      let next = content (drop (suc i) πs) ((b ∷ take i c) ++ d ∷ []) k in
      ap₂ (λ (ρs : List Position) (s : List ℕ). walk (content ρs (b ∷ []) k) s j) (split_at πs i nowhere w.within)
      (split_at c i 0 (omega (arith, w.inside)))
      ∙ walk_on (π ∷ drop (suc i) πs) k (d ∷ drop (suc i) c) j w.fits
      ∙ ap (λ (t : Tree M). walk t (drop (suc i) c) (suc (length (take i c) + j))) (judged_unfit π (b ∷ take i c) d n next here w.refused)
      ∙ ap (λ (m : ℕ). refused n (m + j)) (length-take-le i c (omega (arith, w.inside)))

-- a byte without a number fits
fit_of : (π : Position) (p : List ℕ) (d : ℕ) → (π.refusal ≡ 0 → ⊥) → verdict π p d ≡ 0 → Fit π p d
fit_of π p d h v = by (π.set d) (π.rule p d) refl refl v
  where
    by : (x y : Bool) → π.set d ≡ x → π.rule p d ≡ y → cond x (cond y 0 π.refusal) CHARACTER ≡ 0 → Fit π p d
    by false y e f z = absurd (omega arith)
    by true false e f z = absurd (h z)
    by true true e f z = record { inside = e; lawful = f }

-- the scan of a content after i of its bytes
pub record Walked (πs : List Position) (s : List ℕ) (end i : ℕ) : Type 0 where
  pub whole : end ≡ length πs
  pub passed : i ≤ end
  pub inside : i < length s
  pub fits : Fits (take i πs) (take 1 s) (take i (drop 1 s))

-- a byte's number, as the scanner finds it
pub record JudgesBody (πs : List Position) (s : List ℕ) (i r : ℕ) : Type 0 where
  pub is : r ≡ verdict (get_or πs i nowhere) (take (i + 1) s) (get_or s (i + 1) 0)

-- what the judge of a byte may rely on
pub record Judging (πs : List Position) (s : List ℕ) (i : ℕ) : Type 0 where
  pub inside : i + 1 < length s
  pub within : i < length πs
  pub fits : Fits (take i πs) (take 1 s) (take i (drop 1 s))

module _ {πs : List Position} {s : List ℕ} {end i : ℕ} (w : Walked πs s end i) where
  pub walked_whole : end ≤ i → Whole πs s
  walked_whole l =
      let is : i ≡ length πs = omega (arith, w.whole, w.passed) in
      record { long = omega (arith, w.inside); fits = rw (is, take-length πs) at w.fits }

  pub walked_early : i < end → length s - 1 ≤ i → Early πs s
  walked_early l h =
      let is : i ≡ length s - 1 = omega (arith, w.inside) in
      let rest : take i (drop 1 s) ≡ drop 1 s = take_all i (drop 1 s) (simp length-drop (omega arith)) in
      record { some = omega (arith, w.inside); short = omega (arith, w.whole, w.inside); fits = rw is at (rw rest at w.fits) }

  pub walked_judging : i < end → i < length s - 1 → Judging πs s i
  walked_judging l h = record { inside = omega arith; within = omega (arith, w.whole); fits = w.fits }

  pub walked_unfit : {n : ℕ} → i < end → i < length s - 1 → JudgesBody πs s i n → (n ≡ 0 → ⊥) → Unfitting πs s n i
  walked_unfit l h v z = record { within = omega (arith, w.whole); inside = omega (arith, w.inside); fits = w.fits; number = sym v.is; refused = z }

  pub walked_on : {n : ℕ} → ((get_or πs i nowhere).refusal ≡ 0 → ⊥) → i < end → i < length s - 1 → JudgesBody πs s i n → n ≡ 0
      → Walked πs s end (i + 1)
  walked_on r l h v z =
      let π = get_or πs i nowhere in
      let d = get_or (drop 1 s) i 0 in
      let one : i + 1 ≡ 1 + i = omega arith in
      let before : take (i + 1) s ≡ take 1 s ++ take i (drop 1 s) = ap (λ (m : ℕ). take m s) one ∙ take-add 1 i s in
      let byte : get_or s (i + 1) 0 ≡ d = ap (λ (m : ℕ). get_or s m 0) one ∙ sym (get_or-drop 1 s i 0) in
      let f : Fit π (take 1 s ++ take i (drop 1 s)) d = fit_of π _ d r (rw (before, byte) at (sym v.is ∙ z)) in
      let next : Fits (take i πs ++ π ∷ []) (take 1 s) (take i (drop 1 s) ++ d ∷ []) = fits_join w.fits (more f none) in
      let πs-on : take (i + 1) πs ≡ take i πs ++ π ∷ [] = rw (add-one i) (take-suc πs i nowhere (omega (arith, w.whole))) in
      let long : i < length (drop 1 s) = simp length-drop h in
      let s-on : take (i + 1) (drop 1 s) ≡ take i (drop 1 s) ++ d ∷ [] = rw (add-one i) (take-suc (drop 1 s) i 0 long) in
      record { whole = w.whole; passed = omega arith; inside = omega (arith, w.inside); fits = rw (πs-on, s-on) next }
