-- Lines and the bytes between them: bytes without LF, an LF, one input after another, and what only the first 512 bytes decide.
use Rattle.std.specs.Prelude.{ℕ, zero, suc, ◌+◌, ◌≤◌, ◌<◌, ◌≡◌, refl, Bool, true, false, ◌||◌, List, [], ◌∷◌, ◌++◌, map, eqb, length, get_or, take}
use Rattle.std.proofs.Common.{suc-le-suc, sym, ap, ◌∙◌, true≢false, ⊎_elim, append_assoc, append-nil, zero-lt-suc, arith, ne_eqb}
use Rattle.std.proofs.lemmas.Bool.{eqb-false}
use Rattle.text.specs.Laws.Choice.{by_less}
use Rattle.lines.specs.Lines.{JUDGED, LF, ended_from, left_from, last_line, judged}

-- no LF from a place up to another, both within the bytes
pub record Passed (s : List ℕ) (start end : ℕ) : Type 0 where
  pub ordered : start ≤ end
  pub inside : end ≤ length s
  pub clear : (k : ℕ) → k < end → start ≤ k → get_or s k 0 ≡ LF → ⊥

-- and an LF there, unless the bytes end
pub record Found (s : List ℕ) (start end : ℕ) : Type 0 where
  pub passed : Passed s start end
  pub found : end < length s → get_or s end 0 ≡ LF

pub passed_none : {s : List ℕ} {start : ℕ} → start ≤ length s → Passed s start start
passed_none h = record { ordered = omega arith; inside = h; clear = λ k l g e. absurd (omega arith) }

pub passed_join : {s : List ℕ} {start at end : ℕ} → Passed s start at → Passed s at end → Passed s start end
passed_join {at = at} x y =
    record {
      ordered = omega arith;
      inside = y.inside;
      clear = λ k l g e. ⊎_elim (λ z. x.clear k z.0 g e) (λ z. y.clear k l z.0 e) (by_less k k k at);
    }

pub passed_one : {s : List ℕ} {at end : ℕ} → end ≡ at + 1 → at < length s → (get_or s at 0 ≡ LF → ⊥) → Passed s at end
passed_one {at = at} e h f =
    record { ordered = omega arith; inside = omega arith; clear = λ k l g is. f (let same : k ≡ at = omega arith in rw same at is) }

-- one byte more that was tested
passed_more : {s : List ℕ} {i : ℕ} (k : ℕ) {t : Bool} → i + k < length s → (t ≡ false → Passed s i (i + k))
    → (t || eqb (get_or s (i + k) 0) LF) ≡ false → Passed s i (i + suc k)
passed_more {s} {i} k {t = false} h x f = passed_join (x refl) (passed_one (omega arith) h (eqb-false (get_or s (i + k) 0) LF f))
passed_more k {t = true} h x f = absurd (true≢false f)

pub passed_eight : {s : List ℕ} {i : ℕ} → i + 8 ≤ length s
    → (eqb (get_or s i 0) LF || eqb (get_or s (i + 1) 0) LF || eqb (get_or s (i + 2) 0) LF || eqb (get_or s (i + 3) 0) LF || eqb (get_or s (i + 4) 0) LF
    || eqb (get_or s (i + 5) 0) LF || eqb (get_or s (i + 6) 0) LF || eqb (get_or s (i + 7) 0) LF) ≡ false
    → Passed s i (i + 8)
passed_eight {s} {i} h =
    passed_more 7 (omega arith) (passed_more 6 (omega arith) (passed_more 5 (omega arith) (passed_more 4 (omega arith)
    (passed_more 3 (omega arith) (passed_more 2 (omega arith) (passed_more 1 (omega arith)
    (λ f. passed_one refl (omega arith) (eqb-false (get_or s i 0) LF f))))))))

-- bytes with no LF among them
abbrev pub NoLF : List ℕ → Type 0
NoLF s = (k : ℕ) → k < length s → get_or s k 0 ≡ LF → ⊥

-- they only make the begun line longer, for all that goes on so at each of them
abbrev pub Longer : {A : Type 0} → (List ℕ → List ℕ → A) → Type 0
Longer f = (u s : List ℕ) (b : ℕ) → (b ≡ LF → ⊥) → f u (b ∷ s) ≡ f (u ++ b ∷ []) s

pub over : {A : Type 0} (f : List ℕ → List ℕ → A) → Longer f → (begun body rest : List ℕ) → NoLF body
    → f begun (body ++ rest) ≡ f (begun ++ body) rest
over f on begun [] rest h = rw (append-nil begun)
over f on begun (b ∷ body) rest h =
    on begun (body ++ rest) b (h 0 (zero-lt-suc (length body)))
    ∙ over f on (begun ++ b ∷ []) body rest (λ k l. h (suc k) (suc-le-suc l))
    ∙ rw (append_assoc begun (b ∷ []) body)

pub ended_longer : Longer ended_from
ended_longer u s b h = rw (ne_eqb b LF h)

pub left_longer : Longer left_from
left_longer u s b h = rw (ne_eqb b LF h)

-- whichever way a test goes
each_way : {P : Type 0} (t : Bool) → (t ≡ true → P) → (t ≡ false → P) → P
each_way true p q = p refl
each_way false p q = q refl

-- one input after another
pub ended_append : (begun s t : List ℕ) → ended_from begun (s ++ t) ≡ ended_from begun s ++ ended_from (left_from begun s) t
ended_append begun [] t = refl
ended_append begun (b ∷ s) t =
    each_way (eqb b LF) (λ e. rw e (ap (begun ∷◌) (ended_append [] s t))) (λ e. rw e (ended_append (begun ++ b ∷ []) s t))

pub left_append : (begun s t : List ℕ) → left_from begun (s ++ t) ≡ left_from (left_from begun s) t
left_append begun [] t = refl
left_append begun (b ∷ s) t = each_way (eqb b LF) (λ e. rw e (left_append [] s t)) (λ e. rw e (left_append (begun ++ b ∷ []) s t))

-- only the first n bytes of a beginning decide the first n of the whole
take_front : (n : ℕ) (u x : List ℕ) → take n (u ++ x) ≡ take n (take n u ++ x)
take_front zero u x = refl
take_front (suc n) [] x = refl
take_front (suc n) (a ∷ u) x = ap (a ∷◌) (take_front n u x)

pub judged_on : (u v x : List ℕ) → judged u ≡ judged v → judged (u ++ x) ≡ judged (v ++ x)
judged_on u v x e = take_front JUDGED u x ∙ ap (λ (w : List ℕ). take JUDGED (w ++ x)) e ∙ sym (take_front JUDGED v x)

-- two begun lines that are judged alike leave the same to judge
pub ended_alike : (u v s : List ℕ) → judged u ≡ judged v → map judged (ended_from u s) ≡ map judged (ended_from v s)
ended_alike u v [] e = refl
ended_alike u v (b ∷ s) e =
    each_way (eqb b LF)
    (λ t. rw t (ap (◌∷ map judged (ended_from [] s)) e))
    (λ t. rw t (ended_alike (u ++ b ∷ []) (v ++ b ∷ []) s (judged_on u v (b ∷ []) e)))

pub left_alike : (u v s : List ℕ) → judged u ≡ judged v → judged (left_from u s) ≡ judged (left_from v s)
left_alike u v [] e = e
left_alike u v (b ∷ s) e = each_way (eqb b LF) (λ t. rw t refl) (λ t. rw t (left_alike (u ++ b ∷ []) (v ++ b ∷ []) s (judged_on u v (b ∷ []) e)))

-- and the same last line
pub last_line_alike : (u v : List ℕ) → judged u ≡ judged v → map judged (last_line u) ≡ map judged (last_line v)
last_line_alike [] [] e = refl
last_line_alike [] (b ∷ v) e = let z : ◌≡◌ {A = ℕ} 0 1 = cc in absurd (omega arith)
last_line_alike (a ∷ u) [] e = let z : ◌≡◌ {A = ℕ} 0 1 = cc in absurd (omega arith)
last_line_alike (a ∷ u) (b ∷ v) e = ap (◌∷ []) e

-- no more lines end than there are bytes
pub ended_few : (begun s : List ℕ) → length (ended_from begun s) ≤ length s
ended_few begun [] = omega arith
ended_few begun (b ∷ s) =
    each_way (eqb b LF) (λ e. rw e (omega (arith, ended_few [] s))) (λ e. rw e (omega (arith, ended_few (begun ++ b ∷ []) s)))

-- a last line that is not empty
pub last_one : (s : List ℕ) → 0 < length s → last_line s ≡ s ∷ []
last_one [] h = absurd (omega arith)
last_one (b ∷ s) h = refl
