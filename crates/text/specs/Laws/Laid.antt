-- Bytes laid over the front of a buffer: in one run of stores, part after part, and a number's digits from the last one on.
use Rattle.std.specs.Prelude.{ℕ, suc, ◌+◌, ◌-◌, ◌/◌, ◌%◌, ◌^◌, ◌≤◌, ◌<◌, ◌≡◌, List, [], ◌∷◌, ◌++◌, length, take, drop, set}
use Rattle.std.proofs.Common.{sym, ap, ap₂, ◌∙◌, append_assoc, append-nil, pow-suc, arith, length-append, length-drop, take-append-drop, take_at}
use Rattle.std.proofs.Common.{drop_at, drop-drop, take-take, length-take-le}
use Rattle.std.proofs.Math.Nat.{div-div-eq-div-mul}
use Rattle.std.proofs.Math.Seq.{drop-length}
use Rattle.std.proofs.lemmas.List.{drop-append-le, take-append-le, set_split}
use Rattle.std.proofs.lemmas.List.Edits.{sets, sets-eq}
use Rattle.demand.specs.Laws.Cells.{tail_part}
use Rattle.text.specs.Bytes.{byte}
use Rattle.text.specs.Decimal.{digits}
use Rattle.text.specs.Buffer.{laid, laid_at}
use Rattle.text.specs.Laws.Decimal.{length_digits}

-- a buffer keeps its length
pub length_laid_at : (at : ℕ) (a s : List ℕ) → at + length a ≤ length s → length (laid_at at a s) ≡ length s
length_laid_at at a s h =
    let rest = drop at s in
    length-append (take at s) (laid a rest)
    ∙ rw (length-append a (drop (length a) rest), length-drop (length a) rest, length-drop at s, length-take-le at s (omega arith)) (omega arith)

-- a run of stores
pub laid_stores : (at : ℕ) (vs before : List ℕ) → at + length vs ≤ length before → sets before at vs ≡ laid_at at vs before
laid_stores at vs before h =
    sets-eq vs before at h
    ∙ append_assoc (take at before) vs (drop (at + length vs) before)
    ∙ ap (λ (t : List ℕ). take at before ++ (vs ++ t)) (sym (drop-drop (length vs) at before))

-- a part laid behind another: t holds the first, u both
pub laid_then : (at n : ℕ) (a b s : List ℕ) {t u : List ℕ} → at ≤ length s → length a ≡ n → t ≡ laid_at at a s → u ≡ laid_at (at + n) b t
    → u ≡ laid_at at (a ++ b) s
laid_then at n a b s {t} {u} h e f g =
    let front = take at s ++ a in
    let rest = drop (length a) (drop at s) in
    let long : length front ≡ at + n = length-append (take at s) a ∙ rw (length-take-le at s h, e) in
    let is : t ≡ front ++ rest = f ∙ sym (append_assoc (take at s) a rest) in
    let far : drop (length b) rest ≡ drop (length (a ++ b)) (drop at s) =
    drop-drop (length b) (length a) (drop at s) ∙ ap (λ (k : ℕ). drop k (drop at s)) (sym (length-append a b)) in
    g
    ∙ ap (laid_at (at + n) b) is
    ∙ ap₂ (λ (v w : List ℕ). v ++ laid b w) (take_at front rest (at + n) long) (drop_at front rest (at + n) long)
    ∙ ap (λ (w : List ℕ). front ++ (b ++ w)) far
    ∙ append_assoc (take at s) a (b ++ drop (length (a ++ b)) (drop at s))
    ∙ ap (take at s ++◌) (sym (append_assoc a b (drop (length (a ++ b)) (drop at s))))

-- bytes laid over the front of a part that reaches to the buffer's end
pub part_laid : (at : ℕ) (x here : List ℕ) {part : List ℕ} → part ≡ laid x (take (length here - at) (drop at here))
    → take at here ++ (part ++ drop (length here - at) (drop at here)) ≡ laid_at at x here
part_laid at x here {part} e =
    let all : length (drop at here) ≡ length here - at = length-drop at here in
    let rest : drop (length here - at) (drop at here) ≡ [] = ap (λ (k : ℕ). drop k (drop at here)) (sym all) ∙ drop-length (drop at here) in
    ap (λ (u : List ℕ). take at here ++ (part ++ u)) rest ∙ ap (take at here ++◌) (append-nil part ∙ e ∙ ap (laid x) (tail_part at here))

-- a front laid over the first bytes of a part: t holds the part, u the front and what of the part stands past it
pub laid_over : (at : ℕ) (a b s : List ℕ) {t u : List ℕ} → at ≤ length s → at ≤ length a → length a ≤ at + length b → t ≡ laid_at at b s
    → u ≡ laid a t → u ≡ laid (a ++ drop (length a - at) b) s
laid_over at a b s {t} h f g e d =
    let k = length a - at in
    let rest = drop (length b) (drop at s) in
    let front : at + k ≡ length a = omega arith in
    let past : drop (length a) t ≡ drop k b ++ rest =
    ap₂ drop (sym front) e
    ∙ sym (drop-drop k at (laid_at at b s))
    ∙ ap (drop k) (drop_at (take at s) (b ++ rest) at (length-take-le at s h))
    ∙ drop-append-le k b rest (omega arith) in
    let long : length (a ++ drop k b) ≡ at + length b = length-append a (drop k b) ∙ rw length-drop (omega arith) in
    d
    ∙ ap (a ++◌) (past ∙ ap (drop k b ++◌) (drop-drop (length b) at s ∙ ap (λ (n : ℕ). drop n s) (sym long)))
    ∙ sym (append_assoc a (drop k b) (drop (length (a ++ drop k b)) s))

-- a number of `count` digits at an index, with the first `left` of them still to write
pub record DigitsFrom (at count value : ℕ) (before here : List ℕ) (left rest : ℕ) : Type 0 where
  pub room : at + count ≤ length before
  pub done : ℕ
  pub all : left + done ≡ count
  pub is : here ≡ take (at + left) before ++ (digits done value ++ drop (at + count) before)
  pub over : rest ≡ value / 10 ^ done

pub digits_none : (at count value : ℕ) (before : List ℕ) → at + count ≤ length before → DigitsFrom at count value before before count value
digits_none at count value before h =
    record { room = h; done = 0; all = omega arith; is = sym (take-append-drop (at + count) before); over = omega arith }

module _ {at count value : ℕ} {before here : List ℕ} {left rest : ℕ} (d : DigitsFrom at count value before here left rest) where
  pub digits_length : length here ≡ length before
  digits_length =
      let front = take (at + left) before in
      let behind = drop (at + count) before in
      let long : length front ≡ at + left = length-take-le (at + left) before (omega (arith, d.all, d.room)) in
      ap length d.is
      ∙ length-append front (digits d.done value ++ behind)
      ∙ rw (length-append (digits d.done value) behind, length_digits d.done value, length-drop (at + count) before) (omega (arith, d.all))

  pub digits_all : left ≤ 0 → here ≡ laid_at at (digits count value) before
  digits_all none =
      let start : at + left ≡ at = omega arith in
      let whole : d.done ≡ count = omega (arith, d.all) in
      let far : drop (at + count) before ≡ drop (length (digits count value)) (drop at before) =
      ap (λ (n : ℕ). drop (at + n) before) (sym (length_digits count value)) ∙ sym (drop-drop (length (digits count value)) at before) in
      d.is
      ∙ ap₂ (λ (n k : ℕ). take n before ++ (digits k value ++ drop (at + count) before)) start whole
      ∙ ap (λ (u : List ℕ). take at before ++ (digits count value ++ u)) far

  pub digits_next : 0 < left → DigitsFrom at count value before (set here (at + (left - 1)) (byte "0" + rest % 10)) (left - 1) (rest / 10)
  digits_next some =
      let n = at + (left - 1) in
      let on : at + left ≡ suc n = omega arith in
      let front = take (suc n) before in
      let behind = digits d.done value ++ drop (at + count) before in
      let b = byte "0" + rest % 10 in
      let is : here ≡ front ++ behind = d.is ∙ ap (λ (k : ℕ). take k before ++ behind) on in
      let long : length front ≡ suc n = length-take-le (suc n) before (omega (arith, d.all, d.room)) in
      let fits : n < length (front ++ behind) = rw (length-append front behind) (omega arith) in
      let kept : take n (front ++ behind) ≡ take n before = take-append-le n front behind (omega arith) ∙ take-take n (suc n) before (omega arith) in
      let stored : set (front ++ behind) n b ≡ take n before ++ b ∷ behind =
      set_split (front ++ behind) n b fits ∙ ap₂ (λ (u v : List ℕ). u ++ b ∷ v) kept (drop_at front behind (suc n) long) in
      record {
        room = d.room;
        done = suc d.done;
        all = omega (arith, d.all);
        is = ap (λ (l : List ℕ). set l n b) is ∙ stored ∙ ap (λ (r : ℕ). take n before ++ (byte "0" + r % 10) ∷ behind) d.over;
        over = ap (◌/ 10) d.over ∙ div-div-eq-div-mul value (10 ^ d.done) 10 ∙ ap (value /◌) (sym (pow-suc 10 d.done));
      }
