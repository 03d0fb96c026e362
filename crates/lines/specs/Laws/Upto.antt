-- One line after the other, whatever is written for each.
use Rattle.std.specs.Prelude.{ℕ, suc, ◌+◌, ◌≡◌, refl, List, [], ◌∷◌, ◌++◌, length}
use Rattle.std.proofs.Common.{ap, ap₂, ◌∙◌, append_assoc, append-nil, arith, length-append}
use Rattle.lines.specs.Lines.{LF, ended_from, left_from, last_line, lines, judged}
use Rattle.lines.specs.Texts.{Texts, no_line, line_then}
use Rattle.lines.specs.Laws.Lines.{NoLF, over, ended_longer, left_longer, ended_append, left_append, judged_on}

-- only what is judged of a line decides what is written for it
abbrev pub Judging : (Line : ℕ → List ℕ → List ℕ → Type 0) → Type 0
Judging Line = (n : ℕ) (u v text : List ℕ) → judged u ≡ judged v → Line n u text → Line n v text

-- the bytes of an input up to a place: text is that of the lines that ended, the next line has this number, and begun is what is kept of it
pub record Upto (Line : ℕ → List ℕ → List ℕ → Type 0) (passed text : List ℕ) (number : ℕ) (begun : List ℕ) : Type 0 where
  pub texts : Texts Line 1 (ended_from [] passed) text
  pub counted : number ≡ 1 + length (ended_from [] passed)
  pub left : judged begun ≡ judged (left_from [] passed)

-- bytes without LF end no line, and make the begun one longer
ended_none : (begun body : List ℕ) → NoLF body → ended_from begun body ≡ []
ended_none begun body h = rw (append-nil body) at (over ended_from ended_longer begun body [] h)

left_all : (begun body : List ℕ) → NoLF body → left_from begun body ≡ begun ++ body
left_all begun body h = rw (append-nil body) at (over left_from left_longer begun body [] h)

module _ {Line : ℕ → List ℕ → List ℕ → Type 0} where
  pub texts_append : {n : ℕ} {ls ms : List (List ℕ)} {a b : List ℕ} → Texts Line n ls a → Texts Line (n + length ls) ms b
      → Texts Line n (ls ++ ms) (a ++ b)
  texts_append {n} no_line y = let none : n + 0 ≡ n = omega arith in rw none at y
  texts_append {n} {b = b} (line_then {here = here} {rest = rest} {ls = ls} x xs) y =
      let on : n + suc (length ls) ≡ n + 1 + length ls = omega arith in
      rw (append_assoc here rest b) (line_then x (texts_append xs (rw on at y)))

  pub texts_one : {n : ℕ} {line text : List ℕ} → Line n line text → Texts Line n (line ∷ []) text
  texts_one {n} {line} {text} x = let one : Texts Line n (line ∷ []) (text ++ []) = line_then x no_line in rw (append-nil text) at one

  -- one text for any lines, where there is one for any line
  pub one_texts : ((n : ℕ) (line a b : List ℕ) → Line n line a → Line n line b → a ≡ b) → {n : ℕ} {ls : List (List ℕ)} {a b : List ℕ}
      → Texts Line n ls a → Texts Line n ls b → a ≡ b
  one_texts one no_line no_line = refl
  one_texts one {n} (line_then {line = line} {here = here} x xs) (line_then {here = here'} y ys) = ap₂ ◌++◌ (one n line here here' x y)
      (one_texts one xs ys)

  pub some_texts : ((n : ℕ) (line : List ℕ) → (text : List ℕ) × Line n line text) → (n : ℕ) (ls : List (List ℕ))
      → (text : List ℕ) × Texts Line n ls text
  some_texts some n [] = ([], no_line)
  some_texts some n (line ∷ ls) =
      let (here, x) = some n line in
      let (rest, xs) = some_texts some (n + 1) ls in
      (here ++ rest, line_then x xs)

  last_alike : Judging Line → {n : ℕ} (u v : List ℕ) {text : List ℕ} → judged u ≡ judged v → Texts Line n (last_line u) text
      → Texts Line n (last_line v) text
  last_alike alike [] [] e x = x
  last_alike alike [] (b ∷ v) e x = let z : ◌≡◌ {A = ℕ} 0 1 = cc in absurd (omega arith)
  last_alike alike (a ∷ u) [] e x = let z : ◌≡◌ {A = ℕ} 0 1 = cc in absurd (omega arith)
  last_alike alike {n} (a ∷ u) (b ∷ v) e (line_then {here = here} x xs) = line_then (alike n (a ∷ u) (b ∷ v) here e x) xs

  pub upto_none : Upto Line [] [] 1 []
  upto_none = record { texts = no_line; counted = refl; left = refl }

  module _ {passed text : List ℕ} {number : ℕ} {begun : List ℕ} (u : Upto Line passed text number begun) where
    -- bytes that end no line
    pub upto_pass : (body : List ℕ) → NoLF body → Upto Line (passed ++ body) text number (begun ++ body)
    upto_pass body h =
        let unfinished = left_from [] passed in
        let ended : ended_from [] (passed ++ body) ≡ ended_from [] passed =
        ended_append [] passed body ∙ ap (ended_from [] passed ++◌) (ended_none unfinished body h) ∙ append-nil (ended_from [] passed) in
        record {
          texts = rw ended u.texts;
          counted = rw ended u.counted;
          left = rw (left_append [] passed body, left_all unfinished body h) (judged_on begun unfinished body u.left);
        }

    -- what is judged of the begun line is enough of it
    pub upto_kept : {kept : List ℕ} → judged kept ≡ judged begun → Upto Line passed text number kept
    upto_kept e = record { texts = u.texts; counted = u.counted; left = e ∙ u.left }

    module _ (alike : Judging Line) where
      -- the begun line ends by an LF
      pub upto_line : {more : List ℕ} → Line number begun more → Upto Line (passed ++ LF ∷ []) (text ++ more) (number + 1) []
      upto_line {more} x =
          let ended : ended_from [] (passed ++ LF ∷ []) ≡ ended_from [] passed ++ left_from [] passed ∷ [] = ended_append [] passed (LF ∷ []) in
          let one = length-append (ended_from [] passed) (left_from [] passed ∷ []) in
          let texts = texts_append u.texts (texts_one (rw u.counted at (alike number begun (left_from [] passed) more u.left x))) in
          record { texts = rw ended texts; counted = rw ended (omega (arith, u.counted)); left = rw (left_append [] passed (LF ∷ [])) refl }

      -- or with the input, if it is not empty
      pub upto_end : {more : List ℕ} → Texts Line number (last_line begun) more → Texts Line 1 (lines passed) (text ++ more)
      upto_end x = texts_append u.texts (rw u.counted at (last_alike alike begun (left_from [] passed) u.left x))
