-- The last line whose text was taken whole, where each text has one LF and ends with it: as many as there are LFs in what was not taken are lost.
use Rattle.std.specs.Prelude.{ℕ, zero, suc, ◌+◌, ◌/◌, ◌%◌, ◌^◌, ◌≤◌, ◌<◌, ◌≡◌, refl, Bool, true, false, cond, List, [], ◌∷◌, ◌++◌, eqb, length, count_by}
use Rattle.std.proofs.Common.{sym, ap, ◌∙◌, append_assoc, arith, length-append, ne_eqb}
use Rattle.std.proofs.lemmas.List.Recursion.{is_count_by}
use Rattle.text.specs.Bytes.{byte}
use Rattle.text.specs.Decimal.{digits}
use Rattle.lines.specs.Lines.{LF}
use Rattle.lines.specs.Report.{LineReport}
use Rattle.lines.specs.Texts.{Texts, no_line, line_then, Reaches}

-- how many LFs there are
abbrev pub ends : List ℕ → ℕ
ends [] = 0
ends (b ∷ s) = cond (eqb b LF) 1 0 + ends s

pub ends_append : (s t : List ℕ) → ends (s ++ t) ≡ ends s + ends t
ends_append [] t = omega arith
ends_append (b ∷ s) t = omega (arith, ends_append s t)

pub ends_few : (s : List ℕ) → ends s ≤ length s
ends_few [] = omega arith
ends_few (b ∷ s) = by (eqb b LF) (ends_few s)
  where
    by : (t : Bool) → ends s ≤ length s → cond t 1 0 + ends s ≤ suc (length s)
    by true h = omega arith
    by false h = omega arith

-- as std counts them
pub ends_count : (s : List ℕ) → count_by (λ b. eqb b LF) s ≡ ends s
ends_count s = sym (is_count_by ends (λ b. eqb b LF) refl (λ b s. one_more (eqb b LF) (ends s)) s)
  where
    one_more : (t : Bool) (n : ℕ) → cond t 1 0 + n ≡ cond t (1 + n) n
    one_more true n = refl
    one_more false n = omega arith

-- a text that ends with its one LF
pub record OneLine (text : List ℕ) : Type 0 where
  pub body : List ℕ
  pub none : ends body ≡ 0
  pub is : text ≡ body ++ LF ∷ []

-- what is left of such a text behind a front that is not all of it
lost_end : (front lost body : List ℕ) → ends body ≡ 0 → front ++ lost ≡ body ++ LF ∷ [] → 0 < length lost → ends lost ≡ 1
lost_end [] lost body n e h = ap ends e ∙ ends_append body (LF ∷ []) ∙ omega (arith, n)
lost_end (b ∷ front) lost [] n e h =
    let rest : front ++ lost ≡ [] = cc in
    absurd (omega (arith, ap length rest, length-append front lost))
lost_end (b ∷ front) lost (d ∷ body) n e h = let rest : front ++ lost ≡ body ++ LF ∷ [] = cc in lost_end front lost body (omega arith) rest h

-- one text and another make the same as two others: the first goes further, or it does not
data Meet (a b c d : List ℕ) : Type 0 where
  further : (mid : List ℕ) → c ≡ a ++ mid → b ≡ mid ++ d → Meet a b c d
  shorter : (mid : List ℕ) → a ≡ c ++ mid → d ≡ mid ++ b → 0 < length mid → Meet a b c d

meet : (a b c d : List ℕ) → a ++ b ≡ c ++ d → Meet a b c d
meet [] b c d e = further c refl e
meet (x ∷ a) b [] d e = shorter (x ∷ a) refl (sym e) (omega arith)
meet (x ∷ a) b (y ∷ c) d e =
    let same : x ≡ y = cc in
    let rest : a ++ b ≡ c ++ d = cc in
    by same (meet a b c d rest)
  where
    by : x ≡ y → Meet a b c d → Meet (x ∷ a) b (y ∷ c) d
    by s (further mid p q) = further mid (cc) q
    by s (shorter mid p q h) = shorter mid (cc) q h

module _ {Line : ℕ → List ℕ → List ℕ → Type 0} (one : (n : ℕ) (line text : List ℕ) → Line n line text → OneLine text) where
  pub texts_ends : {n : ℕ} {ls : List (List ℕ)} {text : List ℕ} → Texts Line n ls text → ends text ≡ length ls
  texts_ends no_line = refl
  texts_ends {n} (line_then {line = line} {here = here} {rest = rest} x xs) =
      let o = one n line here x in
      let here-ends : ends here ≡ 1 = ap ends o.is ∙ ends_append o.body (LF ∷ []) ∙ omega (arith, o.none) in
      ends_append here rest ∙ omega (arith, here-ends, texts_ends xs)

  -- the lines that are not lost
  pub reached : {n last : ℕ} (ls : List (List ℕ)) (put lost text : List ℕ) → Texts Line (n + 1) ls text → text ≡ put ++ lost → 0 < length lost
      → last + ends lost ≡ n + length ls → Reaches Line n ls put last
  reached [] put lost text no_line e h k = absurd (omega (arith, ap length e, length-append put lost))
  reached {n} {last} (line ∷ ls) put lost text (line_then {here = here} {rest = rest} x xs) e h k =
      by (meet here rest put lost e) (λ mid q. reached {n = n + 1} ls mid lost rest xs q h (omega arith))
    where
      by : Meet here rest put lost → ((mid : List ℕ) → rest ≡ mid ++ lost → Reaches Line (n + 1) ls mid last)
          → Reaches Line n (line ∷ ls) put last
      by (further mid p q) on = rw p (Reaches.line_then x (on mid q))
      by (shorter mid p q l) on =
          let o = one (n + 1) line here x in
          let once : ends mid ≡ 1 = lost_end put mid o.body o.none (sym p ∙ o.is) l in
          let all : ends lost ≡ 1 + length ls = ap ends q ∙ ends_append mid rest ∙ omega (arith, once, texts_ends xs) in
          let here-is : last ≡ n = omega arith in
          rw here-is (Reaches.cut_in mid (rw p at x) l)

-- no digit is LF
digits_ends : (n v : ℕ) → ends (digits n v) ≡ 0
digits_ends zero v = refl
digits_ends (suc n) v = rw (ne_eqb (byte "0" + v / 10 ^ n % 10) LF (λ e. omega arith)) (omega (arith, digits_ends n v))

-- the report of a line is such a text
pub report_line : (n : ℕ) (line text : List ℕ) → LineReport n line text → OneLine text
report_line n line text x =
    let t = x.tells in
    let a = t.line_number in
    let b = t.refusal_number in
    let c = t.structures in
    let one = ap ends a.is ∙ digits_ends (suc a.more) n in
    let two = ap ends b.is ∙ digits_ends (suc b.more) _ in
    let three = ap ends c.is ∙ digits_ends (suc c.more) _ in
    record {
      body = t.first ++ byte " " ∷ (t.second ++ byte " " ∷ t.third);
      none = simp ends_append (omega (arith, one, two, three));
      is = rw t.is (simp append_assoc);
    }
