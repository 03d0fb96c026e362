-- The figures of readings: one after another they add up, and the accepted and the refused ones make all the lines.
use Rattle.std.specs.Prelude.{ℕ, ◌+◌, ◌≡◌, refl, Bool, true, false, cond, List, [], ◌∷◌, ◌++◌, map, eqb, length}
use Rattle.std.proofs.Common.{sym, ap, ap₂, ◌∙◌, append-nil, arith, length-append, eqb-true}
use Rattle.label.specs.declared.Form.{Form}
use Rattle.label.specs.declared.Edition.{Edition}
use Rattle.message.specs.declared.Reading.{Reading}
use Rattle.lines.specs.Lines.{LF, lines, left_from, ended_from, judged}
use Rattle.lines.specs.Laws.Lines.{left_append}
use Rattle.lines.specs.Laws.Blocks.{lines_append}
use Rattle.tally_figures.specs.Tally.{Readings, no_line, line_then, how_many, accepted, structures, form_number, form_of, kind_of, refusal_of}
use Rattle.tally_figures.specs.Tally.{all_accepted, all_refused, refused, of_form, of_kind, forms, kinds, refusal_numbers, figures, total, sums, Tally}
use Rattle.tally_figures.specs.Laws.Counts.{how_many_append}
use Rattle.tally_figures.specs.Laws.Tests.{listed_passes}
use Rattle.tally_figures.specs.Laws.Readings.{numbers, countable, accepted_append, structures_append, readings_append, some_readings, one_readings}

-- sums of rows
sums_map : (f g h : ℕ → ℕ) → ((n : ℕ) → f n ≡ g n + h n) → (ms : List ℕ) → map f ms ≡ sums (map g ms) (map h ms)
sums_map f g h e [] = refl
sums_map f g h e (m ∷ ms) = ap₂ ◌∷◌ (e m) (sums_map f g h e ms)

sums_append : (f g : ℕ → ℕ) (ms xs ys : List ℕ) → sums (map f ms ++ xs) (map g ms ++ ys) ≡ sums (map f ms) (map g ms) ++ sums xs ys
sums_append f g [] xs ys = refl
sums_append f g (m ∷ ms) xs ys = ap ((f m + g m) ∷◌) (sums_append f g ms xs ys)

refused_append : (rs ss : List Reading) → all_refused (rs ++ ss) ≡ all_refused rs + all_refused ss
refused_append [] ss = omega arith
refused_append (r ∷ rs) ss = omega (arith, refused_append rs ss)

pub figures_append : (rs ss : List Reading) → figures (rs ++ ss) ≡ sums (figures rs) (figures ss)
figures_append rs ss =
    let messages = accepted_append rs ss in
    let by_form : (n : ℕ) → of_form (rs ++ ss) n ≡ of_form rs n + of_form ss n =
    λ n. rw messages (how_many_append form_of (accepted rs) (accepted ss) n) in
    let by_kind : (n : ℕ) → of_kind (rs ++ ss) n ≡ of_kind rs n + of_kind ss n =
    λ n. rw (messages, structures_append (accepted rs) (accepted ss)) (how_many_append kind_of (structures (accepted rs)) (structures (accepted ss)) n) in
    let a = sums_map (of_form (rs ++ ss)) (of_form rs) (of_form ss) by_form forms in
    let b = sums_map (of_kind (rs ++ ss)) (of_kind rs) (of_kind ss) by_kind kinds in
    let c = sums_map (refused (rs ++ ss)) (refused rs) (refused ss) (how_many_append refusal_of rs ss) refusal_numbers in
    ap₂ ◌∷◌ (length-append rs ss)
    (ap₂ ◌∷◌ (ap length messages ∙ length-append (accepted rs) (accepted ss)) (ap₂ ◌∷◌ (refused_append rs ss) (ap₂ ◌++◌ a (ap₂ ◌++◌ b c))))

-- every message has one of the forms
form_once : (f : Form) → cond (eqb (form_number f) 0) 1 0 + (cond (eqb (form_number f) 1) 1 0 + (cond (eqb (form_number f) 2) 1 0 + 0)) ≡ 1
form_once Form.Single = refl
form_once Form.Pair = refl
form_once Form.Compound = refl

forms_more : (r : Reading) (rs : List Reading) → total (map (of_form (r ∷ rs)) forms) ≡ cond (eqb r.refusal 0) 1 0 + total (map (of_form rs) forms)
forms_more r rs = by (eqb r.refusal 0)
  where
    by : (t : Bool)
        → total (map (how_many form_of (cond t (r.message ∷ accepted rs) (accepted rs))) forms) ≡ cond t 1 0 + total (map (of_form rs) forms)
    by true = omega (arith, form_once r.message.form)
    by false = omega arith

-- of one more reading: it is accepted or refused
accepted_more : (r : Reading) (rs : List Reading) → all_accepted (r ∷ rs) ≡ cond (eqb r.refusal 0) 1 0 + all_accepted rs
accepted_more r rs = by (eqb r.refusal 0)
  where
    by : (t : Bool) → length (cond t (r.message ∷ accepted rs) (accepted rs)) ≡ cond t 1 0 + all_accepted rs
    by true = omega arith
    by false = omega arith

one_way : (t : Bool) → cond t 1 0 + cond t 0 1 ≡ 1
one_way true = refl
one_way false = refl

pub accepted_or_refused : (rs : List Reading) → length rs ≡ all_accepted rs + all_refused rs
accepted_or_refused [] = refl
accepted_or_refused (r ∷ rs) = omega (arith, accepted_or_refused rs, accepted_more r rs, one_way (eqb r.refusal 0))

pub accepted_counted : (rs : List Reading) → how_many refusal_of rs 0 ≡ all_accepted rs
accepted_counted [] = refl
accepted_counted (r ∷ rs) = omega (arith, accepted_counted rs, accepted_more r rs)

-- the forms make all accepted ones
pub by_form : (rs : List Reading) → all_accepted rs ≡ total (map (of_form rs) forms)
by_form [] = refl
by_form (r ∷ rs) = omega (arith, by_form rs, accepted_more r rs, forms_more r rs)

-- a listed number is one of the refusals, and of one only, or that of acceptance
abbrev refusals_with : ℕ → ℕ
refusals_with n = total (map (λ (m : ℕ). cond (eqb n m) 1 0) refusal_numbers)

refusals_more : (r : Reading) (rs : List Reading)
    → total (map (refused (r ∷ rs)) refusal_numbers) ≡ refusals_with r.refusal + total (map (refused rs) refusal_numbers)
refusals_more r rs = omega arith

-- the refusal numbers make all refused ones
pub by_number : {ls : List (List ℕ)} {rs : List Reading} → Readings ls rs → all_refused rs ≡ total (map (refused rs) refusal_numbers)
by_number no_line = refl
by_number (line_then {line = line} {r = r} {rs = rs} a as') =
    let one : refusals_with r.refusal ≡ cond (eqb r.refusal 0) 0 1 =
    eqb-true (refusals_with r.refusal) (cond (eqb r.refusal 0) 0 1)
    (listed_passes (λ (n : ℕ). eqb (refusals_with n) (cond (eqb n 0) 0 1)) numbers {n = r.refusal} refl
    (countable Edition.Current (judged line) r a).listed) in
    omega (arith, by_number as', refusals_more r rs, one)

-- the tallies of lines
pub some_tally : (ls : List (List ℕ)) → (t : List ℕ) × Tally ls t
some_tally ls = let (rs, x) = some_readings ls in (figures rs, record { readings = rs; answers = x; is = refl })

pub one_tally : {ls : List (List ℕ)} {a b : List ℕ} → Tally ls a → Tally ls b → a ≡ b
one_tally x y = x.is ∙ ap figures (one_readings x.answers y.answers) ∙ sym y.is

pub tally_append : {ls ms : List (List ℕ)} {a b : List ℕ} → Tally ls a → Tally ms b → Tally (ls ++ ms) (sums a b)
tally_append x y =
    record {
      readings = x.readings ++ y.readings;
      answers = readings_append x.answers y.answers;
      is = rw (x.is, y.is) (sym (figures_append x.readings y.readings));
    }

-- an input that LF ends leaves no line begun
ended_none : (u : List ℕ) → left_from [] (u ++ LF ∷ []) ≡ []
ended_none u = left_append [] u (LF ∷ [])

pub lines_after : (u t : List ℕ) → lines ((u ++ LF ∷ []) ++ t) ≡ lines (u ++ LF ∷ []) ++ lines t
lines_after u t =
    let none = ended_none u in
    lines_append [] (u ++ LF ∷ []) t ∙ rw none (ap (◌++ lines t) (sym (append-nil (ended_from [] (u ++ LF ∷ [])))))
