-- The readings of lines: every line has one, its number is listed, and it holds at most sixteen structures.
use Rattle.std.specs.Prelude.{ℕ, suc, ◌*◌, ◌≤◌, ◌<◌, ◌≡◌, refl, Bool, true, false, cond, List, [], ◌∷◌, ◌++◌, map, eqb, ltb, length, take, replicate}
use Rattle.std.proofs.Common.{sym, ap, ap₂, ◌∙◌, append_assoc, arith, length-append, length-take, eqb-true, ltb-true}
use Rattle.std.proofs.lemmas.Bool.{eqb-false}
use Rattle.demand.specs.Numbers.{VALUE}
use Rattle.demand.specs.Demand.{accepted as accepts, refused as refuses, Reason}
use Rattle.label.specs.declared.Kind.{Kind}
use Rattle.label.specs.declared.Edition.{Edition}
use Rattle.label.specs.declared.Structure.{Structure}
use Rattle.label.specs.declared.Form.{Form}
use Rattle.label.specs.declared.Message.{Message}
use Rattle.structure.specs.Structures.{number_of, kinds_of, refusals, refused_at, LawfulIn, every_kind}
use Rattle.structure.specs.Laws.Kinds.{number_in}
use Rattle.structure.specs.Laws.Due.{among_every}
use Rattle.message.specs.declared.Reading.{Reading}
use Rattle.message.specs.Grammar.{Produces}
use Rattle.message.specs.Where.{of_structure, of_head}
use Rattle.message.specs.Refusals.{Fatal, RightReading, row_identifier, row_nested, row_repeat, row_character, row_value, row_trailing}
use Rattle.message.specs.Reading.{Answers}
use Rattle.message.specs.Theorems.{one_result}
use Rattle.lines.specs.Lines.{judged}
use Rattle.lines.specs.Laws.Judged.{some_reading, structures_small}
use Rattle.tally_figures.specs.Tally.{Readings, no_line, line_then, accepted, structures, form_of, form_number, refusal_numbers}
use Rattle.tally_figures.specs.Counters.{BY_NUMBER, BY_FORM, BY_KIND}
use Rattle.tally_figures.specs.Laws.Tests.{all, all_among, all_at, listed, listed_passes}

-- the numbers of readings
abbrev pub numbers : List ℕ
numbers = 0 ∷ refusal_numbers

-- the table of positions has listed numbers only
table_listed : (k : Kind) (i : ℕ) → listed numbers (refused_at k i) ≡ true
table_listed k i =
    all_at (listed numbers) (refusals k) i 5 (all_among (λ (k : Kind). all (listed numbers) (refusals k)) {xs = every_kind} refl (among_every k)) refl

row_listed : {ed : Edition} {p : List ℕ} {b n : ℕ} → Fatal ed p b n → listed numbers n ≡ true
row_listed (row_identifier o f g h e) = rw e
row_listed (row_nested w e) = rw e
row_listed (row_repeat w e) = rw e
row_listed (row_character σ v i o e) = rw e
row_listed (row_value σ v (of_structure q x k c may h kind l is set number) o e) = rw (e, number) (table_listed k (length c))
row_listed (row_value σ v (of_head h c l is set number) o e) = rw (e, number) (all_at (listed numbers) (replicate 5 VALUE) (length c) 5 refl refl)
row_listed (row_trailing t e) = rw e

reason_listed : {ed : Edition} {s : List ℕ} {k n : ℕ} → Reason (Produces ed) (Fatal ed) s k n → listed numbers n ≡ true
reason_listed (Reason.short e d) = rw d
reason_listed (Reason.fatal p b r e h row) = row_listed row

-- what counting a reading asks of it
pub record Countable (r : Reading) : Type 0 where
  pub listed : listed numbers r.refusal ≡ true
  pub few : r.refusal ≡ 0 → r.message.count ≤ 16

pub countable : (ed : Edition) (s : List ℕ) (r : Reading) → Answers ed s r → Countable r
countable ed s r a = by (eqb r.refusal 0) refl a.right
  where
    by : (t : Bool) → eqb r.refusal 0 ≡ t → RightReading ed s (cond t (accepts r.message r.place) (refuses r.refusal r.place))
        → Countable r
    by true e x = let is : r.refusal ≡ 0 = eqb-true r.refusal 0 e in record { listed = rw is; few = λ z. structures_small x.0 }
    by false e x = record { listed = reason_listed x.reason; few = λ z. absurd (eqb-false r.refusal 0 e z) }

pub number_low : {r : Reading} → Countable r → r.refusal < BY_NUMBER
number_low {r} c = ltb-true r.refusal BY_NUMBER (listed_passes (λ (n : ℕ). ltb n BY_NUMBER) numbers {n = r.refusal} refl c.listed)

-- the numbers of the current edition's kinds are small
pub kind_low : (x : Structure) → LawfulIn Edition.Current x → number_in x < BY_KIND
kind_low x h =
    rw h.is (ltb-true (number_of h.kind) BY_KIND (all_among (λ (k : Kind). ltb (number_of k) BY_KIND) {xs = kinds_of Edition.Current} refl h.among))

-- every line has a reading, and only one
pub some_readings : (ls : List (List ℕ)) → (rs : List Reading) × Readings ls rs
some_readings [] = ([], no_line)
some_readings (line ∷ ls) =
    let (r, a) = some_reading Edition.Current (judged line) in
    let (rs, as') = some_readings ls in
    (r ∷ rs, line_then a as')

pub one_readings : {ls : List (List ℕ)} {rs ss : List Reading} → Readings ls rs → Readings ls ss → rs ≡ ss
one_readings no_line no_line = refl
one_readings (line_then {line = line} {r = r} x xs) (line_then {r = q} y ys) =
    ap₂ ◌∷◌ (one_result Edition.Current (judged line) r q x y) (one_readings xs ys)

pub readings_long : {ls : List (List ℕ)} {rs : List Reading} → Readings ls rs → length rs ≡ length ls
readings_long no_line = refl
readings_long (line_then a as') = ap suc (readings_long as')

pub readings_append : {ls ms : List (List ℕ)} {rs ss : List Reading} → Readings ls rs → Readings ms ss → Readings (ls ++ ms) (rs ++ ss)
readings_append no_line y = y
readings_append (line_then a as') y = line_then a (readings_append as' y)

-- only what is judged of a line decides
pub readings_alike : {ls : List (List ℕ)} (ms : List (List ℕ)) {rs : List Reading} → map judged ls ≡ map judged ms → Readings ls rs → Readings ms rs
readings_alike [] e no_line = no_line
readings_alike (b ∷ ms) e no_line = let z : ◌≡◌ {A = ℕ} 0 1 = cc in absurd (omega arith)
readings_alike [] e (line_then x xs) = let z : ◌≡◌ {A = ℕ} 0 1 = cc in absurd (omega arith)
readings_alike (b ∷ ms) e (line_then {line = a} {ls = ls} x xs) =
    let here : judged a ≡ judged b = cc in
    let rest : map judged ls ≡ map judged ms = cc in
    line_then (rw here at x) (readings_alike ms rest xs)

-- the messages and structures of readings one after another
pub accepted_append : (rs ss : List Reading) → accepted (rs ++ ss) ≡ accepted rs ++ accepted ss
accepted_append [] ss = refl
accepted_append (r ∷ rs) ss = by (eqb r.refusal 0) (accepted_append rs ss)
  where
    by : (t : Bool) → accepted (rs ++ ss) ≡ accepted rs ++ accepted ss
        → cond t (r.message ∷ accepted (rs ++ ss)) (accepted (rs ++ ss)) ≡ cond t (r.message ∷ accepted rs) (accepted rs) ++ accepted ss
    by true e = ap (r.message ∷◌) e
    by false e = e

pub structures_append : (ms ns : List Message) → structures (ms ++ ns) ≡ structures ms ++ structures ns
structures_append [] ns = refl
structures_append (m ∷ ms) ns =
    ap (take m.count m.entries ++◌) (structures_append ms ns)
    ∙ sym (append_assoc (take m.count m.entries) (structures ms) (structures ns))

-- how many they are
pub accepted_few : (rs : List Reading) → length (accepted rs) ≤ length rs
accepted_few [] = omega arith
accepted_few (r ∷ rs) = by (eqb r.refusal 0) (accepted_few rs)
  where
    by : (t : Bool) → length (accepted rs) ≤ length rs → length (cond t (r.message ∷ accepted rs) (accepted rs)) ≤ suc (length rs)
    by true few = omega arith
    by false few = omega arith

pub structures_few : {ls : List (List ℕ)} {rs : List Reading} → Readings ls rs → length (structures (accepted rs)) ≤ 16 * length rs
structures_few no_line = omega arith
structures_few (line_then {line = line} {r = r} {rs = rs} a as') = by (eqb r.refusal 0) refl (structures_few as')
  where
    by : (t : Bool) → eqb r.refusal 0 ≡ t → length (structures (accepted rs)) ≤ 16 * length rs
        → length (structures (cond t (r.message ∷ accepted rs) (accepted rs))) ≤ 16 * suc (length rs)
    by true e rest =
        let m = r.message in
        let few : m.count ≤ 16 = (countable Edition.Current (judged line) r a).few (eqb-true r.refusal 0 e) in
        omega (arith, length-append (take m.count m.entries) (structures (accepted rs)), length-take m.count m.entries)
    by false e rest = omega arith

-- and so is a form's
pub form_low : (m : Message) → form_of m < BY_FORM
form_low m = by m.form
  where
    by : (f : Form) → form_number f < BY_FORM
    by Form.Single = omega arith
    by Form.Pair = omega arith
    by Form.Compound = omega arith
