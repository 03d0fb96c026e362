-- However an input is cut into blocks, its lines are counted up to the limit.
use Rattle.std.specs.Prelude.{ℕ, zero, suc, ◌+◌, ◌-◌, ◌≤◌, ◌<◌, ◌≡◌, refl, Bool, true, false, List, [], ◌∷◌, ◌++◌, map, ltb, length, get_or, take, replicate}
use Rattle.std.proofs.Common.{sym, ap, ap₂, ◌∙◌, ⊎_elim, arith, le_refl, length-append, take-take, take_all, lt-ltb, le-ltb, ltb-true, ltb-false}
use Rattle.std.proofs.lemmas.List.{length-replicate, get_or-replicate, take-append-le}
use Rattle.std.proofs.Math.Seq.{take-append-add}
use Rattle.text.specs.Laws.Bytes.{both}
use Rattle.text.specs.Laws.Choice.{by_less}
use Rattle.message.specs.declared.Reading.{Reading}
use Rattle.lines.specs.Lines.{JUDGED, ended_from, left_from, last_line, lines, judged}
use Rattle.lines.specs.Laws.Lines.{ended_append, left_append, ended_alike, left_alike, last_line_alike}
use Rattle.lines.specs.Laws.Blocks.{alike_length}
use Rattle.tally_figures.specs.Tally.{how_many, accepted, structures, refusal_of, form_of, kind_of, forms, kinds, refusal_numbers, figures, Tallied}
use Rattle.tally_figures.specs.Tally.{all_accepted, of_form, of_kind, refused}
use Rattle.tally_figures.specs.declared.Counters.{Counters}
use Rattle.tally_figures.specs.Counters.{BY_NUMBER, BY_FORM, BY_KIND, Counts, Adds, zeros, shown}
use Rattle.tally_figures.specs.Laws.Tests.{all}
use Rattle.tally_figures.specs.Laws.Counters.{lines_none, lines_then}
use Rattle.tally_figures.specs.Laws.Figures.{accepted_counted, accepted_or_refused}
use Rattle.tally_figures.specs.Laws.Readings.{readings_alike, readings_long}
use Rattle.tally_lines.specs.Blocks.{Counted, CountsBlock}

-- up to a place of an input no more lines ended than the limit; they are counted, and begun is what is kept of the next
pub record Sofar (limit : ℕ) (passed : List ℕ) (n : ℕ) (begun : List ℕ) (c : Counters) : Type 0 where
  pub counted : Counted limit 0 (ended_from [] passed) zeros c n false
  pub left : judged begun ≡ judged (left_from [] passed)

-- the first lines of lists that are judged alike
taken_map : {A B : Type 0} (f : A → B) (k : ℕ) (l : List A) → map f (take k l) ≡ take k (map f l)
taken_map f zero l = refl
taken_map f (suc k) [] = refl
taken_map f (suc k) (x ∷ l) = ap (f x ∷◌) (taken_map f k l)

alike_taken : (k : ℕ) (ls ms : List (List ℕ)) → map judged ls ≡ map judged ms → map judged (take k ls) ≡ map judged (take k ms)
alike_taken k ls ms e = taken_map judged k ls ∙ ap (take k) e ∙ sym (taken_map judged k ms)

counted_alike : {limit n next : ℕ} {ls : List (List ℕ)} (ms : List (List ℕ)) {a b : Counters} {t : Bool} → map judged ls ≡ map judged ms
    → Counted limit n ls a b next t → Counted limit n ms a b next t
counted_alike {limit} {n} {ls = ls} ms e x =
    let first = alike_taken (limit - n) ls ms e in
    record {
      adds = record { readings = x.adds.readings; answers = readings_alike (take (limit - n) ms) first x.adds.answers; adds = x.adds.adds };
      counted = x.counted ∙ ap (n +◌) (alike_length (take (limit - n) ls) (take (limit - n) ms) first);
      says = x.says ∙ ap (ltb (limit - n)) (alike_length ls ms e);
    }

-- a test that another one decides
same_test : (a b c d : ℕ) → (a < b → c < d) → (b ≤ a → d ≤ c) → ltb a b ≡ ltb c d
same_test a b c d f g =
    ⊎_elim
    (λ x. lt-ltb a b x.0 ∙ sym (lt-ltb c d (f x.0)))
    (λ x. le-ltb a b x.0 ∙ sym (le-ltb c d (g x.0)))
    (by_less a b a b)

module _ {limit n next : ℕ} {ls : List (List ℕ)} (ms : List (List ℕ)) {a b : Counters} where
  -- all were counted, and further lines follow
  pub counted_then : {c : Counters} {total : ℕ} {t : Bool} → n ≤ limit → Counted limit n ls a b next false → Counted limit next ms b c total t
      → Counted limit n (ls ++ ms) a c total t
  counted_then h x y =
      let few : length ls ≤ limit - n = ltb-false (limit - n) (length ls) (sym x.says) in
      let all : take (limit - n) ls ≡ ls = take_all (limit - n) ls few in
      let on : next ≡ n + length ls = x.counted ∙ ap (λ (l : List (List ℕ)). n + length l) all in
      let left : limit - n ≡ length ls + (limit - next) = omega arith in
      let both : take (limit - n) (ls ++ ms) ≡ ls ++ take (limit - next) ms = rw left (take-append-add ls ms (limit - next)) in
      let long = length-append ls ms in
      record {
        adds = rw both (lines_then (rw all at x.adds) y.adds);
        counted = rw both (omega (arith, y.counted, length-append ls (take (limit - next) ms)));
        says = y.says ∙ same_test (limit - next) (length ms) (limit - n) (length (ls ++ ms)) (λ p. omega arith) (λ p. omega arith);
      }

  -- it stopped, whatever follows
  pub counted_stops : Counted limit n ls a b next true → Counted limit n (ls ++ ms) a b next true
  counted_stops x =
      let more : limit - n < length ls = ltb-true (limit - n) (length ls) (sym x.says) in
      let first : take (limit - n) (ls ++ ms) ≡ take (limit - n) ls = take-append-le (limit - n) ls ms (omega arith) in
      record {
        adds = rw first x.adds;
        counted = rw first x.counted;
        says = sym (lt-ltb (limit - n) (length (ls ++ ms)) (omega (arith, length-append ls ms)));
      }

-- counters that began with 0 hold how many there are
from_zero : {A : Type 0} (number : A → ℕ) (xs : List A) (size : ℕ) (c : List ℕ) → Counts number xs (replicate size 0) c → (n : ℕ) → n < size
    → get_or c n 0 ≡ how_many number xs n
from_zero number xs size c x n h =
    let none : List ℕ = replicate size 0 in
    let long : length none ≡ size = length-replicate size 0 in
    let zero-there : get_or none n 0 ≡ 0 = get_or-replicate size n 0 0 h in
    omega (arith, x.each n (omega arith))

-- the rows of a tally read off the counters
rows_same : (f g : ℕ → ℕ) (size : ℕ) (ms : List ℕ) → ((n : ℕ) → n < size → f n ≡ g n) → all (λ (m : ℕ). ltb m size) ms ≡ true
    → map f ms ≡ map g ms
rows_same f g size [] h e = refl
rows_same f g size (m ∷ ms) h e =
    let (low, rest) = both (ltb m size) (all (λ (k : ℕ). ltb k size) ms) e in
    ap₂ ◌∷◌ (h m (ltb-true m size low)) (rows_same f g size ms h rest)

pub shown_figures : {rs : List Reading} {c : Counters} {n : ℕ} → Adds rs zeros c → n ≡ length rs → shown n c ≡ figures rs
shown_figures {rs} {c} x e =
    let by_number = from_zero refusal_of rs BY_NUMBER c.numbers x.numbers in
    let by_form = from_zero form_of (accepted rs) BY_FORM c.forms x.forms in
    let by_kind = from_zero kind_of (structures (accepted rs)) BY_KIND c.kinds x.kinds in
    let accepted_row : get_or c.numbers 0 0 ≡ all_accepted rs = by_number 0 (omega arith) ∙ accepted_counted rs in
    ap₂ ◌∷◌ e
    (ap₂ ◌∷◌ accepted_row (ap₂ ◌∷◌ (omega (arith, accepted_or_refused rs))
    (ap₂ ◌++◌ (rows_same (λ (i : ℕ). get_or c.forms i 0) (of_form rs) BY_FORM forms by_form refl)
    (ap₂ ◌++◌ (rows_same (λ (i : ℕ). get_or c.kinds i 0) (of_kind rs) BY_KIND kinds by_kind refl)
    (rows_same (λ (i : ℕ). get_or c.numbers i 0) (refused rs) BY_NUMBER refusal_numbers by_number refl)))))

-- lines that were counted are tallied
pub counted_tallied : {limit n : ℕ} {ls : List (List ℕ)} {c : Counters} {t : Bool} → Counted limit 0 ls zeros c n t → Tallied limit ls (shown n c) t
counted_tallied {limit} x =
    let whole : limit - 0 ≡ limit = omega arith in
    let adds = rw whole at x.adds in
    record {
      tally =
          record {
            readings = adds.readings;
            answers = adds.answers;
            is = shown_figures adds.adds (omega (arith, rw whole at x.counted, readings_long adds.answers));
          };
      says = rw whole at x.says;
    }

pub sofar_first : {limit : ℕ} → Sofar limit [] 0 [] zeros
sofar_first {limit} =
    let none : take {A = List ℕ} (limit - 0) [] ≡ [] = take_all (limit - 0) [] (omega arith) in
    record {
      counted =
          record { adds = rw none lines_none; counted = rw none (omega arith); says = sym (le-ltb (limit - 0) 0 (omega arith)) };
      left = refl;
    }

module _ {limit : ℕ} {passed : List ℕ} {n : ℕ} {begun : List ℕ} {c : Counters} (s : Sofar limit passed n begun c) where
  -- lines behind those that are counted already
  on : (ls ms : List (List ℕ)) {d : Counters} {next : ℕ} {t : Bool} → map judged ls ≡ map judged ms → Counted limit n ls c d next t
      → Counted limit 0 (ended_from [] passed ++ ms) zeros d next t
  on ls ms e x = counted_then ms (omega arith) s.counted (counted_alike ms e x)

  -- a block was taken
  module _ {block keeps : List ℕ} {d : Counters} {next : ℕ} where
    ended : {t : Bool} → CountsBlock limit n begun block c d next keeps t → Counted limit 0 (ended_from [] (passed ++ block)) zeros d next t
    ended x =
        let left = left_from [] passed in
        rw (ended_append [] passed block) (on (ended_from begun block) (ended_from left block) (ended_alike begun left block s.left) x.lines)

    pub sofar_took : CountsBlock limit n begun block c d next keeps false → Sofar limit (passed ++ block) next keeps d
    sofar_took x =
        let left = left_from [] passed in
        record {
          counted = ended x;
          left =
              ap judged x.rest ∙ take-take JUDGED JUDGED (left_from begun block) (le_refl JUDGED) ∙ left_alike begun left block s.left
              ∙ ap judged (sym (left_append [] passed block));
        }

    pub sofar_stopped : CountsBlock limit n begun block c d next keeps true → Tallied limit (lines (passed ++ block)) (shown next d) true
    sofar_stopped x = counted_tallied (counted_stops (last_line (left_from [] (passed ++ block))) (ended x))

  -- the end of the input
  pub sofar_end : {d : Counters} {next : ℕ} {t : Bool} → Counted limit n (last_line begun) c d next t → Tallied limit (lines passed) (shown next d) t
  sofar_end x =
      let left = left_from [] passed in
      counted_tallied (on (last_line begun) (last_line left) (last_line_alike begun left s.left) x)

  -- or only the lines that ended
  pub sofar_part : Tallied limit (ended_from [] passed) (shown n c) false
  sofar_part = counted_tallied s.counted
