-- What readings and lines add to all counters, and how high these get.
use Rattle.std.specs.Prelude.{ℕ, ◌+◌, ◌*◌, ◌≤◌, min, ◌≡◌, List, [], ◌∷◌, ◌++◌, length, take}
use Rattle.std.proofs.Common.{append-nil, arith, eq-eqb, ne_eqb}
use Rattle.std.proofs.Math.Seq.{take-length}
use Rattle.label.specs.declared.Edition.{Edition}
use Rattle.message.specs.declared.Reading.{Reading}
use Rattle.message.specs.Reading.{Answers}
use Rattle.lines.specs.Lines.{JUDGED}
use Rattle.lines.specs.Laws.Judged.{judged_part}
use Rattle.tally_figures.specs.Tally.{no_line, line_then, accepted, refusal_of, form_of, kind_of}
use Rattle.tally_figures.specs.declared.Counters.{Counters}
use Rattle.tally_figures.specs.Counters.{Counts, Adds, AddsLines, Low, Within}
use Rattle.tally_figures.specs.Laws.Counts.{how_many_most, counts_none, counts_then, below_counts, below_more, one_count}
use Rattle.tally_figures.specs.Laws.Readings.{accepted_append, structures_append, readings_append, readings_long}
use Rattle.tally_figures.specs.Laws.Readings.{one_readings, accepted_few, structures_few}

pub low_more : {b b' : ℕ} {c : Counters} → Low b c → b ≤ b' → Low b' c
low_more x h = record { numbers = below_more x.numbers h; forms = below_more x.forms h; kinds = below_more x.kinds h }

pub adds_none : {c : Counters} → Adds [] c c
adds_none = record { numbers = counts_none; forms = counts_none; kinds = counts_none }

pub adds_then : {rs ss : List Reading} {a b c : Counters} → Adds rs a b → Adds ss b c → Adds (rs ++ ss) a c
adds_then {rs} {ss} x y =
    let messages = accepted_append rs ss in
    record {
      numbers = counts_then x.numbers y.numbers;
      forms = rw messages (counts_then x.forms y.forms);
      kinds = rw (messages, structures_append (accepted rs) (accepted ss)) (counts_then x.kinds y.kinds);
    }

-- one reading
module _ {r : Reading} {n n' : List ℕ} (x : Counts refusal_of (r ∷ []) n n') where
  pub adds_accepted : {f f' k k' : List ℕ} → r.refusal ≡ 0 → Counts form_of (r.message ∷ []) f f'
      → Counts kind_of (take r.message.count r.message.entries) k k'
      → Adds (r ∷ []) record { numbers = n; forms = f; kinds = k } record { numbers = n'; forms = f'; kinds = k' }
  adds_accepted z y w =
      let is = eq-eqb r.refusal 0 z in
      record { numbers = x; forms = rw is y; kinds = rw (is, append-nil (take r.message.count r.message.entries)) w }

  pub adds_refused : {f k : List ℕ} → (r.refusal ≡ 0 → ⊥)
      → Adds (r ∷ []) record { numbers = n; forms = f; kinds = k } record { numbers = n'; forms = f; kinds = k }
  adds_refused g = let is = ne_eqb r.refusal 0 g in record { numbers = x; forms = rw is counts_none; kinds = rw is counts_none }

-- the reading of what is judged of a line
pub adds_line : {line : List ℕ} {k : ℕ} {r : Reading} {a b : Counters} → k ≡ min (length line) JUDGED → Answers Edition.Current (take k line) r
    → Adds (r ∷ []) a b → AddsLines (line ∷ []) a b
adds_line {line} {r = r} e x y =
    let whole = rw (e, judged_part (length line) line, take-length line) at x in
    record { readings = r ∷ []; answers = line_then whole no_line; adds = y }

pub lines_none : {c : Counters} → AddsLines [] c c
lines_none = record { readings = []; answers = no_line; adds = adds_none }

pub lines_then : {ls ms : List (List ℕ)} {a b c : Counters} → AddsLines ls a b → AddsLines ms b c → AddsLines (ls ++ ms) a c
lines_then x y =
    record { readings = x.readings ++ y.readings; answers = readings_append x.answers y.answers; adds = adds_then x.adds y.adds }

-- each line adds sixteen at most
pub lines_low : {ls : List (List ℕ)} {a c : Counters} {b b' : ℕ} → Low b a → AddsLines ls a c → b + 16 * length ls ≤ b' → Low b' c
lines_low low x h =
    let long = readings_long x.answers in
    record {
      numbers = below_counts low.numbers x.adds.numbers (omega arith);
      forms = below_counts low.forms x.adds.forms (omega (arith, accepted_few x.readings));
      kinds = below_counts low.kinds x.adds.kinds (omega (arith, structures_few x.answers));
    }

-- so many lines more are counted
pub within_more : {limit n k : ℕ} {ls : List (List ℕ)} {a c : Counters} → Within limit n a → AddsLines ls a c → k ≡ length ls → n + k ≤ limit
    → Within limit (n + k) c
within_more {k = k} {ls} w x e h =
    let long = readings_long x.answers in
    let few = how_many_most refusal_of x.readings 0 in
    record {
      most = h;
      low = lines_low w.low x (omega arith);
      accepted = omega (arith, w.accepted, x.adds.numbers.each 0 (omega (arith, w.low.numbers.long)));
    }

-- and so are lines
pub one_addition : {ls : List (List ℕ)} {a b c : Counters} → AddsLines ls a b → AddsLines ls a c → b ≡ c
one_addition {a = a} {c = c} x y =
    let same : Adds x.readings a c = rw (one_readings y.answers x.answers) at y.adds in
    let n = one_count x.adds.numbers same.numbers in
    let f = one_count x.adds.forms same.forms in
    let k = one_count x.adds.kinds same.kinds in
    λ i. record { numbers = n i; forms = f i; kinds = k i }
