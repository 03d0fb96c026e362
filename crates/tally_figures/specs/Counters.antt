-- What the lent counters hold: each how many have its answer.
use Rattle.std.specs.Prelude.{ℕ, ◌+◌, ◌-◌, ◌*◌, ◌≤◌, ◌<◌, ◌≡◌, List, ◌∷◌, ◌++◌, map, length, get_or, replicate}
use Rattle.demand.specs.Numbers.{ACCEPTED}
use Rattle.message.specs.declared.Reading.{Reading}
use Rattle.tally_figures.specs.declared.Counters.{Counters}
use Rattle.tally_figures.specs.Tally.{Readings, how_many, accepted, structures, refusal_of, form_of, kind_of, forms, kinds, refusal_numbers}

-- to each counter is added how many of a list have its number
pub record Counts {A : Type 0} (number : A → ℕ) (xs : List A) (before after : List ℕ) : Type 0 where
  pub long : length after ≡ length before
  pub each : (n : ℕ) → n < length before → get_or after n 0 ≡ get_or before n 0 + how_many number xs n

-- how many counters there are: the refusal numbers 0 to 13, three forms, the kinds' numbers up to 31
abbrev pub BY_NUMBER : ℕ
BY_NUMBER = 14

abbrev pub BY_FORM : ℕ
BY_FORM = 3

abbrev pub BY_KIND : ℕ
BY_KIND = 32

-- before the first line
abbrev pub zeros : Counters
zeros = record { numbers = replicate BY_NUMBER 0; forms = replicate BY_FORM 0; kinds = replicate BY_KIND 0 }

-- what readings add to them
pub record Adds (rs : List Reading) (before after : Counters) : Type 0 where
  pub numbers : Counts refusal_of rs before.numbers after.numbers
  pub forms : Counts form_of (accepted rs) before.forms after.forms
  pub kinds : Counts kind_of (structures (accepted rs)) before.kinds after.kinds

-- and lines, by their readings
pub record AddsLines (ls : List (List ℕ)) (before after : Counters) : Type 0 where
  pub readings : List Reading
  pub answers : Readings ls readings
  pub adds : Adds readings before after

-- what is shown of a number of lines and the counters: the lines that are not accepted are refused
abbrev pub shown : ℕ → Counters → List ℕ
shown n c = n ∷ get_or c.numbers ACCEPTED 0 ∷ (n - get_or c.numbers ACCEPTED 0) ∷
    (map (λ (i : ℕ). get_or c.forms i 0) forms ++ (map (λ (i : ℕ). get_or c.kinds i 0) kinds
    ++ map (λ (i : ℕ). get_or c.numbers i 0) refusal_numbers))

-- so many counters, and none is higher than b
pub record Below (size b : ℕ) (c : List ℕ) : Type 0 where
  pub long : length c ≡ size
  pub each : (n : ℕ) → get_or c n 0 ≤ b

-- all counters are there, and none is higher than b
pub record Low (b : ℕ) (c : Counters) : Type 0 where
  pub numbers : Below BY_NUMBER b c.numbers
  pub forms : Below BY_FORM b c.forms
  pub kinds : Below BY_KIND b c.kinds

-- so many lines are counted, no more than the limit; each made no counter more than sixteen higher, and no more than all are accepted
pub record Within (limit n : ℕ) (c : Counters) : Type 0 where
  pub most : n ≤ limit
  pub low : Low (16 * n) c
  pub accepted : get_or c.numbers ACCEPTED 0 ≤ n
