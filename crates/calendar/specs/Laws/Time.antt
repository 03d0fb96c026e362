-- The time's content: lawful next digits, and its laws in and out.
use Rattle.std.specs.Prelude.{ℕ, ◌+◌, ◌/◌, ◌%◌, ◌≤◌, ◌≡◌, refl, cond, List, [], ◌∷◌, ◌++◌, eqb, length, get_or, take, replicate}
use Rattle.std.proofs.Common.{sym, ap, ap₂, subst, ⊎_elim, arith, take-take}
use Rattle.demand.specs.Each.{Each}
use Rattle.demand.specs.Numbers.{VALUE, TIME}
use Rattle.demand.specs.Laws.Content.{Position, Fits, none, more, Opens, free_fit, part_within}
use Rattle.text.specs.Bytes.{byte}
use Rattle.text.specs.Decimal.{number}
use Rattle.text.specs.Laws.Bytes.{in_range, range_in}
use Rattle.text.specs.Laws.Choice.{by_equal, either_way}
use Rattle.text.specs.Laws.Decimal.{number_digits, digits_in, digit_position, digit_from, DigitSets, digit_set, Bounded, bounded, bounds_in, bounds_out}
use Rattle.calendar.specs.declared.Time.{Time}
use Rattle.calendar.specs.Calendar.{LawfulTime, time_text, time_of}

-- the lawful next digits of a time: at most 2, after 2 at most 3; at most 5, then any
abbrev pub hour_second : List ℕ → ℕ
hour_second p = cond (eqb (get_or p 0 0) (byte "2")) (byte "3") (byte "9")

abbrev pub time_positions : List Position
time_positions =
    digit_from (λ p. byte "0") (λ p. byte "2") TIME
    ∷ digit_from (λ p. byte "0") hour_second TIME
    ∷ digit_from (λ p. byte "0") (λ p. byte "5") TIME
    ∷ digit_position TIME
    ∷ []

pub time_opens : Each Opens time_positions
time_opens =
    let ones : Opens (digit_from (λ p. byte "0") hour_second TIME) = λ p. (48, bounds_out _ hour_second (second p)) in
    ((λ p. (48, record { inside = refl; lawful = refl })), (ones, ((λ p. (48, record { inside = refl; lawful = refl })), ((λ p. (48, free_fit refl)), tt))))
  where
    second : (p : List ℕ) → Bounded 48 (hour_second p) 48
    second p =
        bounded (omega arith) (omega arith) (omega arith) (either_way {A = ℕ} 51 57 (48 ≤◌) (eqb (get_or p 0 0) 50) (omega arith) (omega arith))

-- two hour digits, each between its bounds, are an hour, and back
hour_in : (a b : ℕ) → Bounded 48 50 a → Bounded 48 (cond (eqb a 50) 51 57) b → number (a ∷ b ∷ []) ≤ 23
hour_in a b x y = ⊎_elim (λ u. omega arith) (λ u. omega arith) (by_equal {A = ℕ} 51 57 a 50)

minute_in : (a b : ℕ) → Bounded 48 53 a → (48 ≤ b) × (b ≤ 57) → number (a ∷ b ∷ []) ≤ 59
minute_in a b x y = omega arith

-- the time that a content's front stands for
pub time_front : (c : List ℕ) → 4 ≤ length c → time_of (take 4 c) ≡ time_of c
time_front c l =
    let hour = ap number (take-take 2 4 c (omega arith)) in
    let minute = ap number (part_within c 2 2 4 (omega arith) (omega arith)) in
    λ i. record { hour = hour i; minute = minute i }

-- four digits are the writing of the time that they stand for
pub time_written : {p c : List ℕ} → Fits (replicate 4 (digit_position VALUE)) p c → c ≡ time_text (time_of c)
time_written (more f0 (more f1 (more f2 (more f3 none)))) =
    ap₂ ◌++◌ (digits_in 2 VALUE (more f0 (more f1 none))).1 (digits_in 2 VALUE (more f2 (more f3 none))).1

pub time_in : {c : List ℕ} → Fits time_positions [] c → (t : Time) × LawfulTime t × (c ≡ time_text t)
time_in (more {b = b0} f0 (more {b = b1} f1 (more {b = b2} f2 (more {b = b3} f3 none)))) = (
  time_of (b0 ∷ b1 ∷ b2 ∷ b3 ∷ []),
  record {
    last_hour = hour_in b0 b1 (bounds_in _ _ f0) (bounds_in _ hour_second f1);
    last_minute = minute_in b2 b3 (bounds_in _ _ f2)
        (in_range "0" "9" b3 f3.inside);
  },
  time_written {p = []} (more (free_fit f0.inside) (more (free_fit f1.inside) (more (free_fit f2.inside) (more (free_fit f3.inside) none)))),
)

hour_out : (n : ℕ) → n ≤ 23 → Bounded 48 50 (48 + n / 10 % 10) × Bounded 48 (cond (eqb (48 + n / 10 % 10) 50) 51 57) (48 + n / 1 % 10)
hour_out n h = (
  bounded (omega arith) (omega arith) (omega arith) (omega arith),
  bounded (omega arith) (omega arith) (omega arith)
      (⊎_elim (λ c. rw c.1 (omega arith)) (λ c. rw c.1 (omega arith)) (by_equal {A = ℕ} 51 57 (48 + n / 10 % 10) 50)),
)

pub time_out : (t : Time) → LawfulTime t → Fits time_positions [] (time_text t)
time_out t h =
    let (f, g) = hour_out t.hour h.last_hour in
    let m : Bounded 48 53 (48 + t.minute / 10 % 10) = bounded (omega arith) (omega arith) (omega arith) (omega arith) in
    more (bounds_out _ _ f) (more (bounds_out _ hour_second g)
    (more (bounds_out _ _ m) (more (free_fit (range_in "0" "9" (48 + t.minute / 1 % 10) (omega arith) (omega arith))) none)))

-- four digits that stand for a lawful time fit
pub time_fits : {p c : List ℕ} → Fits (replicate 4 (digit_position VALUE)) p c → LawfulTime (time_of c) → Fits time_positions [] c
time_fits {c = c} fs h = subst (Fits time_positions []) (sym (time_written fs)) (time_out (time_of c) h)

pub time_back : (t : Time) (s : List ℕ) → LawfulTime t → time_of (time_text t ++ s) ≡ t
time_back t s h =
    let hour = number_digits 2 t.hour (omega arith) in
    let minute = number_digits 2 t.minute (omega arith) in
    λ i. record { hour = hour i; minute = minute i }

pub time_digits : DigitSets time_positions
time_digits = (digit_set, (digit_set, (digit_set, (digit_set, tt))))
