-- What the code's tests say of a moment, and the one answer by them.
use Rattle.std.specs.Prelude.{ℕ, ◌≡◌, refl, Bool, true, false, not, ◌&&◌, ◌≢◌, leb, ℤ}
use Rattle.std.proofs.Common.{sym, ap, ◌∙◌, arith, SFits, to_z, of_z}
use Rattle.std.specs.Int.{w32}
use Rattle.std.proofs.lemmas.Int.{to_z-of_z}
use Rattle.demand.specs.Numbers.{ACCEPTED, VALUE, DAY, TIME}
use Rattle.text.specs.Decides.{Decides}
use Rattle.text.specs.Laws.Decides.{decides_both, decides_as, decides_most, decided_not, decided}
use Rattle.calendar.specs.Calendar.{FIRST_YEAR, LAST_YEAR, LawfulDate, LawfulTime}
use Rattle.minutes.specs.declared.Moment.{Moment}
use Rattle.calendar.specs.declared.Expiry.{Expiry}
use Rattle.minutes.specs.declared.Left.{Left}
use Rattle.minutes.specs.Minutes.{moment_of, LawfulYear, LawfulMoment, minutes_from, Refuses, for_year, for_day, for_time, refused}
use Rattle.minutes.specs.Minutes.{MinutesLeft, left, now_refused, expiry_refused}
use Rattle.minutes.specs.Laws.Count.{date_year}

-- the number of a moment
pub data Judged (m : Moment) (n : ℕ) : Type 0 where
  lawful : LawfulMoment m → n ≡ ACCEPTED → Judged m n
  unlawful : Refuses m n → Judged m n

pub year_tells : (y : ℕ) → Decides (leb FIRST_YEAR y && leb y LAST_YEAR) (LawfulYear y)
year_tells y =
    decides_as (decides_both (decides_most FIRST_YEAR y) (decides_most y LAST_YEAR)) (λ h. record { first = h.0; last = h.1 }) (λ h. (h.first, h.last))

-- by the tests, in their order
module _ {m : Moment} {t : Bool} (x : Decides t (LawfulYear m.date.year)) where
  pub no_year : not t ≡ true → Judged m VALUE
  no_year e = unlawful (for_year (decided_not x e) refl)

  pub no_day : {u : Bool} → not t ≡ false → Decides u (LawfulDate m.date) → not u ≡ true → Judged m DAY
  no_day e y f = unlawful (for_day (decided x e) (decided_not y f) refl)

module _ {m : Moment} {t u : Bool} (x : Decides t (LawfulDate m.date)) (e : not t ≡ false) (y : Decides u (LawfulTime m.time)) where
  pub no_time : not u ≡ true → Judged m TIME
  no_time f = unlawful (for_time (decided x e) (decided_not y f) refl)

  pub a_moment : not u ≡ false → Judged m ACCEPTED
  a_moment f = lawful record { date = decided x e; time = decided y f } refl

pub ruleset judging = (no_year, no_day, no_time, a_moment)

-- a moment is lawful or refused, and has one number
module _ {m : Moment} {n : ℕ} where
  pub is_refused : Judged m n → n ≢ ACCEPTED → Refuses m n
  is_refused (lawful h e) f = absurd (f e)
  is_refused (unlawful r) f = r

  pub is_lawful : Judged m n → n ≡ ACCEPTED → LawfulMoment m
  is_lawful (lawful h e) f = h
  is_lawful (unlawful (for_year h e)) f = absurd (omega arith)
  is_lawful (unlawful (for_day y h e)) f = absurd (omega arith)
  is_lawful (unlawful (for_time d h e)) f = absurd (omega arith)

  pub not_both : LawfulMoment m → Refuses m n → ⊥
  not_both x (for_year h e) = h (date_year x.date)
  not_both x (for_day y h e) = h x.date
  not_both x (for_time d h e) = h x.time

pub one_number : {m : Moment} {n k : ℕ} → Refuses m n → Refuses m k → n ≡ k
one_number (for_year h e) (for_year g f) = e ∙ sym f
one_number (for_year h e) (for_day y g f) = absurd (h y)
one_number (for_year h e) (for_time d g f) = absurd (h (date_year d))
one_number (for_day y h e) (for_year g f) = absurd (g y)
one_number (for_day y h e) (for_day z g f) = e ∙ sym f
one_number (for_day y h e) (for_time d g f) = absurd (h d)
one_number (for_time d h e) (for_year g f) = absurd (g (date_year d))
one_number (for_time d h e) (for_day y g f) = absurd (g d)
one_number (for_time d h e) (for_time c g f) = e ∙ sym f

-- the code's answers
pub refuses_now : {now : Moment} {expiry : Expiry} {n : ℕ} {r : Left} → Judged now n → n ≢ ACCEPTED → r ≡ refused 0 n → MinutesLeft now expiry r
refuses_now x h e = now_refused (is_refused x h) e

module _ {now m : Moment} {expiry : Expiry} {k n : ℕ} (x : Judged now k) (h : k ≡ ACCEPTED) (is : m ≡ moment_of expiry) (y : Judged m n) where
  pub refuses_expiry : {r : Left} → n ≢ ACCEPTED → r ≡ refused 1 n → MinutesLeft now expiry r
  refuses_expiry g e = expiry_refused (is_lawful x h) (rw is at (is_refused y g)) e

  pub tells_left : {z : ℤ} → n ≡ ACCEPTED → SFits w32 z → z ≡ minutes_from now m
      → MinutesLeft now expiry record { place = 0; minutes = to_z w32 (of_z w32 z); refusal = ACCEPTED }
  tells_left {z} g f e = left (is_lawful x h) (rw is at (is_lawful y g)) (rw (to_z-of_z w32 z f, e, is))

pub ruleset answering = (refuses_now, refuses_expiry, tells_left)

module _ {now : Moment} {expiry : Expiry} where
  pub one_answer : {q r : Left} → MinutesLeft now expiry q → MinutesLeft now expiry r → q ≡ r
  one_answer (left h g e) (left k l f) = e ∙ sym f
  one_answer (left h g e) (now_refused x f) = absurd (not_both h x)
  one_answer (left h g e) (expiry_refused k x f) = absurd (not_both g x)
  one_answer (now_refused x e) (left k l f) = absurd (not_both k x)
  one_answer (now_refused x e) (now_refused y f) = e ∙ ap (refused 0) (one_number x y) ∙ sym f
  one_answer (now_refused x e) (expiry_refused k y f) = absurd (not_both k x)
  one_answer (expiry_refused h x e) (left k l f) = absurd (not_both l x)
  one_answer (expiry_refused h x e) (now_refused y f) = absurd (not_both h y)
  one_answer (expiry_refused h x e) (expiry_refused k y f) = e ∙ ap (refused 1) (one_number x y) ∙ sym f

  -- between lawful moments it is the difference
  pub minutes_are : {r : Left} → LawfulMoment now → LawfulMoment (moment_of expiry) → MinutesLeft now expiry r
      → r.minutes ≡ minutes_from now (moment_of expiry)
  minutes_are h g x = ap (λ (r : Left). r.minutes) (one_answer x (left h g refl))
