-- W-210: what follows from the minute count: one answer, swapping, going by way of a third, the sign, and minute after minute.
use Rattle.std.specs.Prelude.{ℕ, ◌+◌, ◌≤◌, ◌<◌, ◌≡◌, ◌⊎◌, pos, neg_ℤ, ◌+ℤ◌, ◌-ℤ◌, ◌<ℤ◌}
use Rattle.std.proofs.Common.{sym, ap, ap₂, ◌∙◌}
use Rattle.calendar.specs.declared.Expiry.{Expiry}
use Rattle.calendar.specs.Calendar.{LAST_YEAR}
use Rattle.minutes.specs.declared.Moment.{Moment}
use Rattle.minutes.specs.declared.Left.{Left}
use Rattle.minutes.specs.Minutes.{moment_of, LawfulMoment, minute_count, minutes_from, MinutesLeft}
use Rattle.minutes.specs.Order.{expiry_at, Earlier, next}
use Rattle.minutes.specs.Laws.Count as count
use Rattle.minutes.specs.Laws.Order as order
use Rattle.minutes.specs.Laws.Difference as difference
use Rattle.minutes.specs.Laws.Answer as answer

-- `minutes_left`'s contract leaves one answer
pub one_answer : (now : Moment) (expiry : Expiry) (q r : Left) → MinutesLeft now expiry q → MinutesLeft now expiry r → q ≡ r
one_answer now expiry q r x y = answer.one_answer x y

-- "two minute counts below 530 million"
pub count_below : (m : Moment) → LawfulMoment m → minute_count m < 530000000
count_below m h = count.count_below h

-- the count goes up with time
pub count_rises : (a b : Moment) → LawfulMoment a → LawfulMoment b → Earlier a b → minute_count a < minute_count b
count_rises a b h g e = order.earlier_less h g e

-- of two moments one is earlier or they are the same
pub in_order : (a b : Moment) → Earlier a b ⊎ (Earlier b a ⊎ (a ≡ b))
in_order a b = order.in_order a b

-- a minute later the count is one more, across hours, days, years and leap days
pub count_next : (m : Moment) → LawfulMoment m → minute_count (next m) ≡ minute_count m + 1
count_next m h = order.next_more h

-- and the next minute of a lawful moment is lawful, up to the end of 2899
pub next_lawful : (m : Moment) → LawfulMoment m → (next m).date.year ≤ LAST_YEAR → LawfulMoment (next m)
next_lawful m h l = order.next_lawful h l

-- "for lawful moments swapping the two negates the answer"
pub swapped : (a b : Moment) (r s : Left) → LawfulMoment a → LawfulMoment b → MinutesLeft a (expiry_at b) r → MinutesLeft b (expiry_at a) s
    → s.minutes ≡ neg_ℤ r.minutes
swapped a b r s h g x y =
    answer.minutes_are g h y ∙ difference.turned (minute_count b) (minute_count a) ∙ ap neg_ℤ (sym (answer.minutes_are h g x))

-- "and going by way of a third adds up"
pub by_way_of : (a b : Moment) (expiry : Expiry) (r s t : Left) → LawfulMoment a → LawfulMoment b → LawfulMoment (moment_of expiry)
    → MinutesLeft a (expiry_at b) r → MinutesLeft b expiry s → MinutesLeft a expiry t → r.minutes +ℤ s.minutes ≡ t.minutes
by_way_of a b expiry r s t h g k x y z =
    ap₂ ◌+ℤ◌ (answer.minutes_are h g x) (answer.minutes_are g k y)
    ∙ difference.through (minute_count a) (minute_count b) (minute_count (moment_of expiry))
    ∙ sym (answer.minutes_are h k z)

module _ (now : Moment) (expiry : Expiry) (r : Left) (h : LawfulMoment now) (g : LawfulMoment (moment_of expiry)) (x : MinutesLeft now expiry r) where
  -- minutes are left before the expiry
  pub not_passed : Earlier now (moment_of expiry) → pos 0 <ℤ r.minutes
  not_passed e = rw (answer.minutes_are h g x) (difference.over_zero _ _ (order.earlier_less h g e))

  -- "zero at the same minute"
  pub same_minute : now ≡ moment_of expiry → r.minutes ≡ pos 0
  same_minute e =
      answer.minutes_are h g x ∙ ap (λ (m : Moment). minutes_from m (moment_of expiry)) e ∙ difference.no_difference (minute_count (moment_of expiry))

  -- and only there
  pub zero_only : r.minutes ≡ pos 0 → now ≡ moment_of expiry
  zero_only e = sym (order.same_count g h (difference.same_number _ _ (sym (answer.minutes_are h g x) ∙ e)))

  -- "below zero once it has passed"
  pub passed : Earlier (moment_of expiry) now → r.minutes <ℤ pos 0
  passed e = rw (answer.minutes_are h g x) (difference.under_zero _ _ (order.earlier_less g h e))

  -- an expiry one minute later leaves one minute more
  pub minute_later : (s : Left) → LawfulMoment (next (moment_of expiry)) → MinutesLeft now (expiry_at (next (moment_of expiry))) s
      → s.minutes ≡ r.minutes +ℤ pos 1
  minute_later s k y =
      answer.minutes_are h k y
      ∙ ap (λ (n : ℕ). pos n -ℤ pos (minute_count now)) (order.next_more g)
      ∙ difference.one_more (minute_count (moment_of expiry)) (minute_count now)
      ∙ ap (◌+ℤ pos 1) (sym (answer.minutes_are h g x))
