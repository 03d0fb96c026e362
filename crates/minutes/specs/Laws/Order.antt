-- The minute count goes up with time: in the order of moments, and by one from each minute to the next.
use Rattle.std.specs.Prelude.{ℕ, ◌+◌, ◌≤◌, ◌<◌, ◌≡◌, cond, ◌⊎◌, ltb}
use Rattle.std.proofs.Common.{sym, ap, subst, inl, inr, ⊎_elim, arith}
use Rattle.text.specs.Laws.Choice.{by_less}
use Rattle.calendar.specs.Calendar.{LAST_YEAR, days, LawfulDate}
use Rattle.calendar.specs.declared.Date.{Date}
use Rattle.minutes.specs.declared.Moment.{Moment}
use Rattle.minutes.specs.Minutes.{LawfulMoment, days_before, minute_count}
use Rattle.minutes.specs.Order.{Earlier, by_year, by_day, by_hour, by_minute, at, after, next}
use Rattle.minutes.specs.Laws.Count.{year_later, years_rise}

module _ {a b : Moment} (x : LawfulMoment a) (y : LawfulMoment b) where
  same_date : a.date ≡ b.date → days_before a.date.year + a.date.day ≡ days_before b.date.year + b.date.day
  same_date e = ap (λ (d : Date). days_before d.year + d.day) e

  pub earlier_less : Earlier a b → minute_count a < minute_count b
  earlier_less (by_year l) = omega (arith, x.date, x.time, y.date, years_rise x.date.first_year l)
  earlier_less (by_day e l) = omega (arith, x.date, x.time, y.date, ap days_before e)
  earlier_less (by_hour e l) = omega (arith, x.time, same_date e)
  earlier_less (by_minute e f l) = omega (arith, same_date e)

-- of two numbers one is less or they are equal
compare : {P : Type 0} (m n : ℕ) → (m < n → P) → (n < m → P) → (m ≡ n → P) → P
compare m n f g h = ⊎_elim (λ l. f l.0) (λ l. ⊎_elim (λ k. g k.0) (λ k. h (omega arith)) (by_less m m n m)) (by_less m m m n)

-- of two moments one is earlier or they are the same
pub in_order : (a b : Moment) → Earlier a b ⊎ (Earlier b a ⊎ (a ≡ b))
in_order a b =
    compare a.date.year b.date.year (λ l. inl (by_year l)) (λ l. inr (inl (by_year l)))
    (λ year.
    compare a.date.day b.date.day (λ l. inl (by_day year l)) (λ l. inr (inl (by_day (sym year) l)))
    (λ day.
    let date : a.date ≡ b.date = λ i. record { year = year i; day = day i } in
    compare a.time.hour b.time.hour (λ l. inl (by_hour date l)) (λ l. inr (inl (by_hour (sym date) l)))
    (λ hour.
    compare a.time.minute b.time.minute (λ l. inl (by_minute date hour l)) (λ l. inr (inl (by_minute (sym date) (sym hour) l)))
    (λ minute. inr (inr (λ i. record { date = date i; time = record { hour = hour i; minute = minute i } }))))))

-- so one count is one moment
pub same_count : {a b : Moment} → LawfulMoment a → LawfulMoment b → minute_count a ≡ minute_count b → a ≡ b
same_count {a} {b} x y e =
    ⊎_elim (λ l. let less = earlier_less x y l in absurd (omega arith))
    (⊎_elim (λ l. let less = earlier_less y x l in absurd (omega arith)) (λ is. is))
    (in_order a b)

each_way : {A : Type 0} (P : A → Type 0) (u v : A) (x k : ℕ) → (x < k → P u) → (k ≤ x → P v) → P (cond (ltb x k) u v)
each_way P u v x k f g =
    ⊎_elim (λ w. subst P (sym w.1) (f w.0)) (λ w. subst P (sym w.1) (g w.0)) (by_less u v x k)

-- what holds of each of the four minutes that may come next holds of the next
next_by : (P : Moment → Type 0) (y d h m : ℕ) → (m < 59 → P (at y d h (m + 1))) → (59 ≤ m → h < 23 → P (at y d (h + 1) 0))
    → (59 ≤ m → 23 ≤ h → d < days y → P (at y (d + 1) 0 0))
    → (59 ≤ m → 23 ≤ h → days y ≤ d → P (at (y + 1) 1 0 0)) → P (after y d h m)
next_by P y d h m minute hour day year =
    each_way P _ _ m 59 minute (λ k. each_way P _ _ h 23 (hour k) (λ l. each_way P _ _ d (days y) (day k l) (year k l)))

at_midnight : (d : Date) → LawfulDate d → LawfulMoment record { date = d; time = record { hour = 0; minute = 0 } }
at_midnight d h = record { date = h; time = record { last_hour = omega arith; last_minute = omega arith } }

module _ {m : Moment} (x : LawfulMoment m) where
  pub next_more : minute_count (next m) ≡ minute_count m + 1
  next_more =
      next_by (λ n. minute_count n ≡ minute_count m + 1) m.date.year m.date.day m.time.hour m.time.minute
      (λ j. omega arith)
      (λ j k. omega (arith, x.time))
      (λ j k l. omega (arith, x.time, x.date))
      (λ j k l. omega (arith, x.time, x.date, year_later m.date.year x.date.first_year))

  pub next_lawful : (next m).date.year ≤ LAST_YEAR → LawfulMoment (next m)
  next_lawful =
      next_by (λ n. n.date.year ≤ LAST_YEAR → LawfulMoment n) m.date.year m.date.day m.time.hour m.time.minute
      (λ j e. record { date = x.date; time = record { last_hour = x.time.last_hour; last_minute = omega arith } })
      (λ j k e. record { date = x.date; time = record { last_hour = omega arith; last_minute = omega arith } })
      (λ j k l e. at_midnight _ record { first_year = x.date.first_year; last_year = e; first_day = omega arith; last_day = omega arith })
      (λ j k l e. at_midnight _ record { first_year = omega (arith, x.date); last_year = e; first_day = omega arith; last_day = omega arith })
