-- The two flags behind a donation number: which digits go on to lawful flags, in and out.
use Rattle.std.specs.Prelude.{ℕ, ◌+◌, ◌/◌, ◌%◌, ◌^◌, ◌≤◌, ◌<◌, ◌≡◌, refl, Bool, true, ◌||◌, List, [], ◌∷◌, ◌++◌, eqb, ltb, get_or, take, length}
use Rattle.std.proofs.Common.{ap, ⊎_elim, arith, take_all, take_at, eqb-true, eq-eqb, ltb-true, lt-ltb}
use Rattle.std.proofs.Math.Seq.{get_or-append_seam}
use Rattle.demand.specs.Each.{Each}
use Rattle.demand.specs.Numbers.{VALUE, CHECK}
use Rattle.demand.specs.Laws.Content.{Position, Fit, Fits, none, more, Opens, free_fit}
use Rattle.text.specs.Bytes.{byte, digit}
use Rattle.text.specs.Decimal.{digits, number}
use Rattle.text.specs.Laws.Bytes.{either, either_right, in_range, range_in}
use Rattle.text.specs.Laws.Decimal.{digits_in, digits_out}
use Rattle.check37.specs.Check.{check_worth}
use Rattle.label.specs.declared.Donation.{Donation}
use Rattle.label.specs.declared.Flags.{Flags}
use Rattle.structure.specs.Laws.Donation.{decimal}
use Rattle.structure.specs.Donation.{donation_text, LawfulFlags, plain, carries_check}

-- the digits that go on where the number's own check has this worth: after a first one below 6 every second one
abbrev pub tens_goes : ℕ → ℕ → Bool
tens_goes worth b = ltb b (byte "6") || eqb b (byte "6" + worth / 10)

abbrev pub ones_goes : ℕ → ℕ → ℕ → Bool
ones_goes worth tens b = ltb tens (byte "6") || eqb b (byte "0" + worth % 10)

-- the thirteen characters of the number stand in front
abbrev pub own_worth : List ℕ → ℕ
own_worth p = check_worth (take 13 p)

abbrev pub tens_position : Position
tens_position = record { set = digit; rule = λ p b. tens_goes (own_worth p) b; refusal = CHECK }

abbrev pub ones_position : Position
ones_position = record { set = digit; rule = λ p b. ones_goes (own_worth p) (get_or p 13 0) b; refusal = CHECK }

abbrev pub flag_positions : List Position
flag_positions = tens_position ∷ ones_position ∷ []

pub flag_opens : Each Opens flag_positions
flag_opens = ((λ p. (48, record { inside = refl; lawful = refl })), (own, tt))
  where
    own : Opens ones_position
    own p =
        let b = 48 + own_worth p % 10 in
        let hi : b ≤ 57 = omega arith in
        (b, record { inside = range_in "0" "9" b (omega arith) hi; lawful = either_right (ltb (get_or p 13 0) 54) (eqb b b) (eq-eqb b b refl) })

-- the number's own worth and the first flag, as the second one sees them
module _ (p : List ℕ) (long : length p ≡ 13) (t : ℕ) where
  own_first : own_worth p ≡ check_worth p
  own_first = ap check_worth (take_all 13 p (omega arith))

  own_second : own_worth (p ++ t ∷ []) ≡ check_worth p
  own_second = ap check_worth (take_at p (t ∷ []) 13 long)

  first_flag : get_or (p ++ t ∷ []) 13 0 ≡ t
  first_flag = rw (← long) (get_or-append_seam p t [] 0)

pub flags_in : (d : Donation) {c : List ℕ} → Fits flag_positions (donation_text d) c
    → LawfulFlags d record { number = number c } × (c ≡ digits 2 (number c))
flags_in d (more {b = t} f (more {b = u} g none)) =
    let p = donation_text d in
    let w = check_worth p in
    let (lo, hi) = in_range "0" "9" t f.inside in
    let (lo', hi') = in_range "0" "9" u g.inside in
    let tens : tens_goes w t ≡ true = rw (own_first p refl t) at f.lawful in
    let ones : ones_goes w t u ≡ true = rw (own_second p refl t, first_flag p refl t) at g.lawful in
    let few : t < 54 → LawfulFlags d record { number = number (t ∷ u ∷ []) } = λ l. plain (omega arith) in
    let own : t ≡ 54 + w / 10 → u ≡ 48 + w % 10 → LawfulFlags d record { number = number (t ∷ u ∷ []) } = λ e i. carries_check (omega arith) in (
      ⊎_elim (λ l. few (ltb-true t 54 l))
          (λ e. ⊎_elim (λ l. few (ltb-true t 54 l)) (λ i. own (eqb-true t _ e) (eqb-true u _ i)) (either _ _ ones)) (either _ _ tens),
      (digits_in 2 CHECK {p = []} (more (free_fit f.inside) (more (free_fit g.inside) none))).1,
    )

-- two digits that go on fit
pub flags_fit : {p : List ℕ} {t u : ℕ} → length p ≡ 13 → Fits (decimal 2) p (t ∷ u ∷ []) → tens_goes (check_worth p) t ≡ true
    → ones_goes (check_worth p) t u ≡ true → Fits flag_positions p (t ∷ u ∷ [])
flags_fit {p} {t} {u} long (more f (more g none)) x y =
    let tens : Fit tens_position p t = record { inside = f.inside; lawful = rw (own_first p long t) x } in
    let ones : Fit ones_position (p ++ t ∷ []) u = record { inside = g.inside; lawful = rw (own_second p long t, first_flag p long t) y } in
    more tens (more ones none)

pub flags_out : (d : Donation) (f : Flags) → LawfulFlags d f → Fits flag_positions (donation_text d) (digits 2 f.number)
flags_out d f h = let (x, y) = goes h in flags_fit refl (digits_out 2 VALUE (donation_text d) f.number) x y
  where
    w : ℕ
    w = check_worth (donation_text d)

    t : ℕ
    t = 48 + f.number / 10 ^ 1 % 10

    u : ℕ
    u = 48 + f.number / 10 ^ 0 % 10

    goes : LawfulFlags d f → (tens_goes w t ≡ true) × (ones_goes w t u ≡ true)
    goes (plain few) = rw (lt-ltb t 54 (omega arith)) (refl, refl)
    goes (carries_check own) =
        let tens : t ≡ 54 + w / 10 = omega arith in
        let ones : u ≡ 48 + w % 10 = omega arith in (
          either_right (ltb t 54) (eqb t (54 + w / 10)) (eq-eqb t (54 + w / 10) tens),
          either_right (ltb t 54) (eqb u (48 + w % 10)) (eq-eqb u (48 + w % 10) ones),
        )

pub flags_small : {d : Donation} {f : Flags} → LawfulFlags d f → f.number < 100
flags_small (plain few) = omega arith
flags_small (carries_check own) = omega arith
