-- The product code's content: the E rule byte by byte, in and out.
use Rattle.std.specs.Prelude.{ℕ, ◌≡◌, refl, Bool, true, false, cond, ◌||◌, List, [], ◌∷◌, ◌++◌, eqb, get_or, replicate}
use Rattle.std.proofs.Common.{⊎_elim, arith, eqb-true, eq-eqb, ne_eqb}
use Rattle.demand.specs.Each.{Each}
use Rattle.demand.specs.Numbers.{VALUE}
use Rattle.demand.specs.Laws.Content.{Position, Fits, none, more, Opens, free, free_fit, free_opens}
use Rattle.text.specs.Bytes.{byte, upper, lower, upper_digit, lower_digit, upper_lower_digit}
use Rattle.text.specs.Laws.Bytes.{either, in_range}
use Rattle.text.specs.Laws.Choice.{by_equal, either_way}
use Rattle.label.specs.declared.Product.{Product}
use Rattle.structure.specs.Structures.{product_text, LawfulProduct, Division, undivided, divided, subdivided}

-- which d goes on after the product letter, and which s after the letter and d
abbrev pub d_goes : ℕ → ℕ → Bool
d_goes letter d = cond (eqb letter (byte "E")) (upper d || eqb d (byte "0")) true

abbrev pub s_goes : ℕ → ℕ → ℕ → Bool
s_goes letter d s = cond (eqb letter (byte "E")) (cond (eqb d (byte "0")) (eqb s (byte "0")) (lower s || eqb s (byte "0"))) true

abbrev pub d_position : Position
d_position = record { set = upper_digit; rule = λ p b. d_goes (get_or p 0 0) b; refusal = VALUE }

abbrev pub s_position : Position
s_position = record { set = lower_digit; rule = λ p b. s_goes (get_or p 0 0) (get_or p 6 0) b; refusal = VALUE }

abbrev pub product_positions : List Position
product_positions = free upper VALUE ∷ (replicate 4 (free upper_digit VALUE) ++ free upper_lower_digit VALUE ∷ d_position ∷ s_position ∷ [])

pub product_opens : Each Opens product_positions
product_opens =
    let o = free_opens upper_digit VALUE 48 refl in
    let t = free_opens upper_lower_digit VALUE 48 refl in
    let d : Opens d_position = λ p. (48, record { inside = refl; lawful = either_way true true (◌≡ true) (eqb (get_or p 0 0) 69) refl refl }) in
    let s : Opens s_position = λ p. (48, record { inside = refl; lawful = zero_goes (get_or p 0 0) (get_or p 6 0) }) in
    (free_opens upper VALUE 65 refl, (o, (o, (o, (o, (t, (d, (s, tt))))))))
  where
    zero_goes : (letter d : ℕ) → s_goes letter d 48 ≡ true
    zero_goes letter d = either_way _ true (◌≡ true) (eqb letter 69) (either_way true true (◌≡ true) (eqb d 48) refl refl) refl

-- no upper letter is 0
upper_not_zero : (d : ℕ) → upper d ≡ true → eqb d 48 ≡ false
upper_not_zero d u = let (lo, hi) = in_range "A" "Z" d u in ne_eqb d 48 (λ e. omega arith)

pub division_in : (letter d s : ℕ) → d_goes letter d ≡ true → s_goes letter d s ≡ true → letter ≡ byte "E" → Division d s
division_in letter d s g h e =
    let division : (upper d || eqb d 48) ≡ true = rw e at g in
    let subdivision : cond (eqb d 48) (eqb s 48) (lower s || eqb s 48) ≡ true = rw e at h in
    ⊎_elim
    (λ u.
    let either-s : (lower s || eqb s 48) ≡ true = rw (upper_not_zero d u) at subdivision in
    ⊎_elim (λ l. subdivided u l) (λ z. divided u (eqb-true s 48 z)) (either (lower s) (eqb s 48) either-s))
    (λ z. let zero : eqb s 48 ≡ true = rw z at subdivision in undivided (eqb-true d 48 z) (eqb-true s 48 zero))
    (either (upper d) (eqb d 48) division)

division_fits : {d s : ℕ} → Division d s → ((upper d || eqb d 48) ≡ true) × (cond (eqb d 48) (eqb s 48) (lower s || eqb s 48) ≡ true)
division_fits (undivided p q) = rw (p, q) (refl, refl)
division_fits {d} (divided u q) = rw (q, u) (refl, either_way true true (◌≡ true) (eqb d 48) refl refl)
division_fits {d} (subdivided u l) = rw (upper_not_zero d u, u, l) (refl, refl)

pub division_out : (letter d s : ℕ) → (letter ≡ byte "E" → Division d s) → (d_goes letter d ≡ true) × (s_goes letter d s ≡ true)
division_out letter d s h =
    ⊎_elim
    (λ c. rw (eq-eqb letter 69 c.0) (division_fits (h c.0)))
    (λ c. rw (ne_eqb letter 69 c.0) (refl, refl))
    (by_equal true true letter 69)

pub product_in : {c : List ℕ} → Fits product_positions [] c
    → (p : Product) × LawfulProduct p × (c ≡ product_text p)
product_in (more {b = b0} f0 (more {b = b1} f1 (more {b = b2} f2 (more {b = b3} f3
    (more {b = b4} f4 (more {b = b5} f5 (more {b = b6} f6 (more {b = b7} f7 none)))))))) = (
      record { letter = b0; o0 = b1; o1 = b2; o2 = b3; o3 = b4; t = b5; d = b6; s = b7 },
      record {
        sets = (f0.inside, (f1.inside, (f2.inside, (f3.inside, (f4.inside, (f5.inside, (f6.inside, (f7.inside, tt))))))));
        division = division_in b0 b6 b7 f6.lawful f7.lawful;
      },
      refl,
    )

pub product_out : (p : Product) → LawfulProduct p
    → Fits product_positions [] (product_text p)
product_out p h =
    let (division, subdivision) = division_out p.letter p.d p.s h.division in
    let (letter, (o0, (o1, (o2, (o3, (t, (d, (s, end)))))))) = h.sets in
    more (free_fit letter) (more (free_fit o0) (more (free_fit o1) (more (free_fit o2) (more (free_fit o3) (more (free_fit t)
    (more record { inside = d; lawful = division } (more record { inside = s; lawful = subdivision } none)))))))

-- the product code that the identifier's second byte and a content stand for
abbrev pub product_of : List ℕ → Product
product_of c =
    record {
      letter = get_or c 1 0;
      o0 = get_or c 2 0;
      o1 = get_or c 3 0;
      o2 = get_or c 4 0;
      o3 = get_or c 5 0;
      t = get_or c 6 0;
      d = get_or c 7 0;
      s = get_or c 8 0;
    }
