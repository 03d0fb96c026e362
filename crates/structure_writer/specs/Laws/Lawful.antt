-- Lawful structures as a test that code makes.
use Rattle.std.specs.Prelude.{ℕ, ◌+◌, ◌<◌, ◌≡◌, refl, Bool, false, true, ◌&&◌, leb, eqb}
use Rattle.std.proofs.Common.{sym, true≢false, arith}
use Rattle.text.specs.Bytes.{upper, upper_digit, upper_lower_digit, lower_digit, first_character, byte}
use Rattle.text.specs.Decides.{Decides}
use Rattle.text.specs.Laws.Decides.{◌and◌, decides_as, decides_itself, decides_most, decides_equal}
use Rattle.check37.specs.Check.{check_worth}
use Rattle.label.specs.declared.Structure.{Structure}
use Rattle.label.specs.declared.Donation.{Donation}
use Rattle.label.specs.declared.Flags.{Flags}
use Rattle.label.specs.declared.Groups.{Groups}
use Rattle.label.specs.declared.Product.{Product}
use Rattle.label.specs.declared.Testing.{Testing}
use Rattle.label.specs.declared.Lot.{Lot}
use Rattle.label.specs.declared.Antigens2001.{Antigens2001}
use Rattle.structure.specs.Donation.{LawfulDonation, LawfulFlags, plain, carries_check, donation_text}
use Rattle.structure.specs.Structures.{Lawful, Division, LawfulProduct, LawfulAntigens2001}
use Rattle.structure.specs.Laws.Product.{d_goes, s_goes, division_in, division_out}

-- a byte of its set
belongs : (t : Bool) → Decides t (t ≡ true)
belongs = decides_itself

abbrev pub donation_test : Donation → Bool
donation_test d = first_character d.first && leb d.facility 9999 && leb d.year 99 && leb d.sequence 999999

pub donation_tells : (d : Donation) → Decides (donation_test d) (LawfulDonation d)
donation_tells d =
    decides_as (belongs (first_character d.first) and decides_most d.facility 9999 and decides_most d.year 99 and decides_most d.sequence 999999)
    (λ h. record { first = h.0.0.0; facility = h.0.0.1; year = h.0.1; sequence = h.1 }) (λ h. (((h.first, h.facility), h.year), h.sequence))

-- flags over 59 are lawful exactly if they carry the number's own check
pub flags_tell : {d : Donation} {f : Flags} {worth : ℕ} → 59 < f.number → worth ≡ check_worth (donation_text d)
    → Decides (eqb f.number (60 + worth)) (LawfulFlags d f)
flags_tell {d} {f} {worth} over is = decides_as (decides_equal f.number (60 + worth)) (λ e. carries_check (rw is at e)) back
  where
    back : LawfulFlags d f → f.number ≡ 60 + worth
    back (plain few) = absurd (omega arith)
    back (carries_check own) = rw is own

abbrev pub groups_test : Groups → Bool
groups_test g = upper_lower_digit g.gg0 && upper_lower_digit g.gg1 && upper_lower_digit g.r

pub groups_tells : (g : Groups) → Decides (groups_test g) (Lawful (Structure.Groups g))
groups_tells g =
    decides_as (belongs (upper_lower_digit g.gg0) and belongs (upper_lower_digit g.gg1) and belongs (upper_lower_digit g.r))
    (λ h. (h.0.0, (h.0.1, (h.1, (refl, tt))))) (λ h. let (gg0, (gg1, (r, e))) = h in ((gg0, gg1), r))

-- the division of a product code by its letter
division_tells : (letter d s : ℕ) → Decides (d_goes letter d && s_goes letter d s) (letter ≡ byte "E" → Division d s)
division_tells letter d s =
    decides_as (belongs (d_goes letter d) and belongs (s_goes letter d s)) (λ h. division_in letter d s h.0 h.1) (division_out letter d s)

abbrev pub product_test : Product → Bool
product_test p =
    upper p.letter && upper_digit p.o0 && upper_digit p.o1 && upper_digit p.o2 && upper_digit p.o3 && upper_lower_digit p.t
    && upper_digit p.d && lower_digit p.s && (d_goes p.letter p.d && s_goes p.letter p.d p.s)

pub product_tells : (p : Product) → Decides (product_test p) (LawfulProduct p)
product_tells p =
    decides_as (belongs (upper p.letter) and belongs (upper_digit p.o0) and belongs (upper_digit p.o1) and belongs (upper_digit p.o2) and belongs
    (upper_digit p.o3) and belongs (upper_lower_digit p.t) and belongs (upper_digit p.d) and belongs (lower_digit p.s) and division_tells
    p.letter
    p.d p.s) (λ h. record {
      sets = (
        h.0.0.0.0.0.0.0.0,
        (h.0.0.0.0.0.0.0.1, (h.0.0.0.0.0.0.1, (h.0.0.0.0.0.1, (h.0.0.0.0.1, (h.0.0.0.1, (h.0.0.1, (h.0.1, tt))))))),
      );
      division = h.1;
    })
    (λ h. let (letter, (o0, (o1, (o2, (o3, (t, (d, (s, end)))))))) = h.sets in ((((((((letter, o0), o1), o2), o3), t), d), s), h.division))

abbrev pub testing_test : Testing → Bool
testing_test t = upper_digit t.c0 && upper_digit t.c1 && upper_digit t.c2 && upper_digit t.c3 && upper_digit t.c4

pub testing_tells : (t : Testing) → Decides (testing_test t) (Lawful (Structure.Testing t))
testing_tells t =
    decides_as (belongs (upper_digit t.c0) and belongs (upper_digit t.c1) and belongs (upper_digit t.c2) and belongs (upper_digit t.c3) and belongs
    (upper_digit t.c4)) (λ h. (h.0.0.0.0, (h.0.0.0.1, (h.0.0.1, (h.0.1, (h.1, tt))))))
    (λ h. let (c0, (c1, (c2, (c3, (c4, end))))) = h in ((((c0, c1), c2), c3), c4))

abbrev pub lot_test : Lot → Bool
lot_test l =
    upper_lower_digit l.c0 && upper_lower_digit l.c1 && upper_lower_digit l.c2 && upper_lower_digit l.c3 && upper_lower_digit l.c4
    && upper_lower_digit l.c5 && upper_lower_digit l.c6 && upper_lower_digit l.c7 && upper_lower_digit l.c8 && upper_lower_digit l.c9

pub lot_tells : (l : Lot) → Decides (lot_test l) (Lawful (Structure.Lot l))
lot_tells l =
    decides_as (belongs (upper_lower_digit l.c0) and belongs (upper_lower_digit l.c1) and belongs (upper_lower_digit l.c2) and belongs
    (upper_lower_digit l.c3) and belongs (upper_lower_digit l.c4) and belongs (upper_lower_digit l.c5) and belongs
    (upper_lower_digit l.c6) and belongs
    (upper_lower_digit l.c7) and belongs (upper_lower_digit l.c8) and belongs (upper_lower_digit l.c9))
    (λ h. (
      h.0.0.0.0.0.0.0.0.0,
      (
        h.0.0.0.0.0.0.0.0.1,
        (
          h.0.0.0.0.0.0.0.1,
          (
            h.0.0.0.0.0.0.1,
            (
              h.0.0.0.0.0.1,
              (
                h.0.0.0.0.1,
                (h.0.0.0.1, (h.0.0.1, (h.0.1, (h.1, tt)))),
              ),
            ),
          ),
        ),
      ),
    ))
    (λ h.
    let (c0, (c1, (c2, (c3, (c4, (c5, (c6, (c7, (c8, (c9, end)))))))))) = h in
    (((((((((c0, c1), c2), c3), c4), c5), c6), c7), c8), c9))

pub antigens_2001_tells : (a : Antigens2001) → Decides (leb a.results 9999999999999999 && leb a.ii 99) (LawfulAntigens2001 a)
antigens_2001_tells a =
    decides_as (decides_most a.results 9999999999999999 and decides_most a.ii 99) (λ h. record { results = h.0; ii = h.1 })
    (λ h. (h.results, h.ii))

-- the empty structure is not lawful
pub empty_tells : Decides false (Lawful Structure.Empty)
empty_tells = record { passed = λ e. true≢false (sym e); passes = λ h. absurd h }
