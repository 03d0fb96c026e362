-- 01, "The structures": the table's rows, how each value is written, and which values are lawful.
use Rattle.std.specs.Prelude.{ℕ, ◌+◌, ◌-◌, ◌≤◌, ◌≡◌, Bool, true, false, cond, eqb, length, get_or, take, drop, replicate}
use Prim.Native.String.{String}
use mathlib.Core.List.{List, [], ◌∷◌, ◌++◌, Memᴰ}
use Rattle.std.proofs.Math.Option.{Option, some, none}
use Rattle.demand.specs.Numbers.{VALUE, CHECK, DAY, TIME}
use Rattle.text.specs.Bytes.{byte, bytes, digit, upper, lower, upper_digit, lower_digit, upper_lower_digit, first_character, check_character}
use Rattle.text.specs.Decimal.{digits}
use Rattle.calendar.specs.Calendar.{LawfulDate, LawfulTime, date_text, time_text}
use Rattle.months.specs.Months.{LawfulDay}
use Rattle.flexible.specs.Flexible.{LawfulFlexible, type_text, day_text}
use Rattle.check37.specs.Check.{check_of}
use Rattle.label.specs.declared.Product.{Product}
use Rattle.label.specs.declared.Antigens2001.{Antigens2001}
use Rattle.label.specs.declared.Structure.{Structure}
use Rattle.label.specs.declared.Kind.{Kind}
use Rattle.label.specs.declared.Edition.{Edition}
use Rattle.structure.specs.Donation.{LawfulDonation, LawfulFlags, donation_text}

-- the kind of a structure; the empty one has none
abbrev pub kind_of : Structure → Option Kind
kind_of Structure.Empty = none
kind_of (Structure.Donation d f) = some Kind.Donation
kind_of (Structure.Groups g) = some Kind.Groups
kind_of (Structure.Product p) = some Kind.Product
kind_of (Structure.Expiry d) = some Kind.Expiry
kind_of (Structure.ExpiryTime d t) = some Kind.ExpiryTime
kind_of (Structure.Collection d) = some Kind.Collection
kind_of (Structure.CollectionTime d t) = some Kind.CollectionTime
kind_of (Structure.Production d) = some Kind.Production
kind_of (Structure.ProductionTime d t) = some Kind.ProductionTime
kind_of (Structure.Testing t) = some Kind.Testing
kind_of (Structure.Antigens a) = some Kind.Antigens
kind_of (Structure.Lot l) = some Kind.Lot
kind_of (Structure.Flexible f d t) = some Kind.Flexible
kind_of (Structure.Antigens2001 a) = some Kind.Antigens2001

-- W-212: 001 to 009 stand in both editions
abbrev pub both_have : List Kind
both_have =
    Kind.Donation
    ∷ Kind.Groups
    ∷ Kind.Product
    ∷ Kind.Expiry
    ∷ Kind.ExpiryTime
    ∷ Kind.Collection
    ∷ Kind.CollectionTime
    ∷ Kind.Production
    ∷ Kind.ProductionTime
    ∷ []

-- W-212: 01's kinds and W-202's; the edition of 2001 has them "without 010, 012, 018 and 023", and so without 031, "plus the antigen structure"
abbrev pub kinds_of : Edition → List Kind
kinds_of Edition.Current = both_have ++ Kind.Testing ∷ Kind.Antigens ∷ Kind.Lot ∷ Kind.Flexible ∷ []
kinds_of Edition.Of2001 = both_have ++ Kind.Antigens2001 ∷ []

-- the kinds of either edition
abbrev pub every_kind : List Kind
every_kind = kinds_of Edition.Current ++ Kind.Antigens2001 ∷ []

-- a kind is one of a list
abbrev pub Among : Kind → List Kind → Type 0
Among k ks = Memᴰ k ks

-- W-204: "a fatal byte among the day digits" is DAY, "one in the hour or minute is TIME"
abbrev pub date_refusals : List ℕ
date_refusals = replicate 3 VALUE ++ replicate 3 DAY

abbrev pub time_refusals : List ℕ
time_refusals = replicate 4 TIME

-- a row of 01's table
pub record Row : Type 0 where
  -- column "Number"; the papers give the antigen structure of 2001 none
  pub number : Option ℕ
  -- column "Identifier"; an 001's goes on with the first character of its content
  pub identifier : List ℕ
  -- column "Content" with the notes under the table: the set of each byte
  pub content : List (ℕ → Bool)
  -- the refusal number of a byte of its set where no lawful value goes on: CHECK at the two flags (W-203) and at K (W-212), DAY and TIME in dates
  -- and times, for an 031 DAY at month and day, VALUE "for the rest, a year digit of 031 among them"
  pub refusals : List ℕ

abbrev dated : ℕ → String → Row
dated n i = record { number = some n; identifier = bytes i; content = replicate 6 digit; refusals = date_refusals }

abbrev timed : ℕ → String → Row
timed n i = record { number = some n; identifier = bytes i; content = replicate 10 digit; refusals = date_refusals ++ time_refusals }

-- 01's table, with 031 (W-202) and the antigen structure of 2001 (W-212); an 023 is no kind, but Grammar's header
abbrev pub row : Kind → Row
row Kind.Donation =
    record {
      number = some 1;
      identifier = bytes "=";
      content = first_character ∷ replicate 14 digit;
      refusals = replicate 13 VALUE ++ replicate 2 CHECK;
    }
row Kind.Groups = record { number = some 2; identifier = bytes "=%"; content = replicate 4 upper_lower_digit; refusals = replicate 4 VALUE }
row Kind.Product =
    record {
      number = some 3;
      identifier = bytes "=<";
      content = upper ∷ (replicate 4 upper_digit ++ upper_lower_digit ∷ upper_digit ∷ lower_digit ∷ []);
      refusals = replicate 8 VALUE;
    }
row Kind.Expiry = dated 4 "=>"
row Kind.ExpiryTime = timed 5 "&>"
row Kind.Collection = dated 6 "=*"
row Kind.CollectionTime = timed 7 "&*"
row Kind.Production = dated 8 "=}"
row Kind.ProductionTime = timed 9 "&}"
row Kind.Testing = record { number = some 10; identifier = bytes "&("; content = replicate 5 upper_digit; refusals = replicate 5 VALUE }
row Kind.Antigens = record { number = some 12; identifier = bytes "=\\"; content = replicate 18 digit; refusals = replicate 18 VALUE }
row Kind.Lot = record { number = some 18; identifier = bytes "&)"; content = replicate 10 upper_lower_digit; refusals = replicate 10 VALUE }
row Kind.Flexible =
    record {
      number = some 31;
      identifier = bytes "=(";
      content = replicate 16 digit;
      refusals = replicate 8 VALUE ++ (replicate 4 DAY ++ time_refusals);
    }
row Kind.Antigens2001 =
    record {
      number = none;
      identifier = bytes "={";
      content = replicate 18 digit ++ check_character ∷ [];
      refusals = replicate 18 VALUE ++ CHECK ∷ [];
    }

-- column "Total bytes" follows
abbrev pub total_of : Kind → ℕ
total_of k = length (row k).identifier + length (row k).content

-- the number of a kind in C and in the bench's records: 01's, and 200 for the antigen structure of 2001 (W-212)
abbrev pub known_as : Option ℕ → ℕ
known_as none = 200
known_as (some n) = n

abbrev pub number_of : Kind → ℕ
number_of k = known_as (row k).number

-- two kinds are one if they have one number
abbrev pub is_kind : Kind → Kind → Bool
is_kind k l = eqb (number_of k) (number_of l)

-- the kind that has a number, among some
abbrev pub numbered : List Kind → ℕ → Option Kind
numbered [] n = none
numbered (k ∷ ks) n = cond (eqb n (number_of k)) (some k) (numbered ks n)

-- the number of what stands at a place; the empty structure has 0
abbrev pub number_or : Option Kind → ℕ
number_or none = 0
number_or (some k) = number_of k

abbrev pub number_in : Structure → ℕ
number_in x = number_or (kind_of x)

-- a label has these past the two bytes of an identifier: each byte's set, and its refusal number
abbrev pub sets : Kind → List (ℕ → Bool)
sets k = drop (2 - length (row k).identifier) (row k).content

abbrev pub set_at : Kind → ℕ → ℕ → Bool
set_at k i = get_or (sets k) i (λ b. false)

abbrev pub refusals : Kind → List ℕ
refusals k = drop (2 - length (row k).identifier) (row k).refusals

abbrev pub refused_at : Kind → ℕ → ℕ
refused_at k i = get_or (refusals k) i VALUE

-- W-212: "sixteen digits, two digits"
abbrev pub antigen_digits : Antigens2001 → List ℕ
antigen_digits a = digits 16 a.results ++ digits 2 a.ii

-- "product letter, oooo, t, d, s"
abbrev pub product_text : Product → List ℕ
product_text p = p.letter ∷ p.o0 ∷ p.o1 ∷ p.o2 ∷ p.o3 ∷ p.t ∷ p.d ∷ p.s ∷ []

-- column "Content": 001, "that character again counts as the first"; 002, "e has the same set, and its only lawful value is 0"; W-212: "a
-- check K by modulo 37,2 over the eighteen"
abbrev pub body : Structure → List ℕ
body Structure.Empty = []
body (Structure.Donation d f) = donation_text d ++ digits 2 f.number
body (Structure.Groups g) = g.gg0 ∷ g.gg1 ∷ g.r ∷ byte "0" ∷ []
body (Structure.Product p) = product_text p
body (Structure.Expiry d) = date_text d
body (Structure.ExpiryTime d t) = date_text d ++ time_text t
body (Structure.Collection d) = date_text d
body (Structure.CollectionTime d t) = date_text d ++ time_text t
body (Structure.Production d) = date_text d
body (Structure.ProductionTime d t) = date_text d ++ time_text t
body (Structure.Testing t) = t.c0 ∷ t.c1 ∷ t.c2 ∷ t.c3 ∷ t.c4 ∷ []
body (Structure.Antigens a) = digits 18 a.number
body (Structure.Lot l) = l.c0 ∷ l.c1 ∷ l.c2 ∷ l.c3 ∷ l.c4 ∷ l.c5 ∷ l.c6 ∷ l.c7 ∷ l.c8 ∷ l.c9 ∷ []
body (Structure.Flexible f d t) = type_text f ++ (day_text d ++ time_text t)
body (Structure.Antigens2001 a) = antigen_digits a ++ check_of (antigen_digits a) ∷ []

-- a structure: its row's identifier, then its content
abbrev pub identified : Option Kind → List ℕ
identified none = []
identified (some k) = (row k).identifier

abbrev pub written : Structure → List ℕ
written x = identified (kind_of x) ++ body x

-- the two bytes of its identifier, and what is past them
abbrev pub identifier : Structure → List ℕ
identifier x = take 2 (written x)

abbrev pub content : Structure → List ℕ
content x = drop 2 (written x)

-- each byte is of its set
abbrev pub InSets : List (ℕ → Bool) → List ℕ → Type 0
InSets [] [] = Unit
InSets [] (b ∷ bs) = ⊥
InSets (σ ∷ σs) [] = ⊥
InSets (σ ∷ σs) (b ∷ bs) = (σ b ≡ true) × InSets σs bs

-- "ds is 00, or an upper letter and 0, or an upper letter and a lower letter"
pub data Division (d s : ℕ) : Type 0 where
  undivided : d ≡ byte "0" → s ≡ byte "0" → Division d s
  divided : upper d ≡ true → s ≡ byte "0" → Division d s
  subdivided : upper d ≡ true → lower s ≡ true → Division d s

-- "003", with the E rule
pub record LawfulProduct (p : Product) : Type 0 where
  pub sets : InSets (row Kind.Product).content (product_text p)
  pub division : p.letter ≡ byte "E" → Division p.d p.s

-- W-212: "sixteen digits, two digits"
pub record LawfulAntigens2001 (a : Antigens2001) : Type 0 where
  pub results : a.results ≤ 9999999999999999
  pub ii : a.ii ≤ 99

-- the values that a structure may have
abbrev pub Lawful : Structure → Type 0
Lawful Structure.Empty = ⊥
Lawful (Structure.Donation d f) = LawfulDonation d × LawfulFlags d f
Lawful (Structure.Groups g) = InSets (row Kind.Groups).content (body (Structure.Groups g))
Lawful (Structure.Product p) = LawfulProduct p
Lawful (Structure.Expiry d) = LawfulDate d
Lawful (Structure.ExpiryTime d t) = LawfulDate d × LawfulTime t
Lawful (Structure.Collection d) = LawfulDate d
Lawful (Structure.CollectionTime d t) = LawfulDate d × LawfulTime t
Lawful (Structure.Production d) = LawfulDate d
Lawful (Structure.ProductionTime d t) = LawfulDate d × LawfulTime t
Lawful (Structure.Testing t) = InSets (row Kind.Testing).content (body (Structure.Testing t))
Lawful (Structure.Antigens a) = a.number ≤ 999999999999999999
Lawful (Structure.Lot l) = InSets (row Kind.Lot).content (body (Structure.Lot l))
Lawful (Structure.Flexible f d t) = LawfulFlexible f × (LawfulDay d × LawfulTime t)
Lawful (Structure.Antigens2001 a) = LawfulAntigens2001 a

-- a lawful structure of one of the edition's kinds
pub record LawfulIn (e : Edition) (x : Structure) : Type 0 where
  pub lawful : Lawful x
  pub kind : Kind
  pub is : kind_of x ≡ some kind
  pub among : Among kind (kinds_of e)
