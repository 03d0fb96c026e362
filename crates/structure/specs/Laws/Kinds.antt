-- The kinds as rows of tables, and their laws in and out; what stands above goes by these alone.
use Rattle.std.specs.Prelude.{ℕ, zero, suc, ◌+◌, ◌<◌, ◌≡◌, refl, Bool, true, false, ◌&&◌, List, [], ◌∷◌, ◌++◌, map, eqb, ltb, length, get_or, take, drop}
use Rattle.std.specs.Prelude.{replicate}
use Rattle.std.proofs.Common.{sym, ap, ap₂, ◌∙◌, arith, take-append-drop, eqb-true, ltb-true}
use Rattle.std.proofs.Math.Option.{some, none}
use Rattle.std.proofs.Math.ListN.{get_or-map}
use Rattle.demand.specs.Each.{Each}
use Rattle.demand.specs.Numbers.{CHARACTER, VALUE}
use Rattle.demand.specs.Laws.Each.{each_replicate, each_append, each_map}
use Rattle.demand.specs.Laws.Content.{Position, Fits, none, more, Opens, free, free_fit, free_opens, fits_join, fits_split, shift, shift_in}
use Rattle.demand.specs.Laws.Content.{shift_out, shift_opens, nowhere}
use Rattle.text.specs.Bytes.{byte, upper_digit, upper_lower_digit}
use Rattle.text.specs.Decimal.{digits, number}
use Rattle.text.specs.Laws.Bytes.{both}
use Rattle.text.specs.Laws.Decimal.{number_digits, digits_in, digits_out}
use Rattle.calendar.specs.declared.Date.{Date}
use Rattle.calendar.specs.declared.Time.{Time}
use Rattle.calendar.specs.Calendar.{LawfulDate, LawfulTime, date_text, time_text, date_of, time_of}
use Rattle.calendar.specs.Laws.Date.{date_positions, date_opens, date_in, date_out, date_back}
use Rattle.calendar.specs.Laws.Time.{time_back}
use Rattle.calendar.specs.Laws.Stamp.{stamp_positions, stamp_opens, stamp_in, stamp_out}
use Rattle.months.specs.declared.Day.{Day}
use Rattle.months.specs.Months.{LawfulDay}
use Rattle.flexible.specs.declared.Flexible.{Flexible}
use Rattle.flexible.specs.Flexible.{LawfulFlexible, day_text}
use Rattle.flexible.specs.Laws.DateType.{type_of, type_back}
use Rattle.flexible.specs.Laws.Day.{day_of, day_back}
use Rattle.flexible.specs.Laws.Flexible.{flexible_positions, flexible_opens, flexible_in, flexible_out}
use Rattle.check37.specs.Check.{check_of}
use Rattle.label.specs.declared.Structure.{Structure}
use Rattle.label.specs.declared.Kind.{Kind}
use Rattle.structure.specs.declared.Shape.{Shape}
use Rattle.structure.specs.Structures.{kind_of, row, identifier, sets, refusals, refused_at, Lawful, InSets, antigen_digits, content, written}
pub use Rattle.structure.specs.Structures.{number_or, number_in}
use Rattle.structure.specs.Donation.{donation_text}
use Rattle.structure.specs.Laws.Donation.{decimal, decimal_opens, donation_positions, donation_opens, donation_in, donation_out, donation_of}
use Rattle.structure.specs.Laws.Donation.{donation_back}
use Rattle.structure.specs.Laws.Flags.{flag_positions, flag_opens, flags_in, flags_out, flags_small}
use Rattle.structure.specs.Laws.Checked.{antigen_positions, antigen_opens, antigens_of, antigens_in, antigens_out, antigens_back}
use Rattle.structure.specs.Laws.Head.{head_positions, head_opens}
use Rattle.structure.specs.Laws.Product.{product_positions, product_opens, product_in, product_out, product_of}

-- a kind's first byte, and the bytes that may be its second: the identifier's, or the first of a content
abbrev pub lead : Kind → ℕ
lead k = get_or (row k).identifier 0 0

abbrev pub second : Kind → ℕ → Bool
second k = get_or (map (λ (a b : ℕ). eqb b a) (row k).identifier ++ (row k).content) 1 (λ b. false)

-- "e has the same set, and its only lawful value is 0"
abbrev pub e_position : Position
e_position = record { set = upper_lower_digit; rule = λ p b. eqb b (byte "0"); refusal = VALUE }

abbrev pub groups_positions : List Position
groups_positions = replicate 3 (free upper_lower_digit VALUE) ++ e_position ∷ []

-- the kinds that share a content
abbrev pub shape_of : Kind → Shape
shape_of Kind.Donation = Shape.Donation
shape_of Kind.Groups = Shape.Groups
shape_of Kind.Product = Shape.Product
shape_of Kind.Expiry = Shape.Date
shape_of Kind.ExpiryTime = Shape.Stamp
shape_of Kind.Collection = Shape.Date
shape_of Kind.CollectionTime = Shape.Stamp
shape_of Kind.Production = Shape.Date
shape_of Kind.ProductionTime = Shape.Stamp
shape_of Kind.Testing = Shape.Testing
shape_of Kind.Antigens = Shape.Antigens
shape_of Kind.Lot = Shape.Lot
shape_of Kind.Flexible = Shape.Flexible
shape_of Kind.Antigens2001 = Shape.Antigens2001

-- the positions of a content; the identifier's second byte stands before them
abbrev pub shape_positions : Shape → List Position
shape_positions Shape.Donation = donation_positions ++ flag_positions
shape_positions Shape.Groups = groups_positions
shape_positions Shape.Product = map (shift 1) product_positions
shape_positions Shape.Date = map (shift 1) date_positions
shape_positions Shape.Stamp = map (shift 1) stamp_positions
shape_positions Shape.Testing = replicate 5 (free upper_digit VALUE)
shape_positions Shape.Antigens = decimal 18
shape_positions Shape.Lot = replicate 10 (free upper_lower_digit VALUE)
shape_positions Shape.Flexible = map (shift 1) flexible_positions
shape_positions Shape.Antigens2001 = map (shift 1) antigen_positions
shape_positions Shape.Head = map (shift 1) head_positions

abbrev pub positions : Kind → List Position
positions k = shape_positions (shape_of k)

-- positions as two tables have them: their sets, and the numbers of what is unlawful there
pub record Tabled (πs : List Position) (τs : List (ℕ → Bool)) (νs : List ℕ) : Type 0 where
  pub by_sets : map (λ (π : Position). π.set) πs ≡ τs
  pub by_numbers : map (λ (π : Position). π.refusal) πs ≡ νs

-- the positions' sets and numbers are the tables'
pub positions_table : (k : Kind) → Tabled (positions k) (sets k) (refusals k)
positions_table Kind.Donation = record { by_sets = refl; by_numbers = refl }
positions_table Kind.Groups = record { by_sets = refl; by_numbers = refl }
positions_table Kind.Product = record { by_sets = refl; by_numbers = refl }
positions_table Kind.Expiry = record { by_sets = refl; by_numbers = refl }
positions_table Kind.ExpiryTime = record { by_sets = refl; by_numbers = refl }
positions_table Kind.Collection = record { by_sets = refl; by_numbers = refl }
positions_table Kind.CollectionTime = record { by_sets = refl; by_numbers = refl }
positions_table Kind.Production = record { by_sets = refl; by_numbers = refl }
positions_table Kind.ProductionTime = record { by_sets = refl; by_numbers = refl }
positions_table Kind.Testing = record { by_sets = refl; by_numbers = refl }
positions_table Kind.Antigens = record { by_sets = refl; by_numbers = refl }
positions_table Kind.Lot = record { by_sets = refl; by_numbers = refl }
positions_table Kind.Flexible = record { by_sets = refl; by_numbers = refl }
positions_table Kind.Antigens2001 = record { by_sets = refl; by_numbers = refl }

-- the numbers go from 1 to 99
abbrev pub tell : List ℕ → Bool
tell [] = true
tell (n ∷ ns) = (ltb 0 n && ltb n 100) && tell ns

pub tell_at : (ns : List ℕ) (i d : ℕ) → tell ns ≡ true → 0 < d → d < 100 → (0 < get_or ns i d) × (get_or ns i d < 100)
tell_at [] i d e g h = (g, h)
tell_at (n ∷ ns) zero d e g h = let (lo, hi) = both (ltb 0 n) (ltb n 100) (both (ltb 0 n && ltb n 100) (tell ns) e).0 in (ltb-true 0 n lo, ltb-true n 100 hi)
tell_at (n ∷ ns) (suc i) d e g h = tell_at ns i d (both (ltb 0 n && ltb n 100) (tell ns) e).1 g h

-- no position's number is 0, which stands for acceptance, and none has more than two digits
numbers_tell : (x : Shape) → tell (map (λ (π : Position). π.refusal) (shape_positions x)) ≡ true
numbers_tell Shape.Donation = refl
numbers_tell Shape.Groups = refl
numbers_tell Shape.Product = refl
numbers_tell Shape.Date = refl
numbers_tell Shape.Stamp = refl
numbers_tell Shape.Testing = refl
numbers_tell Shape.Antigens = refl
numbers_tell Shape.Lot = refl
numbers_tell Shape.Flexible = refl
numbers_tell Shape.Antigens2001 = refl
numbers_tell Shape.Head = refl

pub position_tells : (x : Shape) (i : ℕ) → (get_or (shape_positions x) i nowhere).refusal ≡ 0 → ⊥
position_tells x i e =
    let f : Position → ℕ = λ π. π.refusal in
    let (above, few) = tell_at (map f (shape_positions x)) i CHARACTER (numbers_tell x) (omega arith) (omega arith) in
    omega (arith, get_or-map f (shape_positions x) i nowhere)

pub table_tells : (k : Kind) (i : ℕ) → (0 < refused_at k i) × (refused_at k i < 100)
table_tells k i = tell_at (refusals k) i VALUE (rw (positions_table k).by_numbers at (numbers_tell (shape_of k))) (omega arith) (omega arith)

-- the structure that the identifier's second byte and the content stand for
abbrev pub make : Kind → List ℕ → Structure
make Kind.Donation c = Structure.Donation (donation_of c) record { number = number (take 2 (drop 13 c)) }
make Kind.Groups c = Structure.Groups record { gg0 = get_or c 1 0; gg1 = get_or c 2 0; r = get_or c 3 0 }
make Kind.Product c = Structure.Product (product_of c)
make Kind.Expiry c = Structure.Expiry (date_of (drop 1 c))
make Kind.ExpiryTime c = Structure.ExpiryTime (date_of (drop 1 c)) (time_of (drop 7 c))
make Kind.Collection c = Structure.Collection (date_of (drop 1 c))
make Kind.CollectionTime c = Structure.CollectionTime (date_of (drop 1 c)) (time_of (drop 7 c))
make Kind.Production c = Structure.Production (date_of (drop 1 c))
make Kind.ProductionTime c = Structure.ProductionTime (date_of (drop 1 c)) (time_of (drop 7 c))
make Kind.Testing c =
    Structure.Testing record { c0 = get_or c 1 0; c1 = get_or c 2 0; c2 = get_or c 3 0; c3 = get_or c 4 0; c4 = get_or c 5 0 }
make Kind.Antigens c = Structure.Antigens record { number = number (take 18 (drop 1 c)) }
make Kind.Lot c =
    Structure.Lot record {
      c0 = get_or c 1 0;
      c1 = get_or c 2 0;
      c2 = get_or c 3 0;
      c3 = get_or c 4 0;
      c4 = get_or c 5 0;
      c5 = get_or c 6 0;
      c6 = get_or c 7 0;
      c7 = get_or c 8 0;
      c8 = get_or c 9 0;
      c9 = get_or c 10 0;
    }
make Kind.Flexible c = Structure.Flexible (type_of (drop 1 c)) (day_of (drop 5 c)) (time_of (drop 13 c))
make Kind.Antigens2001 c = Structure.Antigens2001 (antigens_of (drop 1 c))

-- it is as long as its identifier and its positions
pub made_length : (k : Kind) (c : List ℕ) → length (written (make k c)) ≡ length (positions k) + 2
made_length Kind.Donation c = refl
made_length Kind.Groups c = refl
made_length Kind.Product c = refl
made_length Kind.Expiry c = refl
made_length Kind.ExpiryTime c = refl
made_length Kind.Collection c = refl
made_length Kind.CollectionTime c = refl
made_length Kind.Production c = refl
made_length Kind.ProductionTime c = refl
made_length Kind.Testing c = refl
made_length Kind.Antigens c = refl
made_length Kind.Lot c = refl
made_length Kind.Flexible c = refl
made_length Kind.Antigens2001 c = refl

-- no fitting beginning of a content is a dead end
pub shapes_open : (x : Shape) → Each Opens (shape_positions x)
shapes_open Shape.Donation = each_append Opens donation_positions flag_positions donation_opens flag_opens
shapes_open Shape.Groups =
    each_append Opens (replicate 3 (free upper_lower_digit VALUE)) (e_position ∷ [])
    (each_replicate Opens 3 (free upper_lower_digit VALUE) (free_opens upper_lower_digit VALUE 48 refl))
    ((λ p. (48, record { inside = refl; lawful = refl })), tt)
shapes_open Shape.Product = each_map Opens (shift 1) (shift_opens 1) product_positions product_opens
shapes_open Shape.Date = each_map Opens (shift 1) (shift_opens 1) date_positions date_opens
shapes_open Shape.Stamp = each_map Opens (shift 1) (shift_opens 1) stamp_positions stamp_opens
shapes_open Shape.Testing = each_replicate Opens 5 (free upper_digit VALUE) (free_opens upper_digit VALUE 48 refl)
shapes_open Shape.Antigens = decimal_opens 18
shapes_open Shape.Lot = each_replicate Opens 10 (free upper_lower_digit VALUE) (free_opens upper_lower_digit VALUE 48 refl)
shapes_open Shape.Flexible = each_map Opens (shift 1) (shift_opens 1) flexible_positions flexible_opens
shapes_open Shape.Antigens2001 = each_map Opens (shift 1) (shift_opens 1) antigen_positions antigen_opens
shapes_open Shape.Head = each_map Opens (shift 1) (shift_opens 1) head_positions head_opens

pub kinds_open : (k : Kind) → Each Opens (positions k)
kinds_open k = shapes_open (shape_of k)

-- x is the structure of kind k that the identifier's second byte b and the content c stand for
pub record Reads (k : Kind) (b : ℕ) (c : List ℕ) (x : Structure) : Type 0 where
  pub lawful : Lawful x
  pub kind : kind_of x ≡ some k
  pub named : identifier x ≡ lead k ∷ b ∷ []
  pub marked : second k b ≡ true
  pub body : content x ≡ c
  pub fits : Fits (positions k) (b ∷ []) c
  pub made : make k (b ∷ c) ≡ x

-- its writing is the identifier's two bytes and the content
pub spelled : {k : Kind} {b : ℕ} {c : List ℕ} {x : Structure} → Reads k b c x → written x ≡ lead k ∷ b ∷ c
spelled {x = x} r = sym (take-append-drop 2 (written x)) ∙ ap₂ ◌++◌ r.named r.body

-- bytes of one set, any of which may stand there
free_fits : (n : ℕ) (σ : ℕ → Bool) (p c : List ℕ) → InSets (replicate n σ) c → Fits (replicate n (free σ VALUE)) p c
free_fits zero σ p [] h = none
free_fits zero σ p (b ∷ c) h = absurd h
free_fits (suc n) σ p [] h = absurd h
free_fits (suc n) σ p (b ∷ c) (h, hs) = more (free_fit h) (free_fits n σ (p ++ b ∷ []) c hs)

abbrev Out : Structure → Type 0
Out x = (k : Kind) × (b : ℕ) × Reads k b (content x) x

reads : (k : Kind) (b : ℕ) (x : Structure) → Lawful x → kind_of x ≡ some k → identifier x ≡ lead k ∷ b ∷ [] → second k b ≡ true
    → Fits (positions k) (b ∷ []) (content x) → make k (b ∷ content x) ≡ x → Out x
reads k b x h kind named marked fits made =
    (k, b, record { lawful = h; kind = kind; named = named; marked = marked; body = refl; fits = fits; made = made })

dated : (b : ℕ) (d : Date) → LawfulDate d → Fits (map (shift 1) date_positions) (b ∷ []) (date_text d)
dated b d h = shift_out (b ∷ []) (date_out d h)

stamped : (b : ℕ) (d : Date) (t : Time) → LawfulDate d → LawfulTime t → Fits (map (shift 1) stamp_positions) (b ∷ []) (date_text d ++ time_text t)
stamped b d t h g = shift_out (b ∷ []) (stamp_out d t h g)

flexible_made : (f : Flexible) (d : Day) (t : Time) → LawfulFlexible f → LawfulDay d → LawfulTime t
    → make Kind.Flexible (byte "(" ∷ content (Structure.Flexible f d t)) ≡ Structure.Flexible f d t
flexible_made f d t h g k =
    let type = type_back f (day_text d ++ time_text t) h in
    let day = day_back d (time_text t) g in
    let time = time_back t [] k in
    λ i. Structure.Flexible (type i) (day i) (time i)

-- a lawful value's writing fits and gives the value back
pub structure_out : (x : Structure) → Lawful x → Out x
structure_out Structure.Empty h = absurd h
structure_out (Structure.Donation d f) (h, g) =
    reads Kind.Donation d.first (Structure.Donation d f) (h, g) refl refl h.first
    (fits_join (donation_out d (d.first ∷ [])) (flags_out d f g))
    (ap₂ Structure.Donation (donation_back d (digits 2 f.number) h) (λ i. record { number = number_digits 2 f.number (flags_small g) i }))
structure_out (Structure.Groups g) (h0, (h1, (h2, h3))) =
    reads Kind.Groups (byte "%") (Structure.Groups g) (h0, (h1, (h2, h3))) refl refl refl
    (more (free_fit h0) (more (free_fit h1) (more (free_fit h2) (more record { inside = refl; lawful = refl } none)))) refl
structure_out (Structure.Product p) h =
    reads Kind.Product (byte "<") (Structure.Product p) h refl refl refl (shift_out (byte "<" ∷ []) (product_out p h)) refl
structure_out (Structure.Expiry d) h =
    reads Kind.Expiry (byte ">") (Structure.Expiry d) h refl refl refl (dated (byte ">") d h) (ap Structure.Expiry (date_back d [] h))
structure_out (Structure.ExpiryTime d t) (h, g) =
    reads Kind.ExpiryTime (byte ">") (Structure.ExpiryTime d t) (h, g) refl refl refl (stamped (byte ">") d t h g)
    (ap₂ Structure.ExpiryTime (date_back d [] h) (time_back t [] g))
structure_out (Structure.Collection d) h =
    reads Kind.Collection (byte "*") (Structure.Collection d) h refl refl refl (dated (byte "*") d h) (ap Structure.Collection (date_back d [] h))
structure_out (Structure.CollectionTime d t) (h, g) =
    reads Kind.CollectionTime (byte "*") (Structure.CollectionTime d t) (h, g) refl refl refl (stamped (byte "*") d t h g)
    (ap₂ Structure.CollectionTime (date_back d [] h) (time_back t [] g))
structure_out (Structure.Production d) h =
    reads Kind.Production (byte "}") (Structure.Production d) h refl refl refl (dated (byte "}") d h) (ap Structure.Production (date_back d [] h))
structure_out (Structure.ProductionTime d t) (h, g) =
    reads Kind.ProductionTime (byte "}") (Structure.ProductionTime d t) (h, g) refl refl refl (stamped (byte "}") d t h g)
    (ap₂ Structure.ProductionTime (date_back d [] h) (time_back t [] g))
structure_out (Structure.Testing t) h =
    reads Kind.Testing (byte "(") (Structure.Testing t) h refl refl refl (free_fits 5 upper_digit _ _ h) refl
structure_out (Structure.Antigens a) h =
    reads Kind.Antigens (byte "\\") (Structure.Antigens a) h refl refl refl (digits_out 18 VALUE (byte "\\" ∷ []) a.number)
    (ap Structure.Antigens (λ i. record { number = number_digits 18 a.number (omega arith) i }))
structure_out (Structure.Lot l) h =
    reads Kind.Lot (byte ")") (Structure.Lot l) h refl refl refl (free_fits 10 upper_lower_digit _ _ h) refl
structure_out (Structure.Flexible f d t) (h, (g, k)) =
    reads Kind.Flexible (byte "(") (Structure.Flexible f d t) (h, (g, k)) refl refl refl (shift_out (byte "(" ∷ []) (flexible_out f d t (h, (g, k))))
    (flexible_made f d t h g k)
structure_out (Structure.Antigens2001 a) h =
    reads Kind.Antigens2001 (byte "{") (Structure.Antigens2001 a) h refl refl refl (shift_out (byte "{" ∷ []) (antigens_out a))
    (ap Structure.Antigens2001 (antigens_back a (check_of (antigen_digits a) ∷ []) h))

abbrev Found : Kind → ℕ → List ℕ → Type 0
Found k b c = (x : Structure) × Lawful x × (kind_of x ≡ some k) × (identifier x ≡ lead k ∷ b ∷ []) × (content x ≡ c)

-- a second byte that is the kind's one
mark : (a : ℕ) {b m : ℕ} → eqb b m ≡ true → a ∷ m ∷ [] ≡ a ∷ b ∷ []
mark a {b} {m} e = ap (λ (n : ℕ). a ∷ n ∷ []) (sym (eqb-true b m e))

date_found : {b : ℕ} {c : List ℕ} → Fits (map (shift 1) date_positions) (b ∷ []) c → (d : Date) × LawfulDate d × (date_text d ≡ c)
date_found {b} fs = let (d, h, is) = date_in (shift_in (b ∷ []) date_positions {p = []} fs) in (d, h, sym is)

stamp_found : {b : ℕ} {c : List ℕ} → Fits (map (shift 1) stamp_positions) (b ∷ []) c
    → (d : Date) × (t : Time) × (LawfulDate d × LawfulTime t) × (date_text d ++ time_text t ≡ c)
stamp_found {b} fs = let (d, t, h, g, is) = stamp_in (shift_in (b ∷ []) stamp_positions {p = []} fs) in (d, t, (h, g), sym is)

found : (k : Kind) {b : ℕ} {c : List ℕ} → second k b ≡ true → Fits (positions k) (b ∷ []) c → Found k b c
found Kind.Donation {b} e fs =
    let parts = fits_split donation_positions fs in
    let (d, h, first, is) = donation_in {b = b} e parts.left_fits in
    let text : b ∷ parts.left ≡ donation_text d = ap₂ ◌∷◌ (sym first) is in
    let (f, fe) = flags_in d (rw text at parts.right_fits) in (
      Structure.Donation d record { number = number parts.right },
      (h, f),
      refl,
      ap (λ (n : ℕ). byte "=" ∷ n ∷ []) first,
      sym (parts.whole ∙ ap₂ ◌++◌ is fe),
    )
found Kind.Groups e (more {b = b0} f0 (more {b = b1} f1 (more {b = b2} f2 (more f3 none)))) = (
  Structure.Groups record { gg0 = b0; gg1 = b1; r = b2 },
  (f0.inside, (f1.inside, (f2.inside, (refl, tt)))),
  refl,
  mark (byte "=") e,
  ap (λ (n : ℕ). b0 ∷ b1 ∷ b2 ∷ n ∷ []) (sym (eqb-true _ 48 f3.lawful)),
)
found Kind.Product {b} e fs =
    let (p, h, is) = product_in (shift_in (b ∷ []) product_positions {p = []} fs) in
    (Structure.Product p, h, refl, mark (byte "=") e, sym is)
found Kind.Expiry e fs = let (d, h, is) = date_found fs in (Structure.Expiry d, h, refl, mark (byte "=") e, is)
found Kind.ExpiryTime e fs = let (d, t, h, is) = stamp_found fs in (Structure.ExpiryTime d t, h, refl, mark (byte "&") e, is)
found Kind.Collection e fs = let (d, h, is) = date_found fs in (Structure.Collection d, h, refl, mark (byte "=") e, is)
found Kind.CollectionTime e fs = let (d, t, h, is) = stamp_found fs in (Structure.CollectionTime d t, h, refl, mark (byte "&") e, is)
found Kind.Production e fs = let (d, h, is) = date_found fs in (Structure.Production d, h, refl, mark (byte "=") e, is)
found Kind.ProductionTime e fs = let (d, t, h, is) = stamp_found fs in (Structure.ProductionTime d t, h, refl, mark (byte "&") e, is)
found Kind.Testing e (more {b = b0} f0 (more {b = b1} f1 (more {b = b2} f2 (more {b = b3} f3 (more {b = b4} f4 none))))) = (
  Structure.Testing record { c0 = b0; c1 = b1; c2 = b2; c3 = b3; c4 = b4 },
  (f0.inside, (f1.inside, (f2.inside, (f3.inside, (f4.inside, tt))))),
  refl,
  mark (byte "&") e,
  refl,
)
found Kind.Antigens {c = c} e fs =
    let (a, is) = digits_in 18 VALUE fs in
    (Structure.Antigens record { number = number c }, omega arith, refl, mark (byte "=") e, sym is)
found Kind.Lot e (more {b = b0} f0 (more {b = b1} f1 (more {b = b2} f2 (more {b = b3} f3 (more {b = b4} f4
    (more {b = b5} f5 (more {b = b6} f6 (more {b = b7} f7 (more {b = b8} f8 (more {b = b9} f9 none)))))))))) = (
      Structure.Lot record { c0 = b0; c1 = b1; c2 = b2; c3 = b3; c4 = b4; c5 = b5; c6 = b6; c7 = b7; c8 = b8; c9 = b9 },
      (f0.inside, (f1.inside, (f2.inside, (f3.inside, (f4.inside, (f5.inside, (f6.inside, (f7.inside, (f8.inside, (f9.inside, tt)))))))))),
      refl,
      mark (byte "&") e,
      refl,
    )
found Kind.Flexible {b} e fs =
    let (f, d, t, h, is) = flexible_in (shift_in (b ∷ []) flexible_positions {p = []} fs) in
    (Structure.Flexible f d t, h, refl, mark (byte "=") e, sym is)
found Kind.Antigens2001 {b} e fs =
    let (a, h, is) = antigens_in (shift_in (b ∷ []) antigen_positions {p = []} fs) in
    (Structure.Antigens2001 a, h, refl, mark (byte "=") e, sym is)

-- a structure's kind and second byte are its own
same : (x : Structure) (k k' : Kind) (b b' : ℕ) (c : List ℕ) → Reads k' b' (content x) x → kind_of x ≡ some k
    → identifier x ≡ lead k ∷ b ∷ [] → content x ≡ c → Reads k b c (make k (b ∷ c))
same x k k' b b' c r kind named body =
    let e : k' ≡ k = cc r.kind in
    let f : b' ≡ b = cc r.named in
    let s : Reads k b c x = rw (e, f, body) at r in
    rw s.made s

-- a second byte and a fitting content are the writing of one lawful value, the one that is made of them
pub structure_in : (k : Kind) (b : ℕ) (c : List ℕ) → second k b ≡ true → Fits (positions k) (b ∷ []) c → Reads k b c (make k (b ∷ c))
structure_in k b c e fs =
    let (x, h, kind, named, body) = found k e fs in
    let (k', b', r) = structure_out x h in
    same x k k' b b' c r kind named body
