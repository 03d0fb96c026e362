-- A label's values in C: which C structure and message an entry and a message are, and which entry and message those of C stand for.
use Rattle.std.specs.Prelude.{ℕ, cond, List, [], ◌∷◌, map, eqb, get_or, replicate}
use Rattle.std.proofs.Math.Option.{Option, some, none}
use Rattle.calendar.specs.declared.Expiry.{Expiry}
use Rattle.calendar.specs.declared.Time.{Time}
use Rattle.calendar.specs.Expiry.{untimed, timed, no_expiry, date_in, time_in}
use Rattle.months.specs.declared.Day.{Day}
use Rattle.flexible.specs.declared.Flexible.{Flexible}
use Rattle.label.specs.declared.Donation.{Donation}
use Rattle.label.specs.declared.Flags.{Flags}
use Rattle.label.specs.declared.Groups.{Groups}
use Rattle.label.specs.declared.Product.{Product}
use Rattle.label.specs.declared.Testing.{Testing}
use Rattle.label.specs.declared.Lot.{Lot}
use Rattle.label.specs.declared.Structure.{Structure}
use Rattle.label.specs.declared.Kind.{Kind}
use Rattle.label.specs.declared.Form.{Form}
use Rattle.label.specs.declared.Entry.{Entry}
use Rattle.label.specs.declared.Message.{Message}
use Rattle.label.specs.Zeros.{no_donation, no_product}
use Rattle.structure.specs.Structures.{every_kind, numbered, number_in}
use Rattle.message.specs.declared.Reading.{Reading}
use Rattle.message.specs.Grammar.{empty_message}
use Rattle.c_values.specs.declared.CStructure.{CStructure}
use Rattle.c_values.specs.declared.CMessage.{CMessage}
use Rattle.c_values.specs.declared.CReading.{CReading}

-- what stands in a field that a kind has not: zeros
abbrev pub no_groups : Groups
no_groups = record { gg0 = 0; gg1 = 0; r = 0 }

abbrev pub no_flexible : Flexible
no_flexible = record { first = 0; timetype = 0 }

abbrev pub no_day : Day
no_day = record { year = 0; month = 0; day = 0 }

abbrev pub no_characters : List ℕ
no_characters = replicate 10 0

-- the characters of an 010, the first five of ten, and of an 018
abbrev pub testing_in_c : Testing → List ℕ
testing_in_c x = x.c0 ∷ x.c1 ∷ x.c2 ∷ x.c3 ∷ x.c4 ∷ 0 ∷ 0 ∷ 0 ∷ 0 ∷ 0 ∷ []

abbrev pub lot_in_c : Lot → List ℕ
lot_in_c x = x.c0 ∷ x.c1 ∷ x.c2 ∷ x.c3 ∷ x.c4 ∷ x.c5 ∷ x.c6 ∷ x.c7 ∷ x.c8 ∷ x.c9 ∷ []

-- a C structure by its columns; every padding byte is 0
abbrev pub flat : ℕ → ℕ → ℕ → Donation → ℕ → Groups → Product → Expiry → List ℕ → ℕ → Flexible → Day → ℕ → CStructure
flat place length kind donation flags groups product date characters antigens flexible day ii = record {
  place = place;
  length = length;
  antigens = antigens;
  donation = donation;
  product = product;
  date = date;
  kind = kind;
  flags = flags;
  gg0 = groups.gg0;
  gg1 = groups.gg1;
  r = groups.r;
  characters = characters;
  first = flexible.first;
  timetype = flexible.timetype;
  month = day.month;
  day = day.day;
  ii = ii;
  pad = 0;
}

-- one whose columns are all zeros
abbrev pub blank : ℕ → ℕ → ℕ → CStructure
blank p l k = flat p l k no_donation 0 no_groups no_product no_expiry no_characters 0 no_flexible no_day 0

-- the columns that a kind has, and zeros in all others
abbrev pub with_donation : ℕ → ℕ → ℕ → Donation → Flags → CStructure
with_donation p l k d f = flat p l k d f.number no_groups no_product no_expiry no_characters 0 no_flexible no_day 0

abbrev pub with_groups : ℕ → ℕ → ℕ → Groups → CStructure
with_groups p l k g = flat p l k no_donation 0 g no_product no_expiry no_characters 0 no_flexible no_day 0

abbrev pub with_product : ℕ → ℕ → ℕ → Product → CStructure
with_product p l k x = flat p l k no_donation 0 no_groups x no_expiry no_characters 0 no_flexible no_day 0

abbrev pub with_date : ℕ → ℕ → ℕ → Expiry → CStructure
with_date p l k e = flat p l k no_donation 0 no_groups no_product e no_characters 0 no_flexible no_day 0

abbrev pub with_characters : ℕ → ℕ → ℕ → List ℕ → CStructure
with_characters p l k x = flat p l k no_donation 0 no_groups no_product no_expiry x 0 no_flexible no_day 0

abbrev pub with_antigens : ℕ → ℕ → ℕ → ℕ → ℕ → CStructure
with_antigens p l k n ii = flat p l k no_donation 0 no_groups no_product no_expiry no_characters n no_flexible no_day ii

-- an 031's year stands in its date, whose day is 0
abbrev pub with_flexible : ℕ → ℕ → ℕ → Flexible → Day → Time → CStructure
with_flexible p l k f d t = flat p l k no_donation 0 no_groups no_product (timed 0 record { year = d.year; day = 0 } t) no_characters 0 f d 0

-- by place, length, number and structure
abbrev pub flat_of : ℕ → ℕ → ℕ → Structure → CStructure
flat_of p l k Structure.Empty = blank p l k
flat_of p l k (Structure.Donation d f) = with_donation p l k d f
flat_of p l k (Structure.Groups g) = with_groups p l k g
flat_of p l k (Structure.Product x) = with_product p l k x
flat_of p l k (Structure.Expiry d) = with_date p l k (untimed 0 d)
flat_of p l k (Structure.ExpiryTime d t) = with_date p l k (timed 0 d t)
flat_of p l k (Structure.Collection d) = with_date p l k (untimed 0 d)
flat_of p l k (Structure.CollectionTime d t) = with_date p l k (timed 0 d t)
flat_of p l k (Structure.Production d) = with_date p l k (untimed 0 d)
flat_of p l k (Structure.ProductionTime d t) = with_date p l k (timed 0 d t)
flat_of p l k (Structure.Testing x) = with_characters p l k (testing_in_c x)
flat_of p l k (Structure.Antigens a) = with_antigens p l k a.number 0
flat_of p l k (Structure.Lot x) = with_characters p l k (lot_in_c x)
flat_of p l k (Structure.Flexible f d t) = with_flexible p l k f d t
flat_of p l k (Structure.Antigens2001 a) = with_antigens p l k a.results a.ii

-- the C structure of an entry: its kind is its number, 200 for the antigen structure of 2001
abbrev pub entry_in_c : Entry → CStructure
entry_in_c e = flat_of e.place e.length (number_in e.structure) e.structure

-- the form as a number
abbrev pub form_in_c : Form → ℕ
form_in_c Form.Single = 0
form_in_c Form.Pair = 1
form_in_c Form.Compound = 2

-- the C message of a message, and the C reading of a reading
abbrev pub message_in_c : Message → CMessage
message_in_c m =
    record { structures = map entry_in_c m.entries; count = m.count; bbb = m.bbb; form = form_in_c m.form; pad = 0; pads = 0 }

abbrev pub reading_in_c : Reading → CReading
reading_in_c r = record { message = message_in_c r.message; place = r.place; refusal = r.refusal; pad = 0; pads = 0; padding = 0 }

-- and back
abbrev pub testing_of : List ℕ → Testing
testing_of x = record { c0 = get_or x 0 0; c1 = get_or x 1 0; c2 = get_or x 2 0; c3 = get_or x 3 0; c4 = get_or x 4 0 }

abbrev pub lot_of : List ℕ → Lot
lot_of x = record {
  c0 = get_or x 0 0;
  c1 = get_or x 1 0;
  c2 = get_or x 2 0;
  c3 = get_or x 3 0;
  c4 = get_or x 4 0;
  c5 = get_or x 5 0;
  c6 = get_or x 6 0;
  c7 = get_or x 7 0;
  c8 = get_or x 8 0;
  c9 = get_or x 9 0;
}

-- the structure of a kind that a C structure stands for: it looks at the kind's fields alone
abbrev pub of_kind : Kind → CStructure → Structure
of_kind Kind.Donation c = Structure.Donation c.donation (record { number = c.flags })
of_kind Kind.Groups c = Structure.Groups (record { gg0 = c.gg0; gg1 = c.gg1; r = c.r })
of_kind Kind.Product c = Structure.Product c.product
of_kind Kind.Expiry c = Structure.Expiry (date_in c.date)
of_kind Kind.ExpiryTime c = Structure.ExpiryTime (date_in c.date) (time_in c.date)
of_kind Kind.Collection c = Structure.Collection (date_in c.date)
of_kind Kind.CollectionTime c = Structure.CollectionTime (date_in c.date) (time_in c.date)
of_kind Kind.Production c = Structure.Production (date_in c.date)
of_kind Kind.ProductionTime c = Structure.ProductionTime (date_in c.date) (time_in c.date)
of_kind Kind.Testing c = Structure.Testing (testing_of c.characters)
of_kind Kind.Antigens c = Structure.Antigens (record { number = c.antigens })
of_kind Kind.Lot c = Structure.Lot (lot_of c.characters)
of_kind Kind.Flexible c =
    Structure.Flexible (record { first = c.first; timetype = c.timetype }) (record { year = c.date.year; month = c.month; day = c.day })
    (time_in c.date)
of_kind Kind.Antigens2001 c = Structure.Antigens2001 (record { results = c.antigens; ii = c.ii })

-- a kind that is none is the empty structure
abbrev pub of_some : Option Kind → CStructure → Structure
of_some none c = Structure.Empty
of_some (some k) c = of_kind k c

-- the structure that a C structure stands for
abbrev pub structure_meant : CStructure → Structure
structure_meant c = of_some (numbered every_kind c.kind) c

-- with its place and length, which the writer ignores
abbrev pub entry_meant : CStructure → Entry
entry_meant c = record { structure = structure_meant c; place = c.place; length = c.length }

-- the message of a form that a C message stands for
abbrev pub message_with : CMessage → Form → Message
message_with m form = record { entries = map entry_meant m.structures; count = m.count; bbb = m.bbb; form = form }

-- by the number of its form; with one that is none it is the empty message, which the writer refuses with SHAPE
abbrev pub meant : ℕ → CMessage → Message
meant form m =
    cond (eqb form 0) (message_with m Form.Single)
    (cond (eqb form 1) (message_with m Form.Pair) (cond (eqb form 2) (message_with m Form.Compound) empty_message))

-- the message that a C message stands for
abbrev pub stands_for : CMessage → Message
stands_for m = meant m.form m
