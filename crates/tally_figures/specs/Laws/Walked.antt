-- A message's structures, passed one by one by their identifiers: the two bytes of each name its kind, and so its length.
use Rattle.std.specs.Prelude.{ℕ, suc, ◌+◌, ◌-◌, ◌^◌, ◌≤◌, ◌<◌, ◌≡◌, refl, true, cond, List, [], ◌∷◌, ◌++◌, map, eqb, length, get_or, set, take, drop}
use Rattle.std.proofs.Common.{sym, ap, ◌∙◌, subst, arith, add-one, length-append, length-drop, length-take, take-suc, take_all, drop-cons, drop-drop, eq-eqb}
use Rattle.std.proofs.Math.Option.{Option, some, none}
use Rattle.std.proofs.Math.Seq.{drop-append_seam}
use Rattle.demand.specs.Each.{Each}
use Rattle.demand.specs.Laws.Cells.{tail_part}
use Rattle.demand.specs.Laws.Each.{each_at}
use Rattle.label.specs.declared.Edition.{Edition}
use Rattle.label.specs.declared.Structure.{Structure}
use Rattle.label.specs.declared.Form.{Form}
use Rattle.label.specs.declared.Entry.{Entry}
use Rattle.label.specs.declared.Kind.{Kind}
use Rattle.label.specs.declared.Message.{Message}
use Rattle.structure.specs.Structures.{number_of, total_of, Lawful, LawfulIn, written, every_kind}
use Rattle.structure.specs.Theorems.{total_bytes}
use Rattle.structure.specs.Laws.Kinds.{lead, number_or, number_in, structure_out, spelled}
use Rattle.structure.specs.Laws.Due.{find, names, named}
use Rattle.message.specs.Grammar.{start_of, message_of, written_all, Produces}
use Rattle.message.specs.Writing.{structures_of}
use Rattle.message.specs.Laws.Write.{made, front, structures_back}
use Rattle.tally_figures.specs.declared.Row.{Row}
use Rattle.tally_figures.specs.Tally.{how_many, kind_of}
use Rattle.tally_figures.specs.Counters.{BY_KIND, Counts, Below}
use Rattle.tally_figures.specs.Laws.Counts.{counts_none, counts_one, counts_then, below_counts}
use Rattle.tally_figures.specs.Laws.Readings.{kind_low}

-- a kind's number and total, and 0 and 0 for none
abbrev pub row_or : Option Kind → Row
row_or none = record { number = 0; total = 0 }
row_or (some k) = record { number = number_of k; total = total_of k }

-- the row of the kind that the first two bytes name
abbrev pub row_there : List ℕ → Row
row_there s = row_or (find every_kind (get_or s 0 0) (get_or s 1 0))

abbrev row_of : Structure → Row
row_of x = record { number = number_in x; total = length (written x) }

row_written : (x : Structure) (t : List ℕ) → Lawful x → row_there (written x ++ t) ≡ row_of x
row_written x t h =
    let (k, b, r) = structure_out x h in
    let name : names k (lead k) b ≡ true = rw (eq-eqb (lead k) (lead k) refl, r.marked) in
    let total = total_bytes x r.kind in
    ap (λ (i : List ℕ). row_there (i ++ t)) (spelled r)
    ∙ ap row_or (named (lead k) b k name)
    ∙ (λ i. record { number = number_or (sym r.kind i); total = sym total i })

-- a structure has more than one byte
written_long : (x : Structure) → Lawful x → 1 < length (written x)
written_long x h =
    let (k, b, r) = structure_out x h in
    omega (arith, ap length (spelled r))

-- the structures of a message in its line
pub record Listed (m : Message) (s : List ℕ) : Type 0 where
  pub lawful : Each (LawfulIn Edition.Current) (structures_of m)
  pub number : length (structures_of m) ≡ m.count
  pub few : m.count ≤ 16
  pub text : drop (start_of m.form) s ≡ written_all (structures_of m)

behind : (form : Form) (n bbb : ℕ) (t : List ℕ) → drop (start_of form) (front form n bbb ++ t) ≡ t
behind Form.Single n bbb t = refl
behind Form.Pair n bbb t = refl
behind Form.Compound n bbb t = refl

pub listed : {m : Message} {s : List ℕ} → Produces Edition.Current m s → Listed m s
listed {m} {s} w =
    let d = made w in
    let n = message_of d.form d.bbb d.xs in
    let is : structures_of n ≡ d.xs = structures_back d.form d.bbb d.xs in
    subst (λ (m : Message). Listed m s) (sym d.is) record {
      lawful = rw is d.lawful;
      number = ap length is;
      few = d.room;
      text = ap (drop (start_of d.form)) d.text ∙ behind d.form (length d.xs) d.bbb (written_all d.xs) ∙ ap written_all (sym is);
    }

-- i structures are passed and counted, and the next one begins at `place`
pub record Passed (m : Message) (s : List ℕ) (place i : ℕ) (before after : List ℕ) : Type 0 where
  pub done : i ≤ m.count
  pub rest : drop place s ≡ written_all (drop i (structures_of m))
  pub counts : Counts number_in (take i (structures_of m)) before after

pub passed_first : {m : Message} {s c : List ℕ} {place : ℕ} → Produces Edition.Current m s → place ≡ start_of m.form → Passed m s place 0 c c
passed_first {s = s} w e = record { done = omega arith; rest = ap (λ (p : ℕ). drop p s) e ∙ (listed w).text; counts = counts_none }

-- the next structure
module _ {m : Message} {s : List ℕ} {place i : ℕ} {a b : List ℕ} (w : Produces Edition.Current m s) (x : Passed m s place i a b) (l : i < m.count) where
  inside : i < length (structures_of m)
  inside = omega (arith, (listed w).number)

  abbrev here : Structure
  here = get_or (structures_of m) i Structure.Empty

  lawful : LawfulIn Edition.Current here
  lawful = each_at (LawfulIn Edition.Current) Structure.Empty (structures_of m) (listed w).lawful i inside

  abbrev after : List ℕ
  after = written_all (drop (suc i) (structures_of m))

  opens : drop place s ≡ written here ++ after
  opens = x.rest ∙ ap written_all (drop-cons (structures_of m) i Structure.Empty inside)

  pub next_room : (place + length (written here) ≤ length s) × (1 < length (drop place s))
  next_room =
      let long : length (drop place s) ≡ length (written here) + length after = ap length opens ∙ length-append (written here) after in
      (omega (arith, written_long here lawful.lawful, length-drop place s), omega (arith, written_long here lawful.lawful))

  -- and its row
  module _ {r : Row} (e : r ≡ row_there (take (length s - place) (drop place s))) where
    row_is : r ≡ row_of here
    row_is = e ∙ ap row_there (tail_part place s ∙ opens) ∙ row_written here after lawful.lawful

    pub next_low : r.number < BY_KIND
    next_low = rw row_is (kind_low here lawful)

    pub next_end : place + r.total ≤ length s
    next_end = rw row_is next_room.0

    pub passed_next : {c : List ℕ} → r.number < length b → c ≡ set b r.number (get_or b r.number 0 + 1)
        → Passed m s (place + r.total) (i + 1) a c
    passed_next {c} h is =
        let one : Counts number_in (here ∷ []) b c = counts_one (ap (λ (r : Row). r.number) row_is) h is in
        record {
          done = omega arith;
          rest =
              ap (λ (r : Row). drop (place + r.total) s) row_is
              ∙ sym (drop-drop (length (written here)) place s)
              ∙ ap (drop (length (written here))) opens
              ∙ drop-append_seam (written here) after
              ∙ ap (λ (n : ℕ). written_all (drop n (structures_of m))) (sym (add-one i));
          counts = rw (add-one i, take-suc (structures_of m) i Structure.Empty inside) (counts_then x.counts one);
        }

pub passed_low : {m : Message} {s : List ℕ} {place i : ℕ} {a b : List ℕ} → Produces Edition.Current m s → Passed m s place i a b
    → Below BY_KIND (2 ^ 63) a → Below BY_KIND (2 ^ 63 + 16) b
passed_low {m} {i = i} w x low = below_counts low x.counts (omega (arith, x.done, (listed w).few, length-take i (structures_of m)))

-- entries are counted as what they hold
how_many_held : (es : List Entry) (n : ℕ) → how_many number_in (map (λ (e : Entry). e.structure) es) n ≡ how_many kind_of es n
how_many_held [] n = refl
how_many_held (e ∷ es) n = ap (cond (eqb (kind_of e) n) 1 0 +◌) (how_many_held es n)

pub passed_all : {m : Message} {s : List ℕ} {place i : ℕ} {a b : List ℕ} → Produces Edition.Current m s → Passed m s place i a b → m.count ≤ i
    → Counts kind_of (take m.count m.entries) a b
passed_all {m} {i = i} {a} {b} w x h =
    let all : take i (structures_of m) ≡ structures_of m = take_all i (structures_of m) (omega (arith, (listed w).number)) in
    let counts : Counts number_in (structures_of m) a b = subst (λ (xs : List Structure). Counts number_in xs a b) all x.counts in
    let entries = take m.count m.entries in
    record { long = counts.long; each = λ n l. counts.each n l ∙ ap (get_or a n 0 +◌) (how_many_held entries n) }
