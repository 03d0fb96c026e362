-- The records once more, byte by byte: the tree of all records, and that the record of every message is a word of it.
use Rattle.std.specs.Prelude.{ℕ, zero, suc, ◌+◌, ◌≤◌, ◌≡◌, refl, cond, List, [], ◌∷◌, ◌++◌, map, eqb, length, drop}
use Rattle.std.proofs.Common.{sym, ap, ap₂, ◌∙◌, append_assoc, append-nil, arith}
use mathlib.Core.List.Memᴰ
use Rattle.std.proofs.Math.Option.{Option, some, none}
use Rattle.demand.specs.Each.{Each}
use Rattle.demand.specs.Numbers.{NESTED, TRAILING, REPEAT, TAG}
use Rattle.demand.specs.Laws.Tree.{Tree, fatal, ask, final, at, Ends}
use Rattle.demand.specs.Laws.Content.{Position, Fits, content, content_at, fits_join, shift, shift_out}
use Rattle.label.specs.declared.Edition.{Edition}
use Rattle.label.specs.declared.Form.{Form}
use Rattle.label.specs.declared.Kind.{Kind}
use Rattle.label.specs.declared.Message.{Message}
use Rattle.label.specs.declared.Structure.{Structure}
use Rattle.structure.specs.declared.Shape.{Shape}
use Rattle.structure.specs.declared.Spot.{Spot}
use Rattle.structure.specs.Structures.{kind_of, kinds_of, Among, number_of, Lawful, LawfulIn, written, numbered}
use Rattle.structure.specs.Laws.Head.{aa_of, bbb_of, head_out, head_back}
use Rattle.structure.specs.Laws.Kinds.{shape_positions}
use Rattle.structure.specs.Laws.Numbered.{numbered_among}
use Rattle.structure.specs.Laws.Spot.{kinds_at}
use Rattle.message.specs.Grammar.{message_of, Pairs, donation_in, donations, header, written_all, Produces, current}
use Rattle.message.specs.Grammar as grammar
use Rattle.message.specs.Laws.Donations.{spot_of, donations_append, among_after}
use Rattle.message.specs.Laws.Tree.{whole, seconds, paired, pairs_among}
use Rattle.message.specs.Laws.Write.{structures_back}
use Rattle.host_record.specs.Record.{field_of, fields_of, HEAD, head_field, record_by, record_of, Records}
use Rattle.host_record.specs.Laws.Fields.{lengths, lengths_out, field_positions, make_field, field_out}

-- past a tag: the field of the kind that has it, or what a miss gives
abbrev pub entered : Option Kind → Tree Message → (Structure → Tree Message) → Tree Message
entered none t go = t
entered (some k) t go = content (field_positions k) [] (λ c. go (make_field k c))

-- a place for one field of the kinds ks
abbrev pub slot : List Kind → (ℕ → Tree Message) → (Structure → Tree Message) → Tree Message
slot ks miss go = ask (λ t. entered (numbered ks t) (miss t) go)

-- the number of a tag that is none of a spot's
abbrev pub miss_tag : Spot → ℕ → ℕ
miss_tag Spot.First t = TAG
miss_tag Spot.First2001 t = TAG
miss_tag Spot.Within t = cond (eqb t HEAD) NESTED TAG
miss_tag Spot.Holding t = cond (eqb t HEAD) NESTED (cond (eqb t 1) REPEAT TAG)
miss_tag Spot.AfterDonation t = TRAILING
miss_tag Spot.AfterProduct t = TRAILING

abbrev pub missed : Spot → ℕ → Tree Message
missed spot t = fatal (miss_tag spot t)

-- n fields more after those of a compound so far
abbrev pub following : ℕ → ℕ → List Structure → Tree Message
following zero bbb xs = whole (message_of Form.Compound bbb xs)
following (suc n) bbb xs = slot (kinds_at (spot_of (donations xs))) (missed (spot_of (donations xs))) (λ x. following n bbb (xs ++ x ∷ []))

-- past tag 23: the length's two bytes, then aa and bbb, before which the second stands for the identifier's
abbrev pub head_past : List Position
head_past = lengths 5 ++ map (shift 1) (shape_positions Shape.Head)

abbrev pub counted : List ℕ → Tree Message
counted c = following (aa_of (drop 1 c)) (bbb_of (drop 1 c)) []

abbrev pub headed : List ℕ → Tree Message
headed c = counted (drop 1 c)

abbrev pub missed_first : ℕ → Tree Message
missed_first t = cond (eqb t HEAD) (content head_past [] headed) (fatal TAG)

-- the second field of a pair
abbrev pub seconding : Structure → Tree Message
seconding x = slot (seconds (kind_of x)) (λ t. fatal TRAILING) (paired x)

-- after a first field a record may end, or a pair go on
abbrev pub alone : Structure → Tree Message
alone x = final (message_of Form.Single 0 (x ∷ [])) (λ t. at (seconding x) (t ∷ []))

unfoldable pub records : Tree Message
records = slot (kinds_of Edition.Current) missed_first alone

module _ (ks : List Kind) (miss : ℕ → Tree Message) (go : Structure → Tree Message) where
  pub slot_in : {k : Kind} (s : List ℕ) → Among k ks
      → at (slot ks miss go) (number_of k ∷ s) ≡ at (content (field_positions k) [] (λ c. go (make_field k c))) s
  slot_in {k} s m = ap (λ (o : Option Kind). at (entered o (miss (number_of k)) go) s) (numbered_among m)

  -- a lawful structure's field leads to what follows it
  pub slot_at : {k : Kind} (x : Structure) (s : List ℕ) → Lawful x → kind_of x ≡ some k → Among k ks
      → at (slot ks miss go) (field_of x ++ s) ≡ at (go x) s
  slot_at {k} x s h kind m =
      let (k', c, f) = field_out x h in
      let e : k' ≡ k = cc f.kind in
      ap (λ (i : List ℕ). at (slot ks miss go) (i ++ s)) f.is
      ∙ slot_in (c ++ s) (Memᴰ.cast e m)
      ∙ content_at (λ c. go (make_field k' c)) s f.fits
      ∙ ap (λ (y : Structure). at (go y) s) f.made

-- what a record is made of, by the form of its message
pub data Recorded (m : Message) (r : List ℕ) : Type 0 where
  single : (x : Structure) → LawfulIn Edition.Current x → m ≡ message_of Form.Single 0 (x ∷ []) → r ≡ field_of x → Recorded m r
  pair : (x y : Structure) (h : LawfulIn Edition.Current x) (g : LawfulIn Edition.Current y) → Pairs h.kind g.kind
      → m ≡ message_of Form.Pair 0 (x ∷ y ∷ []) → r ≡ field_of x ++ field_of y → Recorded m r
  compound : (bbb : ℕ) (xs : List Structure) → 1 ≤ length xs → length xs ≤ 16 → bbb ≤ 999 → Each (LawfulIn Edition.Current) xs
      → donations xs ≤ 1 → m ≡ message_of Form.Compound bbb xs → r ≡ head_field (length xs) bbb ++ fields_of xs → Recorded m r

-- the record of a message by what the message was made of
pub record_made : (form : Form) (bbb : ℕ) (xs : List Structure) {m : Message} → m ≡ message_of form bbb xs → record_of m ≡ record_by form bbb xs
record_made form bbb xs is = ap record_of is ∙ ap (record_by form bbb) (structures_back form bbb xs)

pub recorded : {m : Message} {r : List ℕ} → Records m r → Recorded m r
recorded {m} {r} h = by h.accepted
  where
    by : {s : List ℕ} → Produces Edition.Current m s → Recorded m r
    by (grammar.single x l is e) = single x l is (h.is ∙ record_made Form.Single 0 (x ∷ []) is ∙ append-nil (field_of x))
    by (grammar.pair x y f g p is e) =
        pair x y f g p is (h.is ∙ record_made Form.Pair 0 (x ∷ y ∷ []) is ∙ ap (field_of x ++◌) (append-nil (field_of y)))
    by (grammar.compound c bbb xs lo hi small hs d is e) =
        compound bbb xs lo hi small hs d is (h.is ∙ record_made Form.Compound bbb xs is)

pub records_of : {m : Message} {r : List ℕ} → Recorded m r → Records m r
records_of (single x h is e) =
    record {
      label = written x;
      accepted = grammar.single x h is refl;
      is = e ∙ sym (append-nil (field_of x)) ∙ sym (record_made Form.Single 0 (x ∷ []) is);
    }
records_of (pair x y f g p is e) =
    record {
      label = written x ++ written y;
      accepted = grammar.pair x y f g p is refl;
      is = e ∙ ap (field_of x ++◌) (sym (append-nil (field_of y))) ∙ sym (record_made Form.Pair 0 (x ∷ y ∷ []) is);
    }
records_of (compound bbb xs lo hi small hs d is e) =
    record {
      label = header (length xs) bbb ++ written_all xs;
      accepted = grammar.compound current bbb xs lo hi small hs d is refl;
      is = e ∙ sym (record_made Form.Compound bbb xs is);
    }

-- a lone field leads to the node after it
pub alone_node : (x : Structure) (s : List ℕ) → LawfulIn Edition.Current x → at records (field_of x ++ s) ≡ at (alone x) s
unfolding records
alone_node x s h = slot_at (kinds_of Edition.Current) missed_first alone x s h.lawful h.is h.among

pub single_node : (x : Structure) → LawfulIn Edition.Current x → at records (field_of x) ≡ alone x
single_node x h = ap (at records) (sym (append-nil (field_of x))) ∙ alone_node x [] h

pub pair_node : (x y : Structure) (h : LawfulIn Edition.Current x) (g : LawfulIn Edition.Current y) → Pairs h.kind g.kind
    → at records (field_of x ++ field_of y) ≡ paired x y
pair_node x y h g p =
    let m : Among g.kind (seconds (kind_of x)) = rw h.is (pairs_among p) in
    alone_node x (field_of y) h
    ∙ ap (at (seconding x)) (sym (append-nil (field_of y)))
    ∙ slot_at (seconds (kind_of x)) (λ t. fatal TRAILING) (paired x) y [] g.lawful g.is m

following_at : (bbb : ℕ) (xs ys : List Structure) (m n : ℕ) → Each (LawfulIn Edition.Current) xs → donations ys + donations xs ≤ 1
    → m ≡ length xs + n → at (following m bbb ys) (fields_of xs) ≡ following n bbb (ys ++ xs)
following_at bbb [] ys m n hs d e =
    let is : m ≡ n = omega arith in ap₂ (λ (i : ℕ) (l : List Structure). following i bbb l) is (sym (append-nil ys))
following_at bbb (x ∷ xs) ys m n (h, hs) d e =
    let k = h.kind in
    let is : m ≡ suc (length xs + n) = omega arith in
    let one : donation_in (kind_of x) ≡ donation_in (some k) = ap donation_in h.is in
    let few : donations (ys ++ x ∷ []) + donations xs ≤ 1 = omega (arith, donations_append ys (x ∷ [])) in
    let held = donations ys in
    ap (λ (i : ℕ). at (following i bbb ys) (field_of x ++ fields_of xs)) is
    ∙ slot_at (kinds_at (spot_of held)) (missed (spot_of held)) (λ x. following (length xs + n) bbb (ys ++ x ∷ [])) x (fields_of xs)
    h.lawful h.is (among_after held k h.among (omega arith))
    ∙ following_at bbb xs (ys ++ x ∷ []) (length xs + n) n hs few refl
    ∙ ap (following n bbb) (append_assoc ys (x ∷ []) xs)

-- past tag 23 the head's content fits
pub head_fits : (aa bbb : ℕ) → 1 ≤ aa → aa ≤ 16 → Fits head_past [] (drop 1 (head_field aa bbb))
head_fits aa bbb lo hi = fits_join (lengths_out 5) (shift_out (0 ∷ []) (shift_out (5 ∷ []) (head_out aa bbb lo hi)))

-- the head and some of its fields lead to the place of the next
pub compound_node : (aa bbb : ℕ) (xs : List Structure) (n : ℕ) → 1 ≤ aa → aa ≤ 16 → bbb ≤ 999 → Each (LawfulIn Edition.Current) xs
    → donations xs ≤ 1 → aa ≡ length xs + n → at records (head_field aa bbb ++ fields_of xs) ≡ following n bbb xs
unfolding records
compound_node aa bbb xs n lo hi small hs d e =
    let (a, b) = head_back aa bbb hi small in
    content_at headed (fields_of xs) (head_fits aa bbb lo hi)
    ∙ ap₂ (λ (i j : ℕ). at (following i j []) (fields_of xs)) a b
    ∙ following_at bbb xs [] aa n hs (omega arith) e

pub record_out : (m : Message) (r : List ℕ) → Records m r → Ends (at records r) m
record_out m r h = by (recorded h)
  where
    by : Recorded m r → Ends (at records r) m
    by (single x f is e) = rw (e, single_node x f) (sym is)
    by (pair x y f g p is e) = rw (e, pair_node x y f g p) (sym is)
    by (compound bbb xs lo hi small hs d is e) = rw (e, compound_node (length xs) bbb xs 0 lo hi small hs d (omega arith)) (sym is)
