-- Reading structure by structure, over whatever language of messages: where the reader stands, and what is left to run.
use Rattle.std.specs.Prelude.{ℕ, zero, suc, ◌+◌, ◌-◌, ◌^◌, ◌≤◌, ◌<◌, ◌≡◌, refl, Bool, true, false, List, [], ◌∷◌, ◌++◌, ltb, length, get_or, set, take, drop}
use Rattle.std.specs.Prelude.{replicate, Option, Some, None, Result, Ok, Err}
use Rattle.std.proofs.Common.{sym, ap, ap₂, ◌∙◌, subst, append_assoc, ⊎_elim, ltb-true, ltb-false, arith, length-append, length-drop, drop-cons, drop-drop}
use Rattle.std.proofs.Math.Option.{some}
use Rattle.std.proofs.Math.Seq.{drop-length}
use Rattle.std.proofs.lemmas.List.{set_at}
use Rattle.demand.specs.Demand.{Answer, accepted, refused}
use Rattle.demand.specs.Numbers.{SHORT, TRAILING}
use Rattle.demand.specs.declared.Refusal as reasons
use Rattle.demand.specs.declared.Stop.{Stop}
use Rattle.demand.specs.Numbered.{number_of}
use Rattle.demand.specs.Stops.{behind, PlacedBehind}
use Rattle.demand.specs.Laws.Cells.{tail_part}
use Rattle.demand.specs.Laws.Tree.{Tree, fatal, final, walk, at}
use Rattle.label.specs.declared.Structure.{Structure}
use Rattle.label.specs.declared.Kind.{Kind}
use Rattle.label.specs.declared.Form.{Form}
use Rattle.label.specs.declared.Entry.{Entry}
use Rattle.label.specs.declared.Message.{Message}
use Rattle.message_reader.specs.declared.Beginning.{Beginning}
use Rattle.message_reader.specs.declared.Next.{Next}
use Rattle.message_reader.specs.declared.Taken.{Taken}
use Rattle.message.specs.declared.Reading.{Reading}
use Rattle.structure.specs.declared.Spot.{Spot}
use Rattle.structure.specs.Structures.{kind_of, written}
use Rattle.message.specs.Grammar.{entry_of, no_entry, entries_from, places, start_of, message_of, donation_in, donations, written_all}
use Rattle.message.specs.Laws.Places.{length_entries, entries_on, written_on}
use Rattle.message.specs.Laws.Donations.{spot_of, donations_append}
use Rattle.message.specs.Laws.Answers.{Refusal}
use Rattle.message.specs.Laws.Tree.{paired}
use Rattle.message.specs.Laws.Tree as tree
use Rattle.message_reader.specs.Laws.Hope.{second_of, is_first, first_spots, after_first, moved, next_of, second_kind}

-- the structures so far fit the spot
abbrev pub Stage : Spot → ℕ → List Structure → Type 0
Stage Spot.First zero xs = (x : Structure) × (xs ≡ x ∷ [])
Stage Spot.First (suc left) xs = (left ≡ 0) × (xs ≡ [])
Stage Spot.First2001 zero xs = (x : Structure) × (xs ≡ x ∷ [])
Stage Spot.First2001 (suc left) xs = (left ≡ 0) × (xs ≡ [])
Stage Spot.Within left xs = (length xs + left ≤ 16) × (donations xs ≡ 0)
Stage Spot.Holding left xs = (length xs + left ≤ 16) × (0 < donations xs)
Stage Spot.AfterDonation zero xs = (x : Structure) × (y : Structure) × (xs ≡ x ∷ y ∷ [])
Stage Spot.AfterDonation (suc left) xs = (x : Structure) × (left ≡ 0) × (xs ≡ x ∷ []) × (kind_of x ≡ some Kind.Donation)
Stage Spot.AfterProduct zero xs = (x : Structure) × (y : Structure) × (xs ≡ x ∷ y ∷ [])
Stage Spot.AfterProduct (suc left) xs = (x : Structure) × (left ≡ 0) × (xs ≡ x ∷ []) × (kind_of x ≡ some Kind.Product)

stage_on : (spot : Spot) (left : ℕ) (xs : List Structure) (y : Structure) → Stage spot (suc left) xs → Stage (moved spot y) left (xs ++ y ∷ [])
stage_on Spot.First left xs y (l, e) = rw (l, e) (y, refl)
stage_on Spot.First2001 left xs y (l, e) = rw (l, e) (y, refl)
stage_on Spot.Within left xs y (h, d) = by (donation_in (kind_of y)) refl
  where
    by : (m : ℕ) → donation_in (kind_of y) ≡ m → Stage (spot_of m) left (xs ++ y ∷ [])
    by zero e = (omega (arith, length-append xs (y ∷ [])), omega (arith, donations_append xs (y ∷ [])))
    by (suc m) e = (omega (arith, length-append xs (y ∷ [])), omega (arith, donations_append xs (y ∷ [])))
stage_on Spot.Holding left xs y (h, d) = (omega (arith, length-append xs (y ∷ [])), omega (arith, donations_append xs (y ∷ [])))
stage_on Spot.AfterDonation left xs y (x, l, e, k) = rw (l, e) (x, y, refl)
stage_on Spot.AfterProduct left xs y (x, l, e, k) = rw (l, e) (x, y, refl)

stage_room : (spot : Spot) (left : ℕ) (xs : List Structure) → Stage spot (suc left) xs → length xs < 16
stage_room Spot.First left xs (l, e) = rw e (omega arith)
stage_room Spot.First2001 left xs (l, e) = rw e (omega arith)
stage_room Spot.Within left xs (h, d) = omega arith
stage_room Spot.Holding left xs (h, d) = omega arith
stage_room Spot.AfterDonation left xs (x, l, e, k) = rw e (omega arith)
stage_room Spot.AfterProduct left xs (x, l, e, k) = rw e (omega arith)

-- at a first spot no structure is to come but the one there
stage_alone : (spot : Spot) (left : ℕ) (xs : List Structure) → Stage spot (suc left) xs → is_first spot ≡ true → left ≡ 0
stage_alone spot left xs h e = ⊎_elim (λ i. (rw i at h).0) (λ i. (rw i at h).0) (first_spots spot e)

-- bbb is 0 but in a compound
abbrev pub BbbOf : Spot → ℕ → Type 0
BbbOf Spot.First bbb = bbb ≡ 0
BbbOf Spot.First2001 bbb = bbb ≡ 0
BbbOf Spot.Within bbb = Unit
BbbOf Spot.Holding bbb = Unit
BbbOf Spot.AfterDonation bbb = bbb ≡ 0
BbbOf Spot.AfterProduct bbb = bbb ≡ 0

-- what is known of a spot stays so where the reader moves on
bbb_on : (spot : Spot) (y : Structure) (bbb : ℕ) → BbbOf spot bbb → BbbOf (moved spot y) bbb
bbb_on Spot.First y bbb h = h
bbb_on Spot.First2001 y bbb h = h
bbb_on Spot.Within y bbb h = by (donation_in (kind_of y))
  where
    by : (m : ℕ) → BbbOf (spot_of m) bbb
    by zero = tt
    by (suc m) = tt
bbb_on Spot.Holding y bbb h = h
bbb_on Spot.AfterDonation y bbb h = h
bbb_on Spot.AfterProduct y bbb h = h

-- the form of a whole message
abbrev pub form_of : Spot → Form
form_of Spot.First = Form.Single
form_of Spot.First2001 = Form.Single
form_of Spot.Within = Form.Compound
form_of Spot.Holding = Form.Compound
form_of Spot.AfterDonation = Form.Pair
form_of Spot.AfterProduct = Form.Pair

-- where the first structure stands in the label, by the spot; a structure more moves no other
abbrev pub start_at : Spot → ℕ
start_at spot = start_of (form_of spot)

start_on : (spot : Spot) (y : Structure) → start_at spot ≡ start_at (moved spot y)
start_on Spot.First y = refl
start_on Spot.First2001 y = refl
start_on Spot.Within y = by (donation_in (kind_of y))
  where
    by : (m : ℕ) → 7 ≡ start_at (spot_of m)
    by zero = refl
    by (suc m) = refl
start_on Spot.Holding y = refl
start_on Spot.AfterDonation y = refl
start_on Spot.AfterProduct y = refl

-- a first structure with bytes behind it has no second to hope for
abbrev pub Settled : Spot → List Structure → Type 0
Settled Spot.First xs = (x : Structure) → xs ≡ x ∷ [] → second_of x ≡ None
Settled Spot.First2001 xs = (x : Structure) → xs ≡ x ∷ [] → second_of x ≡ None
Settled Spot.Within xs = Unit
Settled Spot.Holding xs = Unit
Settled Spot.AfterDonation xs = Unit
Settled Spot.AfterProduct xs = Unit

-- a language of messages, as trees: where a first structure is due, the structures to come of a compound, and a pair's second
pub record Trees : Type 0 where
  pub first : Tree Message
  pub first_2001 : Tree Message
  pub several : ℕ → ℕ → List Structure → Tree Message
  pub second : Structure → Tree Message
  -- a compound with no structure to come is whole; a second is asked for; and where none is called for, nothing follows
  pub complete : (bbb : ℕ) (xs : List Structure) → several 0 bbb xs ≡ tree.whole (message_of Form.Compound bbb xs)
  pub asks : (x : Structure) (b : ℕ) (l : List ℕ) (j : ℕ) → walk (at (second x) (b ∷ [])) l (suc j) ≡ walk (second x) (b ∷ l) j
  pub hopeless : (x : Structure) (b : ℕ) → second_of x ≡ None → at (second x) (b ∷ []) ≡ fatal TRAILING

-- after a first structure a message may end, or a pair go on
abbrev alone : Trees → Structure → Tree Message
alone τ x = final (message_of Form.Single 0 (x ∷ [])) (λ a. at (τ.second x) (a ∷ []))

-- the tree at a spot with `left` structures to come after xs
abbrev pub node : Trees → Spot → ℕ → ℕ → List Structure → Tree Message
node τ Spot.First left bbb [] = τ.first
node τ Spot.First left bbb (x ∷ xs) = alone τ x
node τ Spot.First2001 left bbb [] = τ.first_2001
node τ Spot.First2001 left bbb (x ∷ xs) = alone τ x
node τ Spot.Within left bbb xs = τ.several left bbb xs
node τ Spot.Holding left bbb xs = τ.several left bbb xs
node τ Spot.AfterDonation left bbb [] = fatal TRAILING
node τ Spot.AfterDonation left bbb (x ∷ []) = τ.second x
node τ Spot.AfterDonation left bbb (x ∷ y ∷ xs) = paired x y
node τ Spot.AfterProduct left bbb [] = fatal TRAILING
node τ Spot.AfterProduct left bbb (x ∷ []) = τ.second x
node τ Spot.AfterProduct left bbb (x ∷ y ∷ xs) = paired x y

-- a structure that was read changes the spot and no tree
node_on : (τ : Trees) (spot : Spot) (y : Structure) (left bbb : ℕ) (xs : List Structure) → node τ spot left bbb xs ≡ node τ (moved spot y) left bbb xs
node_on τ Spot.First y left bbb xs = refl
node_on τ Spot.First2001 y left bbb xs = refl
node_on τ Spot.Within y left bbb xs = by (donation_in (kind_of y))
  where
    by : (m : ℕ) → τ.several left bbb xs ≡ node τ (spot_of m) left bbb xs
    by zero = refl
    by (suc m) = refl
node_on τ Spot.Holding y left bbb xs = refl
node_on τ Spot.AfterDonation y left bbb xs = refl
node_on τ Spot.AfterProduct y left bbb xs = refl

-- where no structure is to come the node is a whole message's, and bytes after it are refused
node_ends : (τ : Trees) (spot : Spot) (bbb : ℕ) (xs : List Structure) (j : ℕ) → Stage spot 0 xs → BbbOf spot bbb
    → walk (node τ spot 0 bbb xs) [] j ≡ accepted (message_of (form_of spot) bbb xs) j
node_ends τ Spot.First bbb xs j (x, e) h = rw (e, h)
node_ends τ Spot.First2001 bbb xs j (x, e) h = rw (e, h)
node_ends τ Spot.Within bbb xs j e h = rw (τ.complete bbb xs)
node_ends τ Spot.Holding bbb xs j e h = rw (τ.complete bbb xs)
node_ends τ Spot.AfterDonation bbb xs j (x, y, e) h = rw (e, h)
node_ends τ Spot.AfterProduct bbb xs j (x, y, e) h = rw (e, h)

node_trails : (τ : Trees) (spot : Spot) (bbb : ℕ) (xs : List Structure) (b : ℕ) (l : List ℕ) (j : ℕ) → Stage spot 0 xs → Settled spot xs
    → walk (node τ spot 0 bbb xs) (b ∷ l) j ≡ refused TRAILING j
node_trails τ Spot.First bbb xs b l j (x, e) h = rw e (ap (λ (t : Tree Message). walk t l (suc j)) (τ.hopeless x b (h x e)))
node_trails τ Spot.First2001 bbb xs b l j (x, e) h = rw e (ap (λ (t : Tree Message). walk t l (suc j)) (τ.hopeless x b (h x e)))
node_trails τ Spot.Within bbb xs b l j e h = rw (τ.complete bbb xs)
node_trails τ Spot.Holding bbb xs b l j e h = rw (τ.complete bbb xs)
node_trails τ Spot.AfterDonation bbb xs b l j (x, y, e) h = rw e
node_trails τ Spot.AfterProduct bbb xs b l j (x, y, e) h = rw e

-- a byte after a first structure leads on as it does where a second is due
node_hopes : (τ : Trees) (bbb : ℕ) (y : Structure) (z : Spot) (b : ℕ) (l : List ℕ) (j : ℕ) → second_of y ≡ Some z
    → walk (alone τ y) (b ∷ l) j ≡ walk (node τ z 1 bbb (y ∷ [])) (b ∷ l) j
node_hopes τ bbb y z b l j e = τ.asks y b l j ∙ ⊎_elim (λ c. rw c.0) (λ c. rw c.0) (second_kind y z e)

-- a structure stored at its place
places_on : (p : ℕ) (xs : List Structure) (y : Structure) → length xs < 16
    → set (places p xs) (length xs) (entry_of (p + length (written_all xs)) y) ≡ places p (xs ++ y ∷ [])
places_on p xs y h =
    let k = 16 - length (xs ++ y ∷ []) in
    let e = entry_of (p + length (written_all xs)) y in
    let one_more : 16 - length xs ≡ suc k = omega (arith, length-append xs (y ∷ [])) in
    ap (λ (m : ℕ). set (entries_from p xs ++ replicate m no_entry) (length xs) e) one_more
    ∙ set_at (entries_from p xs) no_entry (replicate k no_entry) e (length xs) (length_entries p xs)
    ∙ sym (ap (◌++ replicate k no_entry) (entries_on p xs y) ∙ append_assoc (entries_from p xs) (e ∷ []) (replicate k no_entry))

-- an entry as code stores it
abbrev pub stored : ℕ → Structure → ℕ → Entry
stored place y n = record { structure = y; place = place; length = n }

-- where the reader stands in the bytes s, and the place of that in the label: the structures so far, and what is left to run
pub record Going (τ : Trees) (told : Answer Message) (s : List ℕ) (entries : List Entry) (at place number left bbb : ℕ) (spot : Spot)
    (xs : List Structure) : Type 0 where
  pub filled : entries ≡ places (start_at spot) xs
  pub stands : place ≡ start_at spot + length (written_all xs)
  pub counted : number ≡ length xs
  pub within : at ≤ length s
  pub stage : Stage spot left xs
  pub held : BbbOf spot bbb
  pub runs : told ≡ walk (node τ spot left bbb xs) (drop at s) at

pub record RunningIn (τ : Trees) (told : Answer Message) (s : List ℕ) (entries : List Entry) (at place number left bbb : ℕ) (spot : Spot) : Type 0
  where
    pub xs : List Structure
    pub going : Going τ told s entries at place number left bbb spot xs
    pub settled : at < length s → Settled spot xs

-- before any structure
pub none_yet : {τ : Trees} {told : Answer Message} (s : List ℕ) (at left bbb : ℕ) (spot : Spot) → at ≤ length s → Stage spot left []
    → BbbOf spot bbb → told ≡ walk (node τ spot left bbb []) (drop at s) at
    → RunningIn τ told s (places (start_at spot) []) at (start_at spot) 0 left bbb spot
none_yet s at left bbb spot l stage held runs =
    record {
      xs = [];
      going = record { filled = refl; stands = omega arith; counted = refl; within = l; stage = stage; held = held; runs = runs };
      settled = λ m. settles spot;
    }
  where
    no_first : (x : Structure) → [] ≡ x ∷ [] → ⊥
    no_first x i = let z : ◌≡◌ {A = ℕ} 0 1 = cc in omega arith

    settles : (spot : Spot) → Settled spot []
    settles Spot.First = λ x e. absurd (no_first x e)
    settles Spot.First2001 = λ x e. absurd (no_first x e)
    settles Spot.Within = tt
    settles Spot.Holding = tt
    settles Spot.AfterDonation = tt
    settles Spot.AfterProduct = tt

module _ (τ : Trees) (told : Answer Message) (s : List ℕ) where
  -- a structure of n bytes more, of which so many are the label's
  module _ (entries : List Entry) (at place number left bbb : ℕ) (spot : Spot) (r : RunningIn τ told s entries at place number (suc left) bbb spot)
      (y : Structure) (n long : ℕ) (reach : n ≤ length s - at) (is : long ≡ length (written y))
      (runs : told ≡ walk (node τ spot left bbb (r.xs ++ y ∷ [])) (drop (at + n) s) (at + n)) where
    gone : Going τ told s (set entries number (stored place y long)) (at + n) (place + long) (number + 1) left bbb (moved spot y) (r.xs ++ y ∷ [])
    gone =
        let room = stage_room spot left r.xs r.going.stage in
        let there : stored place y long ≡ entry_of (start_at spot + length (written_all r.xs)) y =
        ap₂ (λ (p m : ℕ). stored p y m) r.going.stands is in
        record {
          filled = ap₂ (λ (l : List Entry) (i : ℕ). set l i (stored place y long)) r.going.filled r.going.counted
              ∙ ap (set (places (start_at spot) r.xs) (length r.xs)) there
              ∙ places_on (start_at spot) r.xs y room
              ∙ ap (λ (p : ℕ). places p (r.xs ++ y ∷ [])) (start_on spot y);
          stands = omega (arith, r.going.stands, is, written_on r.xs y, start_on spot y);
          counted = omega (arith, r.going.counted, length-append r.xs (y ∷ []));
          within = omega (arith, r.going.within);
          stage = stage_on spot left r.xs y r.going.stage;
          held = bbb_on spot y bbb r.going.held;
          runs = runs ∙ ap (λ (t : Tree Message). walk t (drop (at + n) s) (at + n)) (node_on τ spot y left bbb (r.xs ++ y ∷ []));
        }

  -- the reader after a structure: on to a hoped-for second, or one structure fewer to come
  module _ (entries : List Entry) (at place number left bbb : ℕ) (y : Structure) where
    abbrev Goes : Spot → List Structure → Type 0
    Goes spot xs = Going τ told s entries at place number left bbb spot xs

    abbrev On : Next → Type 0
    On n = RunningIn τ told s entries at place number n.left bbb n.spot

    -- a first structure that calls for a second, with bytes behind it
    hoped : (z : Spot) → Goes Spot.First (y ∷ []) → at < length s → second_of y ≡ Some z → Stage z 1 (y ∷ []) → BbbOf z bbb
        → Settled z (y ∷ []) → 0 ≡ start_at z → RunningIn τ told s entries at place number 1 bbb z
    hoped z g l e stage held settled start =
        let cut : drop at s ≡ get_or s at 0 ∷ drop (suc at) s = drop-cons s at 0 l in
        let runs = g.runs
        ∙ ap (λ (r : List ℕ). walk (node τ Spot.First left bbb (y ∷ [])) r at) cut
        ∙ node_hopes τ bbb y z (get_or s at 0) (drop (suc at) s) at e
        ∙ sym (ap (λ (r : List ℕ). walk (node τ z 1 bbb (y ∷ [])) r at) cut) in
        record {
          xs = y ∷ [];
          going = record {
            filled = g.filled ∙ ap (λ (p : ℕ). places p (y ∷ [])) start;
            stands = g.stands ∙ ap (◌+ length (written_all (y ∷ []))) start;
            counted = g.counted;
            within = g.within;
            stage = stage;
            held = held;
            runs = runs;
          };
          settled = λ m. settled;
        }

    hope_on : (here : Spot) (o : Option Spot) → second_of y ≡ o → Goes here (y ∷ []) → Goes Spot.First (y ∷ [])
        → (second_of y ≡ None → Settled here (y ∷ [])) → at < length s → On (after_first here o (suc left))
    hope_on here None e f g c l = record { xs = y ∷ []; going = f; settled = λ m. c e }
    hope_on here (Some spot) e f g c l = ⊎_elim donation product (second_kind y spot e)
      where
        donation : (spot ≡ Spot.AfterDonation) × (kind_of y ≡ some Kind.Donation) → RunningIn τ told s entries at place number 1 bbb spot
        donation (i, k) = rw i (hoped Spot.AfterDonation g l (rw i at e) (y, refl, refl, k) g.held tt refl)

        product : (spot ≡ Spot.AfterProduct) × (kind_of y ≡ some Kind.Product) → RunningIn τ told s entries at place number 1 bbb spot
        product (i, k) = rw i (hoped Spot.AfterProduct g l (rw i at e) (y, refl, refl, k) g.held tt refl)

    -- which has no second to hope for
    lone_settled : second_of y ≡ None → (x : Structure) → y ∷ [] ≡ x ∷ [] → second_of x ≡ None
    lone_settled e x i = let is : x ≡ y = cc in rw is e

    as_first : Goes Spot.First2001 (y ∷ []) → Goes Spot.First (y ∷ [])
    as_first g =
        record {
          filled = g.filled;
          stands = g.stands;
          counted = g.counted;
          within = g.within;
          stage = stage left g.stage;
          held = g.held;
          runs = g.runs;
        }
      where
        stage : (n : ℕ) → Stage Spot.First2001 n (y ∷ []) → Stage Spot.First n (y ∷ [])
        stage zero h = h
        stage (suc n) h = h

    settle : (spot : Spot) (ys : List Structure) → Goes (moved spot y) (ys ++ y ∷ []) → Stage spot (suc left) ys
        → (more : Bool) → ltb at (length s) ≡ more → On (next_of spot y more (suc left))
    settle Spot.First ys g (l, e) false m =
        let past = ltb-false at (length s) m in
        record { xs = ys ++ y ∷ []; going = g; settled = λ h x i. absurd (omega arith) }
    settle Spot.First ys g (l, e) true m =
        let f = subst (λ (zs : List Structure). Goes Spot.First (zs ++ y ∷ [])) e g in
        hope_on Spot.First (second_of y) refl f f lone_settled (ltb-true at (length s) m)
    settle Spot.First2001 ys g (l, e) false m =
        let past = ltb-false at (length s) m in
        record { xs = ys ++ y ∷ []; going = g; settled = λ h x i. absurd (omega arith) }
    settle Spot.First2001 ys g (l, e) true m =
        let f = subst (λ (zs : List Structure). Goes Spot.First2001 (zs ++ y ∷ [])) e g in
        hope_on Spot.First2001 (second_of y) refl f (as_first f) lone_settled (ltb-true at (length s) m)
    settle Spot.Within ys g h more m = record { xs = ys ++ y ∷ []; going = g; settled = λ l. by (donation_in (kind_of y)) }
      where
        by : (m : ℕ) → Settled (spot_of m) (ys ++ y ∷ [])
        by zero = tt
        by (suc m) = tt
    settle Spot.Holding ys g h more m = record { xs = ys ++ y ∷ []; going = g; settled = λ l. tt }
    settle Spot.AfterDonation ys g h more m = record { xs = ys ++ y ∷ []; going = g; settled = λ l. tt }
    settle Spot.AfterProduct ys g h more m = record { xs = ys ++ y ∷ []; going = g; settled = λ l. tt }

  -- a structure more
  whole_on : (entries : List Entry) (at place number left bbb : ℕ) (spot : Spot) (r : RunningIn τ told s entries at place number (suc left) bbb spot)
      (y : Structure) (n long : ℕ) → n ≤ length s - at → long ≡ length (written y)
      → told ≡ walk (node τ spot left bbb (r.xs ++ y ∷ [])) (drop (at + n) s) (at + n)
      → On (set entries number (stored place y long)) (at + n) (place + long) (number + 1) left bbb y
      (next_of spot y (ltb (at + n) (length s)) (suc left))
  whole_on entries at place number left bbb spot r y n long reach is runs =
      settle (set entries number (stored place y long)) (at + n) (place + long) (number + 1) left bbb y spot r.xs
      (gone entries at place number left bbb spot r y n long reach is runs) r.going.stage (ltb (at + n) (length s)) refl

  -- with no structure to come
  module _ {entries : List Entry} {at place number bbb : ℕ} {spot : Spot} (r : RunningIn τ told s entries at place number 0 bbb spot) where
    abbrev message : Message
    message = record { entries = entries; count = number; bbb = bbb; form = form_of spot }

    whole_message : message_of (form_of spot) bbb r.xs ≡ message
    whole_message = λ i. record { entries = sym r.going.filled i; count = sym r.going.counted i; bbb = bbb; form = form_of spot }

    accepted_at : at ≡ length s → told ≡ accepted message at
    accepted_at e =
        r.going.runs
        ∙ ap (λ (l : List ℕ). walk (node τ spot 0 bbb r.xs) l at) (ap (λ (m : ℕ). drop m s) e ∙ drop-length s)
        ∙ node_ends τ spot bbb r.xs at r.going.stage r.going.held
        ∙ ap (λ (m : Message). accepted m at) whole_message

    trailing_at : at < length s → told ≡ refused TRAILING at
    trailing_at l =
        r.going.runs
        ∙ ap (λ (m : List ℕ). walk (node τ spot 0 bbb r.xs) m at) (drop-cons s at 0 l)
        ∙ node_trails τ spot bbb r.xs (get_or s at 0) (drop (suc at) s) at r.going.stage (r.settled l)

-- a reading gives an answer
abbrev pub Gives : Answer Message → Reading → Type 0
Gives (accepted m k) r = r ≡ record { message = m; place = k; refusal = 0 }
Gives (refused n k) r = Refusal n k r

pub gives_same : {told due : Answer Message} (r : Reading) → told ≡ due → Gives due r → Gives told r
gives_same r e g = subst (λ (a : Answer Message). Gives a r) (sym e) g

-- a reading of a whole message that ends at a place of n bytes
pub data Ended (m : Message) (at n : ℕ) (r : Reading) : Type 0 where
  trailing : at < n → Refusal TRAILING at r → Ended m at n r
  complete : n ≤ at → r ≡ record { message = m; place = at; refusal = 0 } → Ended m at n r

-- where a structure is still to come, or none
module _ {τ : Trees} {told : Answer Message} {s : List ℕ} {entries : List Entry} {at place number left bbb : ℕ} {spot : Spot}
    (r : RunningIn τ told s entries at place number left bbb spot) where
  one_more : 0 < left → left ≡ suc (left - 1)
  one_more due = omega arith

  pub more : 0 < left → RunningIn τ told s entries at place number (suc (left - 1)) bbb spot
  more due = rw (one_more due) at r

  pub room_in : 0 < left → number < 16
  room_in due = omega (arith, (more due).going.counted, stage_room spot (left - 1) (more due).xs (more due).going.stage)

  pub alone_in : 0 < left → is_first spot ≡ true → left ≡ 1
  alone_in due e = omega (arith, stage_alone spot (left - 1) (more due).xs (more due).going.stage e)

  done : left ≤ 0 → RunningIn τ told s entries at place number 0 bbb spot
  done z = let none_left : left ≡ 0 = omega arith in rw none_left at r

  -- it answers where no structure is to come
  pub ends_in : left ≤ 0 → {form : Form} {q : Reading} → form ≡ form_of spot
      → Ended record { entries = entries; count = number; bbb = bbb; form = form } at (length s) q → Gives told q
  ends_in z f (trailing l n) = gives_same _ (trailing_at τ told s (done z) l) n
  ends_in z {form} {q} f (complete l e) =
      let all : at ≡ length s = omega (arith, r.going.within) in
      let m : Message = record { entries = entries; count = number; bbb = bbb; form = form } in
      let is : told ≡ accepted m at = rw f (accepted_at τ told s (done z) all) in
      gives_same q is e

-- a place for one structure at each spot, which is what the trees have where one is to come
pub record Dues (τ : Trees) : Type 0 where
  pub due : Spot → (Structure → Tree Message) → Tree Message
  pub is : (spot : Spot) (left bbb : ℕ) (xs : List Structure) → Stage spot (suc left) xs
      → node τ spot (suc left) bbb xs ≡ due spot (λ y. node τ spot left bbb (xs ++ y ∷ []))

-- the answer, where `go` is the tree of what follows the structure, s the part from it on and j the place of that part
abbrev pub outcome : Result Taken Stop → (Structure → Tree Message) → List ℕ → ℕ → Answer Message
outcome (Ok f) go s j = walk (go f.structure) (drop f.past s) (f.past + j)
outcome (Err Stop.Short) go s j = refused SHORT (length s + j)
outcome (Err (Stop.Refused r i)) go s j = refused (number_of r) (i + j)

-- how far it reaches
abbrev pub Reaches : Result Taken Stop → List ℕ → Type 0
Reaches (Ok f) s = (0 < f.past) × (f.past ≤ length s) × (f.long ≡ length (written f.structure)) × (f.long ≤ f.past)
Reaches (Err Stop.Short) s = Unit
Reaches (Err (Stop.Refused r i)) s = i < length s

-- what code finds where the tree t is to be walked: a whole structure, an end before it is whole, or a refusal at a place
pub record Takes (t : (Structure → Tree Message) → Tree Message) (s : List ℕ) (f : Result Taken Stop) : Type 0 where
  pub follows : (go : Structure → Tree Message) (j : ℕ) → walk (t go) s j ≡ outcome f go s j
  pub reaches : Reaches f s

-- the answer of bytes that stop before they are whole, of which there are n
abbrev pub stopped : Stop → ℕ → Answer Message
stopped Stop.Short n = refused SHORT n
stopped (Stop.Refused r i) n = refused (number_of r) i

-- what is found in the part from the cursor on
abbrev There : {τ : Trees} → Dues τ → List ℕ → ℕ → Spot → Result Taken Stop → Type 0
There δ s at spot f = Takes (δ.due spot) (take (length s - at) (drop at s)) f

-- where a structure is still to come
module _ {τ : Trees} (δ : Dues τ) {told : Answer Message} {s : List ℕ} {entries : List Entry} {at place number left bbb : ℕ} {spot : Spot}
    (r : RunningIn τ told s entries at place number left bbb spot) (coming : 0 < left) where
  found_on : {f : Result Taken Stop} → There δ s at spot f
      → told ≡ outcome f (λ y. node τ spot (left - 1) bbb ((more r coming).xs ++ y ∷ [])) (drop at s) at
  found_on h =
      let xs = (more r coming).xs in
      (more r coming).going.runs
      ∙ ap (λ (t : Tree Message). walk t (drop at s) at) (δ.is spot (left - 1) bbb xs (more r coming).going.stage)
      ∙ (rw (tail_part at s) at h).follows (λ y. node τ spot (left - 1) bbb (xs ++ y ∷ [])) at

  pub step_short : There δ s at spot (Err Stop.Short) → told ≡ refused SHORT (length s)
  step_short h = found_on h ∙ ap (refused SHORT) (simp length-drop (omega (arith, r.going.within)))

  pub step_refused : {n : reasons.Refusal} {i : ℕ} → There δ s at spot (Err (Stop.Refused n i)) → told ≡ refused (number_of n) (at + i)
  step_refused {n} {i} h = found_on h ∙ ap (refused (number_of n)) (omega arith)

  -- how far it reaches
  pub step_past : {f : Taken} → There δ s at spot (Ok f) → (0 < f.past) × (f.past ≤ length s - at) × (f.long ≤ f.past)
  step_past h = let g = (rw (tail_part at s) at h).reaches in (g.0, simp length-drop at g.1, g.3)

  pub step_inside : {n : reasons.Refusal} {i : ℕ} → There δ s at spot (Err (Stop.Refused n i)) → i < length s - at
  step_inside h = simp length-drop at (rw (tail_part at s) at h).reaches

  pub step_whole : {f : Taken} {q : Next} → There δ s at spot (Ok f) → q ≡ next_of spot f.structure (ltb (at + f.past) (length s)) left
      → RunningIn τ told s (set entries number (stored place f.structure f.long)) (at + f.past) (place + f.long) (number + 1) q.left bbb q.spot
  step_whole {f} h i =
      let one_left : left ≡ suc (left - 1) = omega arith in
      let end : f.past + at ≡ at + f.past = omega arith in
      let runs = found_on h
      ∙ ap₂ (λ (l : List ℕ) (j : ℕ). walk (node τ spot (left - 1) bbb ((more r coming).xs ++ f.structure ∷ [])) l j) (drop-drop f.past at s) end in
      rw (i, one_left) (whole_on τ told s entries at place number (left - 1) bbb spot (more r coming) f.structure f.past f.long
      (step_past h).1 (rw (tail_part at s) at h).reaches.2 runs)

-- where the reader stands, and that it is no further in the label than in the bytes
pub record Standing (τ : Trees) (told : Answer Message) (s : List ℕ) (entries : List Entry) (at place number left bbb : ℕ) (spot : Spot) : Type 0
  where
    pub running : RunningIn τ told s entries at place number left bbb spot
    pub behind : place ≤ at

-- the same for the loop over a language
module _ {τ : Trees} (δ : Dues τ) {told : Answer Message} {s : List ℕ} {entries : List Entry} {at place number left bbb : ℕ} {spot : Spot}
    (r : Standing τ told s entries at place number left bbb spot) (coming : 0 < left) where
  -- what stops it there is the answer, by as many bytes further on
  pub then_stopped : (stop : Stop) → There δ s at spot (Err stop) → told ≡ stopped (behind stop at) (length s)
  then_stopped Stop.Short h = step_short δ r.running coming h
  then_stopped (Stop.Refused n i) h = step_refused δ r.running coming h ∙ ap (refused (number_of n)) (omega arith)

  pub then_placed : (stop : Stop) → There δ s at spot (Err stop) → length s < 2 ^ 64 → PlacedBehind stop at
  then_placed Stop.Short h l = tt
  then_placed (Stop.Refused n i) h l = let inside = step_inside δ r.running coming h in omega arith

  -- how far it reaches
  pub then_past : {f : Taken} → There δ s at spot (Ok f) → (0 < f.past) × (f.past ≤ length s - at) × (f.long ≤ f.past)
  then_past h = step_past δ r.running coming h

  pub then_whole : {f : Taken} {q : Next} → There δ s at spot (Ok f) → q ≡ next_of spot f.structure (ltb (at + f.past) (length s)) left
      → Standing τ told s (set entries number (stored place f.structure f.long)) (at + f.past) (place + f.long) (number + 1) q.left bbb q.spot
  then_whole {f} h i = record { running = step_whole δ r.running coming h i; behind = omega (arith, r.behind, (then_past h).2) }

-- what is to be answered from a place on, where no structure was read yet
abbrev pub begun : Trees → Beginning → List ℕ → Answer Message
begun τ first s = walk (node τ first.spot first.structures first.bbb []) (drop first.at s) first.at

-- where the reader stands at a beginning
abbrev pub Starts : Trees → Answer Message → Beginning → List ℕ → Type 0
Starts τ told first s = Standing τ told s (places first.place []) first.at first.place 0 first.structures first.bbb first.spot

-- and that it is
pub begun_in : {τ : Trees} {told : Answer Message} {s : List ℕ} {entries : List Entry} {at place left bbb : ℕ} {spot : Spot}
    → RunningIn τ told s entries at place 0 left bbb spot → told ≡ walk (node τ spot left bbb []) (drop at s) at
begun_in {τ} {s = s} {at = at} {left = left} {bbb = bbb} {spot = spot} r =
    r.going.runs ∙ ap (λ (xs : List Structure). walk (node τ spot left bbb xs) (drop at s) at) (none r.xs r.going.counted)
  where
    none : (xs : List Structure) → 0 ≡ length xs → xs ≡ []
    none [] e = refl
    none (x ∷ xs) e = absurd (omega arith)

pub starts_begun : {τ : Trees} {told : Answer Message} {first : Beginning} {s : List ℕ} → Starts τ told first s → Starts τ (begun τ first s) first s
starts_begun {τ} {first = first} {s = s} h = subst (λ (a : Answer Message). Starts τ a first s) (begun_in h.running) h
