-- Where the paper's places lie in the tree.
use Rattle.std.specs.Prelude.{ℕ, zero, suc, ◌+◌, ◌-◌, ◌≤◌, ◌≡◌, refl, Bool, true, false, List, [], ◌∷◌, ◌++◌, eqb, length, take}
use Rattle.std.proofs.Common.{sym, ap, ap₂, ◌∙◌, subst, true≢false, append_assoc, arith, eqb-true}
use Rattle.std.proofs.Math.Option.{Option, some}
use Rattle.demand.specs.Numbers.{IDENTIFIER, NESTED, TRAILING, REPEAT}
use Rattle.demand.specs.Laws.Fixes.{one_last}
use Rattle.demand.specs.Laws.Tree.{Tree, fatal, at, Ends, Alive, at_append}
use Rattle.demand.specs.Laws.Content.{content_alive}
use Rattle.text.specs.Bytes.{byte, first_character}
use Rattle.text.specs.Laws.Bytes.{both}
use Rattle.label.specs.declared.Structure.{Structure}
use Rattle.label.specs.declared.Kind.{Kind}
use Rattle.label.specs.declared.Edition.{Edition}
use Rattle.label.specs.declared.Message.{Message}
use Rattle.structure.specs.Structures.{kind_of, kinds_of, Among, identifier, Lawful}
use Rattle.structure.specs.declared.Spot.{Spot}
use Rattle.structure.specs.Donation.{plain}
use Rattle.structure.specs.Laws.Kinds.{lead, second, positions, make, structure_out}
use Rattle.structure.specs.Laws.Due.{among_leads, other_kinds, names, find_named, only_donation, leads}
use Rattle.structure.specs.Laws.Due.{opened, due, due_led, due_unled}
use Rattle.structure.specs.Laws.Spot.{is_head, kinds_at}
use Rattle.message.specs.Grammar.{Pairs, donation_groups, product_expiry, donation_in, HasCompounds, current}
use Rattle.message.specs.Where.{Within, within, Due, at_start, in_compound, Hoped, hoped, May, because_first, because_within}
use Rattle.message.specs.Where.{because_hoped, Nested, nests, Repeated, repeats}
use Rattle.message.specs.Refusals.{on_a_label, Trailing, complete, breaks}
use Rattle.message.specs.Laws.Donations.{spot_of, among_after, leads_after}
use Rattle.message.specs.Laws.Tree.{message, due_within, several, lone, paired, opens_head, head_in_current, missed_first, missed_at, seconds}
use Rattle.message.specs.Laws.Tree.{pairs_among, single_node, compound_node, message_out}

-- p's node, and where a further byte leads from there
pub from_node : (ed : Edition) (q s : List ℕ) {t : Tree Message} → at (message ed) q ≡ t → at (message ed) (q ++ s) ≡ at t s
from_node ed q s e = at_append (message ed) q s ∙ ap (λ (u : Tree Message). at u s) e

pub several_alive : (n bbb : ℕ) (xs : List Structure) → Alive (several n bbb xs)
several_alive zero bbb xs = tt
several_alive (suc n) bbb xs = tt

-- within a compound a structure is due after q
pub record WithinNode (ed : Edition) (q : List ℕ) (held : ℕ) : Type 0 where
  pub go : Structure → Tree Message
  pub node : at (message ed) q ≡ due_within held go
  pub alive : (x : Structure) → Alive (go x)

pub within_node : {ed : Edition} {q : List ℕ} {held : ℕ} → Within on_a_label ed q held → WithinNode ed q held
within_node (within c aa bbb xs hi small hs is few lt e) =
    let n = aa - suc (length xs) in
    record {
      go = λ x. several n bbb (xs ++ x ∷ []);
      node = rw (e, is) (compound_node c aa bbb xs (suc n) (omega arith) hi small hs (rw is at few) (omega arith));
      alive = λ x. several_alive n bbb (xs ++ x ∷ []);
    }

-- a structure of some kinds is due after q: two bytes that name none are refused, but for a head and a donation number
pub record DueNode (ed : Edition) (q : List ℕ) : Type 0 where
  pub kinds : List Kind
  pub miss : ℕ → ℕ → Tree Message
  pub go : Structure → Tree Message
  pub node : at (message ed) q ≡ due kinds IDENTIFIER miss go
  pub alive : (x : Structure) → Alive (go x)
  pub led : (a : ℕ) → leads kinds a ≡ leads (kinds_of ed) a
  pub misses : (a b : ℕ) → opens_head ed a b ≡ false → names Kind.Donation a b ≡ false → miss a b ≡ fatal IDENTIFIER

missed_else : (held a b : ℕ) → is_head a b ≡ false → names Kind.Donation a b ≡ false → missed_at (spot_of held) a b ≡ fatal IDENTIFIER
missed_else zero a b h n = rw h
missed_else (suc held) a b h n = rw (h, n)

within_due : {ed : Edition} {q : List ℕ} {held : ℕ} → HasCompounds ed → WithinNode ed q held → DueNode ed q
within_due {held = held} current n =
    record {
      kinds = kinds_at (spot_of held);
      miss = missed_at (spot_of held);
      go = n.go;
      node = n.node;
      alive = n.alive;
      led = leads_after held;
      misses = missed_else held;
    }

pub has_compounds : {ed : Edition} {q : List ℕ} {held : ℕ} → Within on_a_label ed q held → HasCompounds ed
has_compounds (within c aa bbb xs hi small hs is few lt e) = c

pub due_node : {ed : Edition} {q : List ℕ} → Due on_a_label ed q → DueNode ed q
unfolding message
due_node {ed} (at_start e) =
    record {
      kinds = kinds_of ed;
      miss = missed_first ed;
      go = lone;
      node = rw e;
      alive = λ x. tt;
      led = λ a. refl;
      misses = λ a b h n. rw h;
    }
due_node (in_compound held w) = within_due (has_compounds w) (within_node w)

pub hoped_node : (ed : Edition) {q : List ℕ} {l : Kind} → Hoped on_a_label ed q l
    → (x : Structure) × Among l (seconds (kind_of x)) × (at (message ed) q ≡ lone x)
hoped_node ed (hoped x h p e) = (x, rw h.is (pairs_among p), rw e (single_node ed x h))

-- after q the tree goes on as a place for a structure of some kinds, k among them
pub record MayNode (ed : Edition) (q : List ℕ) (k : Kind) : Type 0 where
  pub kinds : List Kind
  pub number : ℕ
  pub miss : ℕ → ℕ → Tree Message
  pub go : Structure → Tree Message
  pub among : Among k kinds
  pub on : (a : ℕ) (s : List ℕ) → at (message ed) (q ++ a ∷ s) ≡ at (due kinds number miss go) (a ∷ s)
  pub alive : (x : Structure) → Alive (go x)

within_may : {ed : Edition} {q : List ℕ} {k : Kind} {held : ℕ} → HasCompounds ed → Among k (kinds_of ed) → held + donation_in (some k) ≤ 1
    → WithinNode ed q held → MayNode ed q k
within_may {q = q} {k} {held} current m few n =
    record {
      kinds = kinds_at (spot_of held);
      number = IDENTIFIER;
      miss = missed_at (spot_of held);
      go = n.go;
      among = among_after held k m few;
      on = λ a s. from_node Edition.Current q (a ∷ s) n.node;
      alive = n.alive;
    }

pub may_node : {ed : Edition} {q : List ℕ} {k : Kind} → May on_a_label ed q k → MayNode ed q k
unfolding message
may_node {ed} (because_first m e) =
    record {
      kinds = kinds_of ed;
      number = IDENTIFIER;
      miss = missed_first ed;
      go = lone;
      among = m;
      on = λ a s. rw e;
      alive = λ x. tt;
    }
may_node (because_within m held w few) = within_may (has_compounds w) m few (within_node w)
may_node {ed} {q} (because_hoped h) =
    let (x, m, node) = hoped_node ed h in
    record {
      kinds = seconds (kind_of x);
      number = TRAILING;
      miss = λ a b. fatal TRAILING;
      go = paired x;
      among = m;
      on = λ a s. from_node ed q (a ∷ s) node;
      alive = λ y. tt;
    }

-- + after a place where a structure is due, after = within a compound, and after the first byte of a hoped-for second
plus_unled : (ed : Edition) → leads (kinds_of ed) (byte "+") ≡ false
plus_unled Edition.Current = refl
plus_unled Edition.Of2001 = refl

due_plus : {ed : Edition} {q : List ℕ} → Due on_a_label ed q → at (message ed) (q ++ byte "+" ∷ []) ≡ fatal IDENTIFIER
due_plus {ed} {q} d =
    let n = due_node d in
    from_node ed q (byte "+" ∷ []) n.node ∙ due_unled n.kinds IDENTIFIER n.miss n.go (byte "+") [] (n.led (byte "+") ∙ plus_unled ed)

pub nested_plus : {ed : Edition} {q : List ℕ} {held : ℕ} → Within on_a_label ed q held
    → at (message ed) (q ++ byte "=" ∷ byte "+" ∷ []) ≡ fatal NESTED
nested_plus {ed} {q} {held} w = let n = within_node w in from_node ed q (byte "=" ∷ byte "+" ∷ []) n.node ∙ at_plus held n.go
  where
    at_plus : (held : ℕ) (go : Structure → Tree Message) → at (due_within held go) (byte "=" ∷ byte "+" ∷ []) ≡ fatal NESTED
    at_plus zero go = refl
    at_plus (suc held) go = refl

-- a second 001: = goes on, and what could begin a donation number after it does not
not_plus : (b : ℕ) → first_character b ≡ true → is_head (byte "=") b ≡ false
not_plus b e = by (eqb b 43) refl
  where
    by : (t : Bool) → eqb b 43 ≡ t → t ≡ false
    by true f = absurd (true≢false (sym e ∙ ap first_character (eqb-true b 43 f)))
    by false f = refl

pub repeated_donation : {ed : Edition} {q : List ℕ} (b : ℕ) → Within on_a_label ed q 1 → first_character b ≡ true
    → at (message ed) (q ++ byte "=" ∷ b ∷ []) ≡ fatal REPEAT
repeated_donation {ed} {q} b w e =
    let n = within_node w in
    from_node ed q (byte "=" ∷ b ∷ []) n.node
    ∙ due_led other_kinds IDENTIFIER (missed_at Spot.Holding) n.go (byte "=") (b ∷ []) refl
    ∙ ap (λ (o : Option Kind). opened o b (missed_at Spot.Holding (byte "=") b) n.go) (only_donation (byte "=") b e)
    ∙ rw (not_plus b e, e)

-- what names a donation number goes on where one may stand
pub donation_alive : {ed : Edition} {q : List ℕ} (a b : ℕ) → MayNode ed q Kind.Donation → names Kind.Donation a b ≡ true
    → Alive (at (message ed) (q ++ a ∷ b ∷ []))
donation_alive a b n e =
    let (f, g) = both (eqb a (lead Kind.Donation)) (second Kind.Donation b) e in
    let led : leads n.kinds a ≡ true = rw (eqb-true a (lead Kind.Donation) f) (among_leads n.among) in
    let node = n.on a (b ∷ [])
    ∙ due_led n.kinds n.number n.miss n.go a (b ∷ []) led
    ∙ ap (λ (o : Option Kind). opened o b (n.miss a b) n.go) (find_named a b n.among e)
    in
    subst Alive (sym node) (content_alive (positions Kind.Donation) (b ∷ []) (λ c. n.go (make Kind.Donation c)) (λ c. n.alive (make Kind.Donation c)))

pub few_held : {ed : Edition} {q : List ℕ} {held : ℕ} → Within on_a_label ed q held → held ≤ 1
few_held (within c aa bbb xs hi small hs is few lt e) = few

plus_breaks : {k l : Kind} (go : Structure → Tree Message) (o : Option Kind) → Pairs k l → o ≡ some k
    → at (due (seconds o) TRAILING (λ a b. fatal TRAILING) go) (lead l ∷ byte "+" ∷ []) ≡ fatal TRAILING
plus_breaks go o donation_groups e = rw e
plus_breaks go o product_expiry e = rw e

breaks_plus : (ed : Edition) {q : List ℕ} {l : Kind} → Hoped on_a_label ed q l → at (message ed) (q ++ lead l ∷ byte "+" ∷ []) ≡ fatal TRAILING
breaks_plus ed {q} {l} (hoped x h p e) =
    from_node ed q (lead l ∷ byte "+" ∷ []) {t = lone x} (rw e (single_node ed x h)) ∙ plus_breaks (paired x) (kind_of x) p h.is

-- the second's first byte is the kind's
pub first_of : (y : Structure) (l : Kind) → Lawful y → kind_of y ≡ some l → take 1 (identifier y) ≡ lead l ∷ []
first_of y l g ky = let (l', b, r) = structure_out y g in let e : l' ≡ l = cc r.kind in rw (r.named, e)

-- a nested 023 and a second 001, by the byte that is refused
module _ {ed : Edition} {p : List ℕ} {b : ℕ} where
  pub nested_at : {q : List ℕ} {held : ℕ} → Within on_a_label ed q held → p ≡ q ++ byte "=" ∷ [] → b ≡ byte "+" → Nested on_a_label ed p b
  nested_at {q} {held} w e f =
      nests q held w (ap₂ (λ (l : List ℕ) (i : ℕ). l ++ i ∷ []) e f ∙ append_assoc q (byte "=" ∷ []) (byte "+" ∷ []))

  pub nested_in : Nested on_a_label ed p b
      → (q : List ℕ) × (held : ℕ) × Within on_a_label ed q held × (p ≡ q ++ byte "=" ∷ []) × (b ≡ byte "+")
  nested_in (nests q held w e) =
      let (before, last) = one_last p (q ++ byte "=" ∷ []) b (byte "+") (e ∙ sym (append_assoc q (byte "=" ∷ []) (byte "+" ∷ []))) in
      (q, held, w, before, last)

  pub repeated_at : {q : List ℕ} → Within on_a_label ed q 1 → p ≡ q ++ byte "=" ∷ [] → first_character b ≡ true → Repeated on_a_label ed p b
  repeated_at {q} w e f =
      let x = Structure.Donation record { first = b; facility = 0; year = 0; sequence = 0 } record { number = 0 } in
      let h : Lawful x = (record { first = f; facility = omega arith; year = omega arith; sequence = omega arith }, plain (omega arith)) in
      repeats q x w h refl (ap (◌++ b ∷ []) e ∙ append_assoc q (byte "=" ∷ []) (b ∷ []))

  pub repeated_in : Repeated on_a_label ed p b
      → (q : List ℕ) × Within on_a_label ed q 1 × (p ≡ q ++ byte "=" ∷ []) × (first_character b ≡ true)
  repeated_in (repeats q x w h kind e) =
      let (k, c, r) = structure_out x h in
      let is : k ≡ Kind.Donation = cc r.kind in
      let named : identifier x ≡ byte "=" ∷ c ∷ [] = r.named ∙ ap (λ (k : Kind). lead k ∷ c ∷ []) is in
      let (before, last) = one_last p (q ++ byte "=" ∷ []) b c (e ∙ ap (q ++◌) named ∙ sym (append_assoc q (byte "=" ∷ []) (c ∷ []))) in
      let marked : first_character c ≡ true = subst (λ (k : Kind). second k c ≡ true) is r.marked in
      (q, w, before, ap first_character last ∙ marked)

clash : (t : Tree Message) (m n : ℕ) → t ≡ fatal m → t ≡ fatal n → m ≡ n
clash t m n e f = cc

-- no place is two of these
module _ {ed : Edition} {q : List ℕ} (d : Due on_a_label ed q) where
  -- it is not past the = of a structure that is due
  not_begun : {p : List ℕ} {held : ℕ} → Within on_a_label ed p held → q ≡ p ++ byte "=" ∷ [] → ⊥
  not_begun {p} w e =
      let is : q ++ byte "+" ∷ [] ≡ p ++ byte "=" ∷ byte "+" ∷ [] = ap (◌++ byte "+" ∷ []) e ∙ append_assoc p (byte "=" ∷ []) (byte "+" ∷ []) in
      let z = clash (at (message ed) (q ++ byte "+" ∷ [])) IDENTIFIER NESTED (due_plus d) (ap (at (message ed)) is ∙ nested_plus w) in
      omega arith

  pub first_not_nested : (a : ℕ) → Nested on_a_label ed q a → ⊥
  first_not_nested a h = let (p, held, w, e, f) = nested_in h in not_begun w e

  pub first_not_repeated : (a : ℕ) → Repeated on_a_label ed q a → ⊥
  first_not_repeated a h = let (p, w, e, f) = repeated_in h in not_begun w e

  pub first_not_trailing : Trailing ed q → ⊥
  first_not_trailing (complete (m, w)) =
      let n = due_node d in
      subst (λ (t : Tree Message). Ends t m) n.node (message_out ed m q w)
  first_not_trailing (breaks p l y h g ky e) =
      let is : q ++ byte "+" ∷ [] ≡ p ++ lead l ∷ byte "+" ∷ [] =
      ap (◌++ byte "+" ∷ []) (e ∙ ap (p ++◌) (first_of y l g ky)) ∙ append_assoc p (lead l ∷ []) (byte "+" ∷ [])
      in
      let z = clash (at (message ed) (q ++ byte "+" ∷ [])) IDENTIFIER TRAILING (due_plus d) (ap (at (message ed)) is ∙ breaks_plus ed h) in
      omega arith

  pub second_not_nested : (a b : ℕ) → opens_head ed a b ≡ false → Nested on_a_label ed (q ++ a ∷ []) b → ⊥
  second_not_nested a b t h =
      let (p, held, w, e, f) = nested_in h in
      let (same, byte-same) = one_last q p a (byte "=") e in
      true≢false (rw (byte-same, f) at (sym (head_in_current a b (has_compounds w)) ∙ t))

  pub second_not_repeated : (a b : ℕ) → names Kind.Donation a b ≡ false → Repeated on_a_label ed (q ++ a ∷ []) b → ⊥
  second_not_repeated a b t h =
      let (p, w, e, f) = repeated_in h in
      let (same, byte-same) = one_last q p a (byte "=") e in
      true≢false (rw (byte-same, f) at t)

  pub second_not_trailing : (a : ℕ) → leads (kinds_of ed) a ≡ true → Trailing ed (q ++ a ∷ []) → ⊥
  second_not_trailing a t (complete (m, w)) =
      let n = due_node d in
      let node = from_node ed q (a ∷ []) n.node ∙ due_led n.kinds IDENTIFIER n.miss n.go a [] (n.led a ∙ t) in
      subst (λ (t : Tree Message). Ends t m) node (message_out ed m (q ++ a ∷ []) w)
  second_not_trailing a t (breaks p l y h g ky e) =
      let (same, byte-same) = one_last q p a (lead l) (e ∙ ap (p ++◌) (first_of y l g ky)) in
      let n = due_node d in
      let (x, m, node) = hoped_node ed h in
      let is : due n.kinds IDENTIFIER n.miss n.go ≡ lone x = sym n.node ∙ ap (at (message ed)) same ∙ node in
      let z : ◌≡◌ {A = ℕ} 0 1 = cc in
      omega arith
