-- A row of the table is what the tree fixes of a byte that leads no further.
use Rattle.std.specs.Prelude.{ℕ, zero, suc, ◌-◌, ◌<◌, ◌≡◌, Bool, cond, length, get_or, drop}
use Rattle.std.proofs.Math.Path.{refl, sym, ap, subst}
use Rattle.std.proofs.Common.{◌∙◌, arith, eqb-true}
use Rattle.std.proofs.Math.Bool.{true, false}
use mathlib.Core.List.{List, [], ◌∷◌, ◌++◌, append_assoc}
use Rattle.std.proofs.Math.Option.{Option, some, none}
use Rattle.std.proofs.Math.Dec.{eqb}
use Rattle.demand.specs.Demand.{Begins}
use Rattle.demand.specs.Numbers.{NESTED, CHARACTER, VALUE, TRAILING, REPEAT, TAG}
use Rattle.demand.specs.Laws.Tree.{Tree, fatal, at, at_append, Alive, alive_begins, lives}
use Rattle.demand.specs.Laws.Content.{Position, content, content_alive}
use Rattle.label.specs.declared.Edition.{Edition}
use Rattle.label.specs.declared.Kind.{Kind}
use Rattle.label.specs.declared.Message.{Message}
use Rattle.label.specs.declared.Structure.{Structure}
use Rattle.structure.specs.Structures.{kind_of, kinds_of, Among, number_of, numbered}
use Rattle.structure.specs.Laws.Due.{outside_told, unlawful_told}
use Rattle.structure.specs.Laws.Head.{aa_of, bbb_of}
use Rattle.structure.specs.Laws.Kinds.{Tabled}
use Rattle.structure.specs.Laws.Spot.{kinds_at}
use Rattle.message.specs.Laws.Donations.{spot_of, among_after}
use Rattle.message.specs.Laws.Tree.{seconds, paired, pairs_among}
use Rattle.host_record.specs.Record.{HEAD, Records}
use Rattle.message.specs.Where.{Within, within, Due, at_start, in_compound, May, because_first, because_within, because_hoped, hoped}
use Rattle.message.specs.Where.{Inside, of_structure, of_head, Repeated, Nested}
use Rattle.host_record.specs.Refusals.{in_a_record, Fatal, row_trailing, row_repeat, row_nested, row_tag, row_character, row_value}
use Rattle.host_record.specs.Laws.Fields.{field_positions, make_field, field_table}
use Rattle.host_record.specs.Laws.Tree.{entered, slot, slot_in, missed, following, head_past, headed, missed_first, seconding, alone, records, Recorded}
use Rattle.host_record.specs.Laws.Tree.{single, pair, compound, recorded, alone_node, single_node, pair_node, compound_node, record_out}
use Rattle.host_record.specs.Laws.Tour.{tagged, nested_at, nested_in, repeated_at, repeated_in, head_table, records_stand}

-- q's node, and where further bytes lead from there
from_node : (q s : List ℕ) {t : Tree Message} → at records q ≡ t → at records (q ++ s) ≡ at t s
from_node q s e = at_append records q s ∙ ap (λ (u : Tree Message). at u s) e

following_alive : (n bbb : ℕ) (xs : List Structure) → Alive (following n bbb xs)
following_alive zero bbb xs = tt
following_alive (suc n) bbb xs = tt

-- within a compound a field is due after q
record WithinNode (q : List ℕ) (held : ℕ) : Type 0 where
  go : Structure → Tree Message
  node : at records q ≡ slot (kinds_at (spot_of held)) (missed (spot_of held)) go
  alive : (x : Structure) → Alive (go x)

within_node : {q : List ℕ} {held : ℕ} → Within in_a_record Edition.Current q held → WithinNode q held
within_node (within c aa bbb xs hi small hs is few l e) =
    let n = aa - suc (length xs) in
    record {
      go = λ x. following n bbb (xs ++ x ∷ []);
      node = rw (e, is) (compound_node aa bbb xs (suc n) (omega arith) hi small hs (rw is at few) (omega arith));
      alive = λ x. following_alive n bbb (xs ++ x ∷ []);
    }

-- after q the tree goes on as a place for a field of some kinds, k among them
record MayNode (q : List ℕ) (k : Kind) : Type 0 where
  kinds : List Kind
  miss : ℕ → Tree Message
  go : Structure → Tree Message
  among : Among k kinds
  on : (t : ℕ) (s : List ℕ) → at records (q ++ t ∷ s) ≡ at (slot kinds miss go) (t ∷ s)
  alive : (x : Structure) → Alive (go x)

may_node : {q : List ℕ} {k : Kind} → May in_a_record Edition.Current q k → MayNode q k
unfolding records
may_node (because_first m e) =
    record { kinds = kinds_of Edition.Current; miss = missed_first; go = alone; among = m; on = λ t s. rw e; alive = λ x. tt }
may_node {q} {k} (because_within m held w few) =
    let n = within_node w in
    record {
      kinds = kinds_at (spot_of held);
      miss = missed (spot_of held);
      go = n.go;
      among = among_after held k m few;
      on = λ t s. from_node q (t ∷ s) n.node;
      alive = n.alive;
    }
may_node {q} (because_hoped (hoped x h p e)) =
    let node : at records q ≡ alone x = rw e (single_node x h) in
    record {
      kinds = seconds (kind_of x);
      miss = λ t. fatal TRAILING;
      go = paired x;
      among = rw h.is (pairs_among p);
      on = λ t s. from_node q (t ∷ s) node;
      alive = λ y. tt;
    }

-- a tag that leads no further is none of the kinds'
slot_told : (ks : List Kind) (miss : ℕ → Tree Message) (go : Structure → Tree Message) (b : ℕ) → ((x : Structure) → Alive (go x))
    → (Alive (at (slot ks miss go) (b ∷ [])) → ⊥) → at (slot ks miss go) (b ∷ []) ≡ miss b
slot_told ks miss go b alive dead = by (numbered ks b) refl
  where
    by : (o : Option Kind) → numbered ks b ≡ o → entered o (miss b) go ≡ miss b
    by none e = refl
    by (some k) e =
        let lives-on : Alive (entered (some k) (miss b) go) = content_alive (field_positions k) [] (λ c. go (make_field k c)) (λ c. alive (make_field k c)) in
        absurd (dead (subst (λ (o : Option Kind). Alive (entered o (miss b) go)) (sym e) lives-on))

module _ (p : List ℕ) (b : ℕ) (begins : Begins Records p) (ends : Begins Records (p ++ b ∷ []) → ⊥) where
  alive : Alive (at records p)
  alive = lives Records Fatal records record_out p begins

  dead : Alive (at records (p ++ b ∷ [])) → ⊥
  dead a = ends (alive_begins Records Fatal records [] (p ++ b ∷ []) records_stand.1 a)

  -- within a compound
  missed_told : {held : ℕ} → Within in_a_record Edition.Current p held → at records (p ++ b ∷ []) ≡ missed (spot_of held) b
  missed_told {held} w =
      let n = within_node w in
      let node = from_node p (b ∷ []) n.node in
      node ∙ slot_told (kinds_at (spot_of held)) (missed (spot_of held)) n.go b n.alive (λ a. dead (subst Alive (sym node) a))

  nested_told : Nested in_a_record Edition.Current p b → at records (p ++ b ∷ []) ≡ fatal NESTED
  nested_told h = let (held, w, e) = nested_in h in missed_told w ∙ by e held
    where
      by : b ≡ HEAD → (held : ℕ) → missed (spot_of held) b ≡ fatal NESTED
      by e zero = rw e
      by e (suc held) = rw e

  repeated_told : Repeated in_a_record Edition.Current p b → at records (p ++ b ∷ []) ≡ fatal REPEAT
  repeated_told h = let (w, e) = repeated_in h in missed_told w ∙ rw e

  tag_within : (held : ℕ) → Within in_a_record Edition.Current p held → (Repeated in_a_record Edition.Current p b → ⊥)
      → (Nested in_a_record Edition.Current p b → ⊥) → missed (spot_of held) b ≡ fatal TAG
  tag_within held w nr nn = by held w (eqb b HEAD) (eqb b 1) refl refl
    where
      by : (held : ℕ) → Within in_a_record Edition.Current p held → (x y : Bool) → eqb b HEAD ≡ x → eqb b 1 ≡ y
          → missed (spot_of held) b ≡ fatal TAG
      by held w true y e f = absurd (nn (nested_at w (eqb-true b HEAD e)))
      by zero w false y e f = rw e
      by (suc zero) w false true e f = absurd (nr (repeated_at w (eqb-true b 1 f)))
      by (suc zero) w false false e f = rw (e, f)
      by (suc (suc held)) w false y e f = absurd (few_held w)
        where
          few_held : {held : ℕ} → Within in_a_record Edition.Current p (suc (suc held)) → ⊥
          few_held (within c aa bbb xs hi small hs is few l e) = omega arith

  tag_told : Due in_a_record Edition.Current p → (Repeated in_a_record Edition.Current p b → ⊥)
      → (Nested in_a_record Edition.Current p b → ⊥) → at records (p ++ b ∷ []) ≡ fatal TAG
  unfolding records
  tag_told (in_compound held w) nr nn = missed_told w ∙ tag_within held w nr nn
  tag_told (at_start e) nr nn =
      let node : at records (p ++ b ∷ []) ≡ at records (b ∷ []) = ap (λ (q : List ℕ). at records (q ++ b ∷ [])) e in
      let missing = slot_told (kinds_of Edition.Current) missed_first alone b (λ x. tt) (λ a. dead (subst Alive (sym node) a)) in
      node ∙ missing ∙ by (eqb b HEAD) refl (λ a. dead (subst Alive (sym (node ∙ missing)) a))
    where
      by : (x : Bool) → eqb b HEAD ≡ x → (Alive (missed_first b) → ⊥) → missed_first b ≡ fatal TAG
      by true f d =
          let lives-on : Alive (content head_past [] headed) = tt in
          absurd (d (subst (λ (x : Bool). Alive (cond x (content head_past [] headed) (fatal TAG))) (sym f) lives-on))
      by false f d = rw f

  trailing_told : {m : Message} → Recorded m p → at records (p ++ b ∷ []) ≡ fatal TRAILING
  trailing_told (single x h is e) =
      let node : at records (p ++ b ∷ []) ≡ at (seconding x) (b ∷ []) = ap (λ (q : List ℕ). at records (q ++ b ∷ [])) e
      ∙ alone_node x (b ∷ []) h in
      node ∙ slot_told (seconds (kind_of x)) (λ t. fatal TRAILING) (paired x) b (λ y. tt) (λ a. dead (subst Alive (sym node) a))
  trailing_told (pair x y h g r is e) = from_node p (b ∷ []) (ap (at records) e ∙ pair_node x y h g r)
  trailing_told (compound bbb xs lo hi small hs d is e) =
      from_node p (b ∷ []) (ap (at records) e ∙ compound_node (length xs) bbb xs 0 lo hi small hs d (omega arith))

  Told : (ℕ → Bool) → ℕ → Type 0
  Told σ v = (σ b ≡ false → at records (p ++ b ∷ []) ≡ fatal CHARACTER) × (σ b ≡ true → at records (p ++ b ∷ []) ≡ fatal v)

  content_told : {πs : List Position} {τs : List (ℕ → Bool)} {νs : List ℕ} (q c : List ℕ) (k : List ℕ → Tree Message) → Tabled πs τs νs
      → length c < length τs → ((c : List ℕ) → Alive (k c)) → p ≡ q ++ c → ((s : List ℕ) → at records (q ++ s) ≡ at (content πs [] k) s)
      → Told (get_or τs (length c) (λ b. false)) (get_or νs (length c) VALUE)
  unfolding Told
  content_told {πs} q c k tabled l lively e into =
      let one : at records p ≡ at (content πs [] k) c = ap (at records) e ∙ into c in
      let two : at records (p ++ b ∷ []) ≡ at (content πs [] k) (c ++ b ∷ []) =
      ap (at records) (ap (◌++ b ∷ []) e ∙ append_assoc q c (b ∷ [])) ∙ into (c ++ b ∷ []) in
      let living = subst Alive one alive in
      let ending : Alive (at (content πs [] k) (c ++ b ∷ [])) → ⊥ = λ a. dead (subst Alive (sym two) a) in
      (λ e. two ∙ outside_told [] c k b tabled l lively living ending e, λ e. two ∙ unlawful_told [] c k b tabled l lively living ending e)

  inside_told : {σ : ℕ → Bool} {v : ℕ} → Inside in_a_record Edition.Current p σ v → Told σ v
  unfolding records
  inside_told (of_structure q x k c may h kind l e s i) =
      let n = may_node may in
      let e = tagged x q c kind e in
      rw (s, i) (content_told (q ++ number_of k ∷ []) c (λ c. n.go (make_field k c)) (field_table k) l (λ c. n.alive (make_field k c))
      (e ∙ sym (append_assoc q (number_of k ∷ []) c))
      (λ s. ap (at records) (append_assoc q (number_of k ∷ []) s) ∙ n.on (number_of k) s ∙ slot_in n.kinds n.miss n.go s n.among))
  inside_told (of_head h c l e s i) =
      let lively : (c : List ℕ) → Alive (headed c) = λ c. following_alive (aa_of (drop 1 (drop 1 c))) (bbb_of (drop 1 (drop 1 c))) [] in
      rw (s, i) (content_told (HEAD ∷ []) c headed head_table l lively e (λ s. refl))

pub fixes : (p : List ℕ) (b n : ℕ) → Fatal p b n → Begins Records p → (Begins Records (p ++ b ∷ []) → ⊥)
    → at records (p ++ b ∷ []) ≡ fatal n
unfolding Told
fixes p b n (row_trailing (m, h) e) v w = trailing_told p b v w (recorded h) ∙ ap fatal (sym e)
fixes p b n (row_repeat h e) v w = repeated_told p b v w h ∙ ap fatal (sym e)
fixes p b n (row_nested h e) v w = nested_told p b v w h ∙ ap fatal (sym e)
fixes p b n (row_tag d nr nn e) v w = tag_told p b v w d nr nn ∙ ap fatal (sym e)
fixes p b n (row_character σ u i o e) v w = (inside_told p b v w i).0 o ∙ ap fatal (sym e)
fixes p b n (row_value σ u i o e) v w = (inside_told p b v w i).1 o ∙ ap fatal (sym e)
