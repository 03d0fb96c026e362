-- The table fixes the number: a byte that is fatal after p, with a row of number n, leads the tree to the refusal n.
use Rattle.std.specs.Prelude.{ℕ, zero, suc, ◌<◌, ◌≡◌, refl, Bool, true, false, List, [], ◌∷◌, ◌++◌, eqb, length, get_or, take, drop}
use Rattle.std.proofs.Common.{sym, ap, ◌∙◌, append_assoc, arith, eqb-true}
use Rattle.std.proofs.Math.Path.{subst}
use Rattle.std.proofs.Math.Option.{Option, some, none}
use Rattle.demand.specs.Demand.{Begins}
use Rattle.demand.specs.Numbers.{IDENTIFIER, NESTED, CHARACTER, VALUE, TRAILING, REPEAT}
use Rattle.demand.specs.Laws.Tree.{Tree, fatal, at, Alive, alive_begins, lives}
use Rattle.demand.specs.Laws.Content.{Position, content, content_alive}
use Rattle.text.specs.Bytes.{byte, first_character}
use Rattle.text.specs.Laws.Bytes.{both}
use Rattle.label.specs.declared.Structure.{Structure}
use Rattle.label.specs.declared.Kind.{Kind}
use Rattle.label.specs.declared.Edition.{Edition}
use Rattle.label.specs.declared.Message.{Message}
use Rattle.structure.specs.Structures.{kind_of, kinds_of, Among, identifier, Lawful}
use Rattle.structure.specs.Structures as structures
use Rattle.structure.specs.declared.Shape.{Shape}
use Rattle.structure.specs.Laws.Head.{aa_of, bbb_of}
use Rattle.structure.specs.Laws.Kinds.{lead, shape_positions, positions, Tabled, positions_table, make, Reads, structure_out}
use Rattle.structure.specs.Laws.Due.{names, leads, find, opened, due, due_led, due_unled, due_in, outside_told, unlawful_told}
use Rattle.message.specs.Grammar.{donation_groups, HasCompounds, current, Produces, single, pair, compound}
use Rattle.message.specs.Where.{Within, Due, at_start, in_compound, Hoped, because_first, because_within, Repeated}
use Rattle.message.specs.Where.{Inside, of_structure, of_head, Nested, nests}
use Rattle.message.specs.Refusals.{on_a_label, first, second, complete, breaks, Fatal, row_identifier}
use Rattle.message.specs.Refusals.{row_nested, row_repeat, row_character, row_value, row_trailing}
use Rattle.message.specs.Laws.Tree.{message, opens_head, head_opened, headed, hoping, paired, seconds, lone_node, pair_node}
use Rattle.message.specs.Laws.Tree.{compound_node, message_out}
use Rattle.message.specs.Laws.Donations.{pairs_in}
use Rattle.message.specs.Laws.Nodes.{from_node, several_alive, due_node, hoped_node, MayNode, may_node, nested_plus, repeated_donation}
use Rattle.message.specs.Laws.Nodes.{donation_alive, few_held, first_of, nested_at, repeated_at, repeated_in}
use Rattle.message.specs.Laws.Tour.{message_stands, head_tabled}

-- a byte at a place for a structure: refused there, or the tree lives on
module _ (ks : List Kind) (n : ℕ) (miss : ℕ → ℕ → Tree Message) (go : Structure → Tree Message) where
  first_told : (a : ℕ) → (Alive (at (due ks n miss go) (a ∷ [])) → ⊥) → at (due ks n miss go) (a ∷ []) ≡ fatal n
  first_told a dead = by (leads ks a) refl
    where
      by : (t : Bool) → leads ks a ≡ t → at (due ks n miss go) (a ∷ []) ≡ fatal n
      by true e = absurd (dead (subst Alive (sym (due_led ks n miss go a [] e)) tt))
      by false e = due_unled ks n miss go a [] e

  second_told : (a b : ℕ) → ((x : Structure) → Alive (go x)) → Alive (at (due ks n miss go) (a ∷ []))
      → (Alive (at (due ks n miss go) (a ∷ b ∷ [])) → ⊥) → at (due ks n miss go) (a ∷ b ∷ []) ≡ miss a b
  second_told a b lively alive dead = by (leads ks a) refl
    where
      opens : (o : Option Kind) → (Alive (opened o b (miss a b) go) → ⊥) → opened o b (miss a b) go ≡ miss a b
      opens none d = refl
      opens (some k) d = absurd (d (content_alive (positions k) (b ∷ []) (λ c. go (make k c)) (λ c. lively (make k c))))

      by : (t : Bool) → leads ks a ≡ t → at (due ks n miss go) (a ∷ b ∷ []) ≡ miss a b
      by false e = absurd (subst Alive (due_unled ks n miss go a [] e) alive)
      by true e =
          let node = due_led ks n miss go a (b ∷ []) e in
          node ∙ opens (find ks a b) (λ h. dead (subst Alive (sym node) h))

-- = and + lead to the content of an 023
head_node : {ed : Edition} → HasCompounds ed → (c : List ℕ)
    → at (message ed) (byte "=" ∷ byte "+" ∷ c) ≡ at (content (shape_positions Shape.Head) (byte "+" ∷ []) headed) c
unfolding message
head_node current c = refl

false_of : (t : Bool) → (t ≡ true → ⊥) → t ≡ false
false_of true h = absurd (h refl)
false_of false h = refl

module _ (ed : Edition) (p : List ℕ) (b : ℕ) (begins : Begins (Produces ed) p) (ends : Begins (Produces ed) (p ++ b ∷ []) → ⊥) where
  alive : Alive (at (message ed) p)
  alive = lives (Produces ed) (Fatal ed) (message ed) (message_out ed) p begins

  dead : Alive (at (message ed) (p ++ b ∷ [])) → ⊥
  dead a = ends (alive_begins (Produces ed) (Fatal ed) (message ed) [] (p ++ b ∷ []) (message_stands ed).1 a)

  append_seam : (q : List ℕ) (a : ℕ) → p ≡ q ++ a ∷ [] → p ++ b ∷ [] ≡ q ++ a ∷ b ∷ []
  append_seam q a e = ap (◌++ b ∷ []) e ∙ append_assoc q (a ∷ []) (b ∷ [])

  identifier_first : Due on_a_label ed p → at (message ed) (p ++ b ∷ []) ≡ fatal IDENTIFIER
  identifier_first d =
      let n = due_node d in
      let node = from_node ed p (b ∷ []) n.node in
      node ∙ first_told n.kinds IDENTIFIER n.miss n.go b (λ h. dead (subst Alive (sym node) h))

  -- = and + name no structure, and yet are refused as such only within a compound, or where an edition has none
  not_head : (q : List ℕ) (a : ℕ) → Due on_a_label ed q → p ≡ q ++ a ∷ [] → (Nested on_a_label ed p b → ⊥)
      → opens_head ed a b ≡ true → ⊥
  not_head q a (at_start o) e nn t =
      let (c, h) = head_opened ed a b t in
      let (f, g) = both _ _ h in
      dead (rw (append_seam q a e, o, eqb-true a 61 f, eqb-true b 43 g) (subst Alive (sym (head_node c [])) tt))
  not_head q a (in_compound held w) e nn t =
      let (f, g) = both _ _ (head_opened ed a b t).1 in
      nn (nested_at w (e ∙ ap (λ (i : ℕ). q ++ i ∷ []) (eqb-true a 61 f)) (eqb-true b 43 g))

  -- what names a donation number goes on, or is a second one
  donation : Among Kind.Donation (kinds_of ed)
  donation = (pairs_in ed donation_groups).0

  not_donation : (q : List ℕ) (a : ℕ) → Due on_a_label ed q → p ≡ q ++ a ∷ [] → (Repeated on_a_label ed p b → ⊥)
      → names Kind.Donation a b ≡ true → ⊥
  not_donation q a (at_start o) e nr t = dead (rw (append_seam q a e) (donation_alive a b (may_node (because_first donation o)) t))
  not_donation q a (in_compound held w) e nr t = by held w
    where
      by : (i : ℕ) → Within on_a_label ed q i → ⊥
      by zero w = dead (rw (append_seam q a e) (donation_alive a b (may_node (because_within donation 0 w (omega arith))) t))
      by (suc zero) w =
          let (f, g) = both (eqb a (lead Kind.Donation)) (first_character b) t in
          nr (repeated_at w (e ∙ ap (λ (i : ℕ). q ++ i ∷ []) (eqb-true a 61 f)) g)
      by (suc (suc i)) w = absurd (omega (arith, few_held w))

  identifier_second : (q : List ℕ) (a : ℕ) → Due on_a_label ed q → p ≡ q ++ a ∷ [] → (Nested on_a_label ed p b → ⊥)
      → (Repeated on_a_label ed p b → ⊥)
      → at (message ed) (p ++ b ∷ []) ≡ fatal IDENTIFIER
  identifier_second q a d e nn nr =
      let n = due_node d in
      let one : at (message ed) p ≡ at (due n.kinds IDENTIFIER n.miss n.go) (a ∷ []) =
      ap (at (message ed)) e ∙ from_node ed q (a ∷ []) n.node
      in
      let two : at (message ed) (p ++ b ∷ []) ≡ at (due n.kinds IDENTIFIER n.miss n.go) (a ∷ b ∷ []) =
      ap (at (message ed)) (append_seam q a e) ∙ from_node ed q (a ∷ b ∷ []) n.node
      in
      two
      ∙ second_told n.kinds IDENTIFIER n.miss n.go a b n.alive (subst Alive one alive) (λ h. dead (subst Alive (sym two) h))
      ∙ n.misses a b (false_of (opens_head ed a b) (not_head q a d e nn)) (false_of (names Kind.Donation a b) (not_donation q a d e nr))

  nested_told : Nested on_a_label ed p b → at (message ed) (p ++ b ∷ []) ≡ fatal NESTED
  nested_told (nests q held w e) = ap (at (message ed)) e ∙ nested_plus w

  repeated_told : Repeated on_a_label ed p b → at (message ed) (p ++ b ∷ []) ≡ fatal REPEAT
  repeated_told h = let (q, w, e, f) = repeated_in h in ap (at (message ed)) (append_seam q (byte "=") e) ∙ repeated_donation b w f

  complete_told : (m : Message) → Produces ed m p → at (message ed) (p ++ b ∷ []) ≡ fatal TRAILING
  complete_told m (single x h is e) =
      let node : at (message ed) (p ++ b ∷ []) ≡ at (hoping x) (b ∷ []) = ap (at (message ed)) (ap (◌++ b ∷ []) e) ∙ lone_node ed x (b ∷ []) h in
      node ∙ first_told (seconds (kind_of x)) TRAILING (λ a b. fatal TRAILING) (paired x) b (λ a. dead (subst Alive (sym node) a))
  complete_told m (pair x y h g r is e) = from_node ed p (b ∷ []) (ap (at (message ed)) e ∙ pair_node ed x y h g r)
  complete_told m (compound c bbb xs lo hi small hs d is e) =
      from_node ed p (b ∷ []) (ap (at (message ed)) e ∙ compound_node c (length xs) bbb xs 0 lo hi small hs d (omega arith))

  breaks_told : (q : List ℕ) (l : Kind) (y : Structure) → Hoped on_a_label ed q l → Lawful y → kind_of y ≡ some l → p ≡ q ++ take 1 (identifier y)
      → at (message ed) (p ++ b ∷ []) ≡ fatal TRAILING
  breaks_told q l y h g ky e =
      let (x, m, node) = hoped_node ed h in
      let is : p ≡ q ++ lead l ∷ [] = e ∙ ap (q ++◌) (first_of y l g ky) in
      let one : at (message ed) p ≡ at (hoping x) (lead l ∷ []) = ap (at (message ed)) is ∙ from_node ed q (lead l ∷ []) node in
      let two : at (message ed) (p ++ b ∷ []) ≡ at (hoping x) (lead l ∷ b ∷ []) =
      ap (at (message ed)) (append_seam q (lead l) is) ∙ from_node ed q (lead l ∷ b ∷ []) node
      in
      two
      ∙ second_told (seconds (kind_of x)) TRAILING (λ a b. fatal TRAILING) (paired x) (lead l) b (λ y. tt) (subst Alive one alive)
      (λ a. dead (subst Alive (sym two) a))

  Rows : (ℕ → Bool) → ℕ → Type 0
  Rows σ v = (σ b ≡ false → at (message ed) (p ++ b ∷ []) ≡ fatal CHARACTER) × (σ b ≡ true → at (message ed) (p ++ b ∷ []) ≡ fatal v)

  content_told : {πs : List Position} {τs : List (ℕ → Bool)} {νs : List ℕ} (o c : List ℕ) (k : List ℕ → Tree Message) → Tabled πs τs νs
      → length c < length τs → ((c : List ℕ) → Alive (k c)) → at (message ed) p ≡ at (content πs o k) c
      → at (message ed) (p ++ b ∷ []) ≡ at (content πs o k) (c ++ b ∷ []) → Rows (get_or τs (length c) (λ b. false)) (get_or νs (length c) VALUE)
  unfolding Rows
  content_told {πs} o c k tabled l lively one two =
      let living = subst Alive one alive in
      let ending : Alive (at (content πs o k) (c ++ b ∷ [])) → ⊥ = λ a. dead (subst Alive (sym two) a) in
      (λ e. two ∙ outside_told o c k b tabled l lively living ending e, λ e. two ∙ unlawful_told o c k b tabled l lively living ending e)

  inside_told : {σ : ℕ → Bool} {v : ℕ} → Inside on_a_label ed p σ v → Rows σ v
  inside_told (of_structure q x k c may h kind l e s i) =
      rw (s, i) (content_told (m ∷ []) c go (positions_table k) l (λ c. n.alive (make k c)) one two)
    where
      n : MayNode ed q k
      n = may_node may

      reads : (b : ℕ) × Reads k b (structures.content x) x
      reads = let (k', b, r) = structure_out x h in let is : k' ≡ k = cc r.kind in (b, rw is at r)

      m : ℕ
      m = reads.0

      go : List ℕ → Tree Message
      go c = n.go (make k c)

      into : (s : List ℕ) → at (message ed) (q ++ (identifier x ++ s)) ≡ at (content (positions k) (m ∷ []) go) s
      into s =
          ap (λ (i : List ℕ). at (message ed) (q ++ (i ++ s))) reads.1.named
          ∙ n.on (lead k) (m ∷ s)
          ∙ due_in n.kinds n.number n.miss n.go m s n.among reads.1.marked

      one : at (message ed) p ≡ at (content (positions k) (m ∷ []) go) c
      one = ap (at (message ed)) e ∙ into c

      two : at (message ed) (p ++ b ∷ []) ≡ at (content (positions k) (m ∷ []) go) (c ++ b ∷ [])
      two =
          ap (at (message ed)) (ap (◌++ b ∷ []) e ∙ append_assoc q (identifier x ++ c) (b ∷ []) ∙ ap (q ++◌) (append_assoc (identifier x) c (b ∷ [])))
          ∙ into (c ++ b ∷ [])
  inside_told (of_head h c l e s i) =
      rw (s, i)
      (content_told (byte "+" ∷ []) c headed head_tabled l (λ c. several_alive (aa_of (drop 1 c)) (bbb_of (drop 1 c)) [])
      (ap (at (message ed)) e ∙ head_node h c) (ap (at (message ed)) (ap (◌++ b ∷ []) e) ∙ head_node h (c ++ b ∷ [])))

pub fixes : (ed : Edition) (p : List ℕ) (b n : ℕ) → Fatal ed p b n → Begins (Produces ed) p → (Begins (Produces ed) (p ++ b ∷ []) → ⊥)
    → at (message ed) (p ++ b ∷ []) ≡ fatal n
unfolding Rows
fixes ed p b n (row_identifier (first d) nn nr nt e) v w = identifier_first ed p b v w d ∙ ap fatal (sym e)
fixes ed p b n (row_identifier (second q a d is) nn nr nt e) v w = identifier_second ed p b v w q a d is nn nr ∙ ap fatal (sym e)
fixes ed p b n (row_nested h e) v w = nested_told ed p b v w h ∙ ap fatal (sym e)
fixes ed p b n (row_repeat h e) v w = repeated_told ed p b v w h ∙ ap fatal (sym e)
fixes ed p b n (row_character σ u i o e) v w = (inside_told ed p b v w i).0 o ∙ ap fatal (sym e)
fixes ed p b n (row_value σ u i o e) v w = (inside_told ed p b v w i).1 o ∙ ap fatal (sym e)
fixes ed p b n (row_trailing (complete (m, h)) e) v w = complete_told ed p b v w m h ∙ ap fatal (sym e)
fixes ed p b n (row_trailing (breaks q l y h g ky is) e) v w = breaks_told ed p b v w q l y h g ky is ∙ ap fatal (sym e)
