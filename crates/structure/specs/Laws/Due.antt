-- The tree of a place where one structure of some kinds may stand: its two bytes, its content, and then whatever follows.
use Rattle.std.specs.Prelude.{ℕ, suc, ◌+◌, ◌<◌, ◌≡◌, refl, Bool, true, false, cond, not, ◌&&◌, ◌||◌, List, [], ◌∷◌, ◌++◌, map, eqb, leb, length, get_or, take}
use Rattle.std.proofs.Common.{sym, ap, ◌∙◌, subst, true≢false, append_assoc, ⊎_elim, arith, length-append, eqb-true, eq-eqb}
use mathlib.Core.List.Memᴰ
use Rattle.std.proofs.Math.Option.{Option, some, none}
use Rattle.std.proofs.lemmas.List.{length-map}
use Rattle.std.proofs.Math.ListN.{get_or-map}
use Rattle.std.proofs.Math.Seq.{get_or-append_seam}
use Rattle.demand.specs.Each.{Each}
use Rattle.demand.specs.Demand.{Begins}
use Rattle.demand.specs.Numbers.{CHARACTER, VALUE}
use Rattle.demand.specs.Laws.Tree.{Tree, fatal, ask, at, at_append, Alive, Sound, begins_front}
use Rattle.demand.specs.Laws.Content.{Position, Fits, free, none, Rows, Stands, example, fits_length, judged, judged_fit, content_at, content_inside}
use Rattle.demand.specs.Laws.Content.{content_alive, content_sound}
use Rattle.demand.specs.Laws.Content as tree
use Rattle.text.specs.Bytes.{byte}
use Rattle.text.specs.Laws.Bytes.{both, either, either_right}
use Rattle.label.specs.declared.Structure.{Structure}
use Rattle.label.specs.declared.Kind.{Kind}
use Rattle.label.specs.declared.Edition.{Edition}
use Rattle.structure.specs.Structures.{kind_of, kinds_of, every_kind, Among, number_of, identifier, sets, set_at, refused_at, Lawful, content, written}
use Rattle.structure.specs.Laws.Kinds.{lead, second, positions, Tabled, positions_table, make, kinds_open, structure_in, structure_out, spelled}

-- the two bytes name the kind
abbrev pub names : Kind → ℕ → ℕ → Bool
names k a b = eqb a (lead k) && second k b

abbrev pub find : List Kind → ℕ → ℕ → Option Kind
find [] a b = none
find (k ∷ ks) a b = cond (names k a b) (some k) (find ks a b)

-- the byte is the first of some of the kinds
abbrev pub leads : List Kind → ℕ → Bool
leads [] a = false
leads (k ∷ ks) a = eqb a (lead k) || leads ks a

-- the current edition's kinds but the donation number
abbrev pub other_kinds : List Kind
other_kinds =
    Kind.Groups
    ∷ Kind.Product
    ∷ Kind.Expiry
    ∷ Kind.ExpiryTime
    ∷ Kind.Collection
    ∷ Kind.CollectionTime
    ∷ Kind.Production
    ∷ Kind.ProductionTime
    ∷ Kind.Testing
    ∷ Kind.Antigens
    ∷ Kind.Lot
    ∷ Kind.Flexible
    ∷ []

module _ (a b : ℕ) where
  fixed : (k : Kind) (l m : ℕ) → find every_kind l m ≡ some k → (eqb a l && eqb b m) ≡ true → find every_kind a b ≡ some k
  fixed k l m h e = let (f, g) = both _ _ e in rw (eqb-true a l f, eqb-true b m g) h

  pub named : (k : Kind) → names k a b ≡ true → find every_kind a b ≡ some k
  named Kind.Donation e = rw e
  named Kind.Groups e = fixed Kind.Groups (byte "=") (byte "%") refl e
  named Kind.Product e = fixed Kind.Product (byte "=") (byte "<") refl e
  named Kind.Expiry e = fixed Kind.Expiry (byte "=") (byte ">") refl e
  named Kind.ExpiryTime e = fixed Kind.ExpiryTime (byte "&") (byte ">") refl e
  named Kind.Collection e = fixed Kind.Collection (byte "=") (byte "*") refl e
  named Kind.CollectionTime e = fixed Kind.CollectionTime (byte "&") (byte "*") refl e
  named Kind.Production e = fixed Kind.Production (byte "=") (byte "}") refl e
  named Kind.ProductionTime e = fixed Kind.ProductionTime (byte "&") (byte "}") refl e
  named Kind.Testing e = fixed Kind.Testing (byte "&") (byte "(") refl e
  named Kind.Antigens e = fixed Kind.Antigens (byte "=") (byte "\\") refl e
  named Kind.Lot e = fixed Kind.Lot (byte "&") (byte ")") refl e
  named Kind.Flexible e = fixed Kind.Flexible (byte "=") (byte "(") refl e
  named Kind.Antigens2001 e = fixed Kind.Antigens2001 (byte "=") (byte "{") refl e

  -- two bytes name at most one kind
  pub one_name : (k l : Kind) → names k a b ≡ true → names l a b ≡ true → k ≡ l
  one_name k l e f = let g = named k e in let h = named l f in cc

  -- a search among kinds finds the one that the two bytes name, and no other
  pub find_named : {k : Kind} {ks : List Kind} → Among k ks → names k a b ≡ true → find ks a b ≡ some k
  find_named {k} (Memᴰ.head {x = l} c) e = rw (← c, e)
  find_named {k} (Memᴰ.tail {x = l} {xs = ks} m) e = past (names l a b) refl (find_named m e)
    where
      past : (t : Bool) → names l a b ≡ t → find ks a b ≡ some k → cond t (some l) (find ks a b) ≡ some k
      past true n f = ap some (one_name l k n e)
      past false n f = f

  pub find_found : (k : Kind) (ks : List Kind) → find ks a b ≡ some k → Among k ks × (names k a b ≡ true)
  find_found k [] e = let z : ◌≡◌ {A = ℕ} 0 1 = cc in absurd (omega arith)
  find_found k (l ∷ ks) e = past (names l a b) refl e (find_found k ks)
    where
      past : (t : Bool) → names l a b ≡ t → cond t (some l) (find ks a b) ≡ some k → (find ks a b ≡ some k → Among k ks × (names k a b ≡ true))
          → Among k (l ∷ ks) × (names k a b ≡ true)
      past true n f h = let c : k ≡ l = cc in (Memᴰ.head c, ap (λ (i : Kind). names i a b) c ∙ n)
      past false n f h = let (m, i) = h f in (Memᴰ.tail m, i)

among_each : (P : Kind → Type 0) {k : Kind} {ks : List Kind} → Among k ks → Each P ks → P k
among_each P (Memᴰ.head e) (h, hs) = rw e h
among_each P (Memᴰ.tail m) (h, hs) = among_each P m hs

-- what holds of every kind of a list
pub each_among : (P : Kind → Type 0) {k : Kind} {ks : List Kind} → Each P ks → Among k ks → P k
each_among P h m = among_each P m h

-- none of the other kinds is the donation number
pub other_kind : {k : Kind} → Among k other_kinds → eqb (number_of k) 1 ≡ false
other_kind m =
    each_among (λ (k : Kind). eqb (number_of k) 1 ≡ false)
    (refl, (refl, (refl, (refl, (refl, (refl, (refl, (refl, (refl, (refl, (refl, (refl, tt)))))))))))) m

-- two bytes that name a kind name none of some others
pub only_other : (ks : List Kind) (l : Kind) (a b : ℕ) → (Among l ks → ⊥) → names l a b ≡ true → find ks a b ≡ none
only_other ks l a b not_in e = by (find ks a b) refl
  where
    by : (o : Option Kind) → find ks a b ≡ o → o ≡ none
    by none f = refl
    by (some k) f = let (m, n) = find_found a b k ks f in absurd (not_in (Memᴰ.cast (one_name a b l k e n) m))

pub only_donation : (a b : ℕ) → names Kind.Donation a b ≡ true → find other_kinds a b ≡ none
only_donation a b = only_other other_kinds Kind.Donation a b (λ m. true≢false (other_kind m))

pub leads_among : (a : ℕ) (ks : List Kind) → leads ks a ≡ true → (k : Kind) × Among k ks × (a ≡ lead k)
leads_among a [] e = absurd (true≢false (sym e))
leads_among a (l ∷ ks) e =
    ⊎_elim (λ f. (l, Memᴰ.head refl, eqb-true a (lead l) f)) (λ f. let (k, m, i) = leads_among a ks f in (k, Memᴰ.tail m, i))
    (either (eqb a (lead l)) (leads ks a) e)

pub among_leads : {k : Kind} {ks : List Kind} → Among k ks → leads ks (lead k) ≡ true
among_leads {k} (Memᴰ.head {x = l} {xs = ks} c) = rw (eq-eqb (lead k) (lead l) (ap lead c))
among_leads {k} (Memᴰ.tail {x = l} m) = either_right (eqb (lead k) (lead l)) _ (among_leads m)

module _ {M : Type 0} where
  -- after the two bytes: the content of the kind that they name, or what a miss gives
  abbrev pub opened : Option Kind → ℕ → Tree M → (Structure → Tree M) → Tree M
  opened none b t go = t
  opened (some k) b t go = tree.content (positions k) (b ∷ []) (λ c. go (make k c))

  -- a place for one structure of the kinds ks: n for a byte that begins none of them, `miss` for two bytes that name none
  abbrev pub due : List Kind → ℕ → (ℕ → ℕ → Tree M) → (Structure → Tree M) → Tree M
  due ks n miss go = ask (λ a. cond (leads ks a) (ask (λ b. opened (find ks a b) b (miss a b) go)) (fatal n))

  module _ (ks : List Kind) (n : ℕ) (miss : ℕ → ℕ → Tree M) (go : Structure → Tree M) where
    -- a first byte of some of the kinds leads to the second, any other is refused
    pub due_led : (a : ℕ) (s : List ℕ) → leads ks a ≡ true
        → at (due ks n miss go) (a ∷ s) ≡ at (ask (λ b. opened (find ks a b) b (miss a b) go)) s
    due_led a s e = ap (λ (t : Bool). at (cond t (ask (λ b. opened (find ks a b) b (miss a b) go)) (fatal n)) s) e

    pub due_unled : (a : ℕ) (s : List ℕ) → leads ks a ≡ false → at (due ks n miss go) (a ∷ s) ≡ at (fatal n) s
    due_unled a s e = ap (λ (t : Bool). at (cond t (ask (λ b. opened (find ks a b) b (miss a b) go)) (fatal n)) s) e

    pub due_in : {k : Kind} (b : ℕ) (s : List ℕ) → Among k ks → second k b ≡ true
        → at (due ks n miss go) (lead k ∷ b ∷ s) ≡ at (tree.content (positions k) (b ∷ []) (λ c. go (make k c))) s
    due_in {k} b s m e =
        let name : names k (lead k) b ≡ true = rw (eq-eqb (lead k) (lead k) refl, e) in
        due_led (lead k) (b ∷ s) (among_leads m)
        ∙ ap (λ (o : Option Kind). at (opened o b (miss (lead k) b) go) s) (find_named (lead k) b m name)

    -- a lawful structure's writing leads to what follows it
    pub due_at : {k : Kind} (x : Structure) (s : List ℕ) → Lawful x → kind_of x ≡ some k → Among k ks
        → at (due ks n miss go) (written x ++ s) ≡ at (go x) s
    due_at {k} x s h kind m =
        let (k', b, r) = structure_out x h in
        let e : k' ≡ k = cc r.kind in
        ap (λ (i : List ℕ). at (due ks n miss go) (i ++ s)) (spelled r)
        ∙ due_in b (content x ++ s) (Memᴰ.cast e m) r.marked
        ∙ content_at (λ c. go (make k' c)) s r.fits
        ∙ ap (λ (y : Structure). at (go y) s) r.made

-- every kind has a second byte
pub a_second : (k : Kind) → (b : ℕ) × (second k b ≡ true)
a_second Kind.Donation = (byte "A", refl)
a_second Kind.Groups = (byte "%", refl)
a_second Kind.Product = (byte "<", refl)
a_second Kind.Expiry = (byte ">", refl)
a_second Kind.ExpiryTime = (byte ">", refl)
a_second Kind.Collection = (byte "*", refl)
a_second Kind.CollectionTime = (byte "*", refl)
a_second Kind.Production = (byte "}", refl)
a_second Kind.ProductionTime = (byte "}", refl)
a_second Kind.Testing = (byte "(", refl)
a_second Kind.Antigens = (byte "\\", refl)
a_second Kind.Lot = (byte ")", refl)
a_second Kind.Flexible = (byte "(", refl)
a_second Kind.Antigens2001 = (byte "{", refl)

-- every kind is one of them
pub among_every : (k : Kind) → Among k every_kind
among_every k =
    let (b, e) = a_second k in
    (find_found (lead k) b k every_kind (named (lead k) b k (rw (eq-eqb (lead k) (lead k) refl, e)))).0

-- the kinds whose numbers pass a test
abbrev pub keep : (ℕ → Bool) → List Kind → List Kind
keep t [] = []
keep t (k ∷ ks) = cond (t (number_of k)) (k ∷ keep t ks) (keep t ks)

module _ (t : ℕ → Bool) where
  kept : {k : Kind} {ks : List Kind} → Among k ks → t (number_of k) ≡ true → Among k (keep t ks)
  kept {k} (Memᴰ.head {x = l} c) e =
      let h : t (number_of l) ≡ true = ap (λ (i : Kind). t (number_of i)) (sym c) ∙ e in rw h (Memᴰ.head c)
  kept {k} (Memᴰ.tail {x = l} {xs = ks} m) e = by (t (number_of l)) (kept m e)
    where
      by : (u : Bool) → Among k (keep t ks) → Among k (cond u (l ∷ keep t ks) (keep t ks))
      by true h = Memᴰ.tail h
      by false h = h

-- the numbers of an edition's kinds
abbrev pub of_edition : Edition → ℕ → Bool
of_edition Edition.Current n = not (eqb n 200)
of_edition Edition.Of2001 n = leb n 9 || eqb n 200

pub edition_among : (e : Edition) (k : Kind) → of_edition e (number_of k) ≡ true → Among k (kinds_of e)
edition_among Edition.Current k h = kept (of_edition Edition.Current) (among_every k) h
edition_among Edition.Of2001 k h = kept (of_edition Edition.Of2001) (among_every k) h

pub among_edition : (e : Edition) {k : Kind} → Among k (kinds_of e) → of_edition e (number_of k) ≡ true
among_edition Edition.Current m =
    each_among (λ (k : Kind). of_edition Edition.Current (number_of k) ≡ true)
    (refl, (refl, (refl, (refl, (refl, (refl, (refl, (refl, (refl, (refl, (refl, (refl, (refl, tt))))))))))))) m
among_edition Edition.Of2001 m =
    each_among (λ (k : Kind). of_edition Edition.Of2001 (number_of k) ≡ true)
    (refl, (refl, (refl, (refl, (refl, (refl, (refl, (refl, (refl, (refl, tt)))))))))) m

-- every kind has a lawful structure, and its first byte
pub some_structure : (k : Kind) → (y : Structure) × Lawful y × (kind_of y ≡ some k) × (take 1 (identifier y) ≡ lead k ∷ [])
some_structure k =
    let (b, e) = a_second k in
    let (c, fs) = example (positions k) (b ∷ []) (kinds_open k) in
    let r = structure_in k b c e fs in
    (make k (b ∷ c), r.lawful, r.kind, ap (take 1) r.named)

pub tabled_length : {πs : List Position} {τs : List (ℕ → Bool)} {νs : List ℕ} → Tabled πs τs νs → length πs ≡ length τs
tabled_length {πs} tabled = sym (length-map πs (λ (π : Position). π.set)) ∙ ap length tabled.by_sets

-- what a list made of another has at an index
mapped_at : {A : Type 0} (f : Position → A) (ρs : List Position) (π d : Position) (σs : List Position) {us : List A}
    → map f (ρs ++ π ∷ σs) ≡ us → f π ≡ get_or us (length ρs) (f d)
mapped_at f ρs π d σs e =
    ap f (sym (get_or-append_seam ρs π σs d)) ∙ sym (get_or-map f (ρs ++ π ∷ σs) (length ρs) d) ∙ ap (λ l. get_or l (length ρs) (f d)) e

pub table_at : {πs : List Position} {τs : List (ℕ → Bool)} {νs : List ℕ} (ρs : List Position) (π : Position) (σs : List Position)
    → Tabled πs τs νs → πs ≡ ρs ++ π ∷ σs
    → (π.set ≡ get_or τs (length ρs) (λ b. false)) × (π.refusal ≡ get_or νs (length ρs) VALUE) × (length ρs < length τs)
table_at {τs = τs} ρs π σs tabled e =
    let d : Position = free (λ b. false) VALUE in
    let long : length τs ≡ length ρs + suc (length σs) = sym (tabled_length tabled) ∙ ap length e ∙ length-append ρs (π ∷ σs) in (
      mapped_at (λ (ρ : Position). ρ.set) ρs π d σs (rw e at tabled.by_sets),
      mapped_at (λ (ρ : Position). ρ.refusal) ρs π d σs (rw e at tabled.by_numbers),
      omega arith,
    )

-- what the tree of a tabled content says of a byte that leads no further
module _ {M : Type 0} {πs : List Position} {τs : List (ℕ → Bool)} {νs : List ℕ} (p c : List ℕ) (k : List ℕ → Tree M) (d : ℕ)
    (tabled : Tabled πs τs νs) (l : length c < length τs) (lively : (c : List ℕ) → Alive (k c)) (alive : Alive (at (tree.content πs p k) c))
    (dead : Alive (at (tree.content πs p k) (c ++ d ∷ [])) → ⊥) where
  short_of : length c < length πs
  short_of = rw (tabled_length tabled) l

  i : tree.Inside πs p c k
  i = content_inside πs p c k short_of alive

  judged_at : at (tree.content πs p k) (c ++ d ∷ []) ≡ judged i.here (p ++ c) d (tree.content i.rest ((p ++ c) ++ d ∷ []) k)
  judged_at = at_append (tree.content πs p k) c (d ∷ []) ∙ ap (λ (t : Tree M). at t (d ∷ [])) i.node

  tabled_at : (i.here.set d ≡ get_or τs (length c) (λ b. false) d) × (i.here.refusal ≡ get_or νs (length c) VALUE)
  tabled_at =
      let (set, refusal, long) = table_at i.done i.here i.rest tabled i.split in
      rw (fits_length i.fits) (ap (λ (f : ℕ → Bool). f d) set, refusal)

  pub outside_told : get_or τs (length c) (λ b. false) d ≡ false → at (tree.content πs p k) (c ++ d ∷ []) ≡ fatal CHARACTER
  outside_told o = judged_at ∙ rw (tabled_at.0 ∙ o)

  pub unlawful_told : get_or τs (length c) (λ b. false) d ≡ true → at (tree.content πs p k) (c ++ d ∷ []) ≡ fatal (get_or νs (length c) VALUE)
  unlawful_told o = by_rule (i.here.rule (p ++ c) d) refl
    where
      inside : i.here.set d ≡ true
      inside = tabled_at.0 ∙ o

      by_rule : (t : Bool) → i.here.rule (p ++ c) d ≡ t → at (tree.content πs p k) (c ++ d ∷ []) ≡ fatal (get_or νs (length c) VALUE)
      by_rule false e = judged_at ∙ rw (inside, e) (ap fatal tabled_at.1)
      by_rule true e =
          let rest = tree.content i.rest ((p ++ c) ++ d ∷ []) k in
          let node : at (tree.content πs p k) (c ++ d ∷ []) ≡ rest = judged_at
          ∙ judged_fit {π = i.here} {p = p ++ c} {b = d} rest record { inside = inside; lawful = e } in
          absurd (dead (subst Alive (sym node) (content_alive i.rest ((p ++ c) ++ d ∷ []) k lively)))

module _ {M : Type 0} (W : M → List ℕ → Type 0) (F : List ℕ → ℕ → ℕ → Type 0) where
  -- the rows of a byte at a position with the set σ and the number v
  pub record Judged (σ : ℕ → Bool) (v : ℕ) (p : List ℕ) (b : ℕ) : Type 0 where
    pub outside : σ b ≡ false → F p b CHARACTER
    pub unlawful : σ b ≡ true → F p b v

  module _ (ks : List Kind) (n : ℕ) (miss : ℕ → ℕ → Tree M) (go : Structure → Tree M) (q : List ℕ)
      (goes : (k : Kind) (x : Structure) → Lawful x → kind_of x ≡ some k → Among k ks → Stands W F (go x) (q ++ written x))
      (inside : (k : Kind) (x : Structure) (c : List ℕ) (b : ℕ) → Lawful x → kind_of x ≡ some k → Among k ks → length c < length (sets k)
      → Judged (set_at k (length c)) (refused_at k (length c)) (q ++ (identifier x ++ c)) b)
    where
      opened_stands : (k : Kind) (b : ℕ) → Among k ks → second k b ≡ true
          → Stands W F (tree.content (positions k) (b ∷ []) (λ c. go (make k c))) ((q ++ lead k ∷ []) ++ b ∷ [])
      opened_stands k b m e = content_sound W F (positions k) (b ∷ []) ((q ++ lead k ∷ []) ++ b ∷ []) (λ c. go (make k c)) (kinds_open k) ends rows
        where
          whole : (c : List ℕ) → ((q ++ lead k ∷ []) ++ b ∷ []) ++ c ≡ q ++ lead k ∷ b ∷ c
          whole c = append_assoc (q ++ lead k ∷ []) (b ∷ []) c ∙ append_assoc q (lead k ∷ []) (b ∷ c)

          ends : (c : List ℕ) → Fits (positions k) (b ∷ []) c → Stands W F (go (make k (b ∷ c))) (((q ++ lead k ∷ []) ++ b ∷ []) ++ c)
          ends c fs =
              let r = structure_in k b c e fs in
              rw (whole c) (subst (λ (i : List ℕ). Stands W F (go (make k (b ∷ c))) (q ++ i)) (spelled r)
              (goes k (make k (b ∷ c)) r.lawful r.kind m))

          rows : (ρs : List Position) (π : Position) (σs : List Position) (c : List ℕ) (d : ℕ) → positions k ≡ ρs ++ π ∷ σs
              → Fits ρs (b ∷ []) c → Rows W F π (b ∷ c) (((q ++ lead k ∷ []) ++ b ∷ []) ++ c) d
          rows ρs π σs c d is fs =
              let (set, number, long) = table_at ρs π σs (positions_table k) is in
              let here : π.set d ≡ set_at k (length c) d = ap (λ (f : ℕ → Bool). f d) set ∙ ap (λ (i : ℕ). set_at k i d) (sym (fits_length fs)) in
              let refusal : π.refusal ≡ refused_at k (length c) = number ∙ ap (refused_at k) (sym (fits_length fs)) in
              let (c₀, gs) = example (positions k) (b ∷ []) (kinds_open k) in
              let r = structure_in k b c₀ e gs in
              let j : Judged (set_at k (length c)) (refused_at k (length c)) (q ++ lead k ∷ b ∷ c) d =
              rw r.named at (inside k (make k (b ∷ c₀)) c d r.lawful r.kind m (rw (fits_length fs) long))
              in
              record { outside = λ o. rw (whole c) (j.outside (sym here ∙ o)); unlawful = λ i u. rw (whole c, refusal) (j.unlawful (sym here ∙ i)) }

      -- a first byte leads on
      led : (k : Kind) → Among k ks → Begins W (q ++ lead k ∷ [])
      led k m = let (b, e) = a_second k in begins_front W (q ++ lead k ∷ []) (b ∷ []) (opened_stands k b m e).0

      pub due_begins : (k : Kind) → Among k ks → Begins W q
      due_begins k m = begins_front W q (lead k ∷ []) (led k m)

      pub due_stands : Begins W q → ((a : ℕ) → leads ks a ≡ false → F q a n)
          → ((a b : ℕ) → leads ks a ≡ true → find ks a b ≡ none → Begins W (q ++ a ∷ []) → Sound W F (miss a b) ((q ++ a ∷ []) ++ b ∷ []))
          → Stands W F (due ks n miss go) q
      due_stands begins first missed = (begins, (begins, λ a. first_byte a (leads ks a) refl))
        where
          second_byte : (a b : ℕ) (o : Option Kind) → leads ks a ≡ true → Begins W (q ++ a ∷ []) → find ks a b ≡ o
              → Sound W F (opened o b (miss a b) go) ((q ++ a ∷ []) ++ b ∷ [])
          second_byte a b none l v e = missed a b l e v
          second_byte a b (some k) l v e =
              let (m, name) = find_found a b k ks e in
              let (f, g) = both _ _ name in
              rw (eqb-true a (lead k) f) (opened_stands k b m g).1

          first_byte : (a : ℕ) (t : Bool) → leads ks a ≡ t
              → Sound W F (cond t (ask (λ b. opened (find ks a b) b (miss a b) go)) (fatal n)) (q ++ a ∷ [])
          first_byte a false e = (q, a, refl, begins, first a e)
          first_byte a true e =
              let (k, m, is) = leads_among a ks e in
              let v : Begins W (q ++ a ∷ []) = rw is (led k m) in
              (v, λ b. second_byte a b (find ks a b) e v refl)
