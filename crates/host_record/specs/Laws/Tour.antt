-- A tour of the tree of records: what ends is the record of a message, what asks begins one, and what refuses has its row.
use Rattle.std.specs.Prelude.{ℕ, zero, suc, ◌+◌, ◌≤◌, ◌<◌, ◌≡◌, refl, Bool, true, false, cond, List, [], ◌∷◌, ◌++◌, map, eqb, length, get_or}
use Rattle.std.proofs.Common.{sym, ap, ◌∙◌, subst, append_assoc, append-nil, arith, length-append, eqb-true}
use Rattle.std.proofs.Math.Option.{Option, some, none}
use Rattle.std.proofs.lemmas.Bool.{eqb-false}
use Rattle.demand.specs.Each.{Each}
use Rattle.demand.specs.Demand.{Begins}
use Rattle.demand.specs.Numbers.{NESTED, VALUE, TRAILING, REPEAT, TAG}
use Rattle.demand.specs.Laws.Each.{each_append}
use Rattle.demand.specs.Laws.Fixes.{one_last}
use Rattle.demand.specs.Laws.Tree.{Tree, fatal, Sound, begins_of, begins_front}
use Rattle.demand.specs.Laws.Content.{Position, Fits, Stands, Rows, content, content_sound, fits_length, fits_split, shift, shift_in}
use Rattle.label.specs.declared.Edition.{Edition}
use Rattle.label.specs.declared.Form.{Form}
use Rattle.label.specs.declared.Kind.{Kind}
use Rattle.label.specs.declared.Message.{Message}
use Rattle.label.specs.declared.Structure.{Structure}
use Rattle.structure.specs.declared.Shape.{Shape}
use Rattle.structure.specs.Structures.{kind_of, kinds_of, Among, number_of, number_or, number_in, Lawful, LawfulIn, numbered}
use Rattle.structure.specs.Laws.Due.{table_at, some_structure}
use Rattle.structure.specs.Laws.Head.{head_positions, head_in, aa_of, bbb_of}
use Rattle.structure.specs.Laws.Kinds.{Tabled, shape_positions, shapes_open}
use Rattle.structure.specs.Laws.Numbered.{numbered_found}
use Rattle.structure.specs.Laws.Spot.{kinds_at}
use Rattle.message.specs.Grammar.{message_of, Pairs, donation_in, donations, current}
use Rattle.message.specs.Laws.Donations.{spot_of, donations_append, after_among, after_current, groups_after, pairs_in, lawful_in}
use Rattle.message.specs.Laws.Tour.{head_tabled}
use Rattle.message.specs.Laws.Tree.{whole, seconds, paired, among_pairs}
use Rattle.message.specs.Laws.Places.{in_turn_snoc}
use Rattle.host_record.specs.Record.{field_of, fields_of, HEAD, head_field, Records}
use Rattle.message.specs.Where.{Within, within, at_start, in_compound, May, because_first, because_within, because_hoped, hoped}
use Rattle.message.specs.Where.{Inside, of_structure, of_head, Repeated, repeats, Nested, nests}
use Rattle.host_record.specs.Refusals.{head_sets, head_refusals, field_sets, field_refusals, in_a_record, Fatal, row_trailing, row_repeat}
use Rattle.host_record.specs.Refusals.{row_nested, row_tag, row_character, row_value}
use Rattle.host_record.specs.Laws.Fields.{lengths, lengths_in, behind_open, behind_table, field_positions, make_field, field_open}
use Rattle.host_record.specs.Laws.Fields.{field_table, field_in}
use Rattle.host_record.specs.Laws.Tree.{entered, slot, missed, following, head_past, headed, missed_first, seconding, alone, records, single, pair}
use Rattle.host_record.specs.Laws.Tree.{compound, records_of}

abbrev Stand : Tree Message → List ℕ → Type 0
Stand t p = Stands Records Fatal t p

-- the rows of a tabled content behind q
tabled_rows : {πs : List Position} {τs : List (ℕ → Bool)} {νs : List ℕ} (q : List ℕ) → Tabled πs τs νs
    → ((c : List ℕ) → length c < length τs
    → Inside in_a_record Edition.Current (q ++ c) (get_or τs (length c) (λ b. false)) (get_or νs (length c) VALUE))
    → (ρs : List Position) (π : Position) (σs : List Position) (c : List ℕ) (b : ℕ) → πs ≡ ρs ++ π ∷ σs → Fits ρs [] c
    → Rows {M = Message} Records Fatal π c (q ++ c) b
tabled_rows {τs = τs} {νs = νs} q tabled inside ρs π σs c b is fs =
    let (set, number, long) = table_at ρs π σs tabled is in
    let i = inside c (rw (fits_length fs) long) in
    let here : π.set b ≡ get_or τs (length c) (λ b. false) b = rw (fits_length fs) (ap (λ (f : ℕ → Bool). f b) set) in
    let refusal : π.refusal ≡ get_or νs (length c) VALUE = rw (fits_length fs) number in
    record { outside = λ o. row_character _ _ i (sym here ∙ o) refl; unlawful = λ o u. row_value _ _ i (sym here ∙ o) refusal }

-- a field's tag is its kind's number
pub tagged : (x : Structure) {k : Kind} (q c : List ℕ) {p : List ℕ} → kind_of x ≡ some k → p ≡ q ++ number_in x ∷ c
    → p ≡ q ++ number_of k ∷ c
tagged x q c kind e = e ∙ ap (λ (o : Option Kind). q ++ number_or o ∷ c) kind

field_inside : (q : List ℕ) (k : Kind) (c : List ℕ) → May in_a_record Edition.Current q k → length c < length (field_sets k)
    → Inside in_a_record Edition.Current ((q ++ number_of k ∷ []) ++ c) (get_or (field_sets k) (length c) (λ b. false))
    (get_or (field_refusals k) (length c) VALUE)
field_inside q k c may l =
    let (x, h, kind, first) = some_structure k in
    of_structure q x k c may h kind l (append_assoc q (number_of k ∷ []) c ∙ ap (λ (o : Option Kind). q ++ number_or o ∷ c) (sym kind)) refl refl

-- a nested head and a second 001, by the tag that is refused
module _ {p : List ℕ} {b : ℕ} where
  pub nested_at : {held : ℕ} → Within in_a_record Edition.Current p held → b ≡ HEAD → Nested in_a_record Edition.Current p b
  nested_at {held} w e = nests p held w (ap (λ (i : ℕ). p ++ i ∷ []) e)

  pub nested_in : Nested in_a_record Edition.Current p b → (held : ℕ) × Within in_a_record Edition.Current p held × (b ≡ HEAD)
  nested_in (nests q held w e) =
      let (before, last) = one_last p q b HEAD e in (held, subst (λ (l : List ℕ). Within in_a_record Edition.Current l held) (sym before) w, last)

  pub repeated_at : Within in_a_record Edition.Current p 1 → b ≡ 1 → Repeated in_a_record Edition.Current p b
  repeated_at w e =
      let (x, h, kind, first) = some_structure Kind.Donation in
      repeats p x w h kind (ap (λ (i : ℕ). p ++ i ∷ []) (e ∙ ap number_or (sym kind)))

  pub repeated_in : Repeated in_a_record Edition.Current p b → Within in_a_record Edition.Current p 1 × (b ≡ 1)
  repeated_in (repeats q x w h kind e) =
      let (before, last) = one_last p q b (number_in x) e in
      (subst (λ (l : List ℕ). Within in_a_record Edition.Current l 1) (sym before) w, last ∙ ap number_or kind)

-- a place for a field of some kinds, each of which may stand there
module _ (ks : List Kind) (miss : ℕ → Tree Message) (go : Structure → Tree Message) (q : List ℕ)
    (may : (k : Kind) → Among k ks → May in_a_record Edition.Current q k)
    (goes : (k : Kind) (x : Structure) → Lawful x → kind_of x ≡ some k → Among k ks → Stand (go x) (q ++ field_of x)) where
  entered_stands : (k : Kind) → Among k ks → Stand (content (field_positions k) [] (λ c. go (make_field k c))) (q ++ number_of k ∷ [])
  entered_stands k m =
      content_sound Records Fatal (field_positions k) [] (q ++ number_of k ∷ []) (λ c. go (make_field k c)) (field_open k) ends
      (tabled_rows (q ++ number_of k ∷ []) (field_table k)
      (λ c l. field_inside q k c (may k m) l))
    where
      ends : (c : List ℕ) → Fits (field_positions k) [] c → Stand (go (make_field k c)) ((q ++ number_of k ∷ []) ++ c)
      ends c fs =
          let f = field_in k c fs in
          rw (append_assoc q (number_of k ∷ []) c) (rw f.is at (goes k (make_field k c) f.lawful f.kind m))

  slot_begins : (k : Kind) → Among k ks → Begins Records q
  slot_begins k m = begins_front Records q (number_of k ∷ []) (entered_stands k m).0

  slot_stands : Begins Records q → ((t : ℕ) → numbered ks t ≡ none → Sound Records Fatal (miss t) (q ++ t ∷ [])) → Stand (slot ks miss go) q
  slot_stands begins misses = (begins, (begins, λ t. by t (numbered ks t) refl))
    where
      by : (t : ℕ) (o : Option Kind) → numbered ks t ≡ o → Sound Records Fatal (entered o (miss t) go) (q ++ t ∷ [])
      by t none e = misses t e
      by t (some k) e = let (m, is) = numbered_found k ks t e in rw is (entered_stands k m).1

whole_stands : (m : Message) (r : List ℕ) → Records m r → Stand (whole m) r
whole_stands m r w = let v = begins_of Records w in (v, (w, λ b. (r, b, refl, v, row_trailing (m, w) refl)))

-- a tag that fits nowhere there
module _ (q : List ℕ) (t : ℕ) (v : Begins Records q) where
  row : {n : ℕ} → Fatal q t n → Sound Records Fatal (fatal n) (q ++ t ∷ [])
  row r = (q, t, refl, v, r)

  not_nested : eqb t HEAD ≡ false → Nested in_a_record Edition.Current q t → ⊥
  not_nested e h = eqb-false t HEAD e (nested_in h).2

  -- within a compound: a second 023, a second 001, or neither
  within_sound : (held : ℕ) → held ≤ 1 → Within in_a_record Edition.Current q held → numbered (kinds_at (spot_of held)) t ≡ none
      → Sound Records Fatal (missed (spot_of held) t) (q ++ t ∷ [])
  within_sound zero few w u = by (eqb t HEAD) refl
    where
      not_repeated : Repeated in_a_record Edition.Current q t → ⊥
      not_repeated h =
          let found : numbered (kinds_of Edition.Current) t ≡ some Kind.Donation = rw (repeated_in h).1 in
          let z : ◌≡◌ {A = ℕ} 0 1 = cc in
          omega arith

      by : (x : Bool) → eqb t HEAD ≡ x → Sound Records Fatal (fatal (cond x NESTED TAG)) (q ++ t ∷ [])
      by true e = row (row_nested (nested_at w (eqb-true t HEAD e)) refl)
      by false e = row (row_tag (in_compound zero w) not_repeated (not_nested e) refl)
  within_sound (suc zero) few w u = by (eqb t HEAD) (eqb t 1) refl refl
    where
      not_repeated : eqb t 1 ≡ false → Repeated in_a_record Edition.Current q t → ⊥
      not_repeated e h = eqb-false t 1 e (repeated_in h).1

      by : (x y : Bool) → eqb t HEAD ≡ x → eqb t 1 ≡ y → Sound Records Fatal (fatal (cond x NESTED (cond y REPEAT TAG))) (q ++ t ∷ [])
      by true y e f = row (row_nested (nested_at w (eqb-true t HEAD e)) refl)
      by false true e f = row (row_repeat (repeated_at w (eqb-true t 1 f)) refl)
      by false false e f = row (row_tag (in_compound 1 w) (not_repeated f) (not_nested e) refl)
  within_sound (suc (suc held)) few w u = absurd (omega arith)

-- one field more of a compound
within_stands : (n aa bbb : ℕ) (xs : List Structure) → aa ≤ 16 → bbb ≤ 999 → Each (LawfulIn Edition.Current) xs → donations xs ≤ 1
    → aa ≡ length xs + suc n
    → ((x : Structure) → LawfulIn Edition.Current x → donations (xs ++ x ∷ []) ≤ 1
    → Stand (following n bbb (xs ++ x ∷ [])) (head_field aa bbb ++ fields_of (xs ++ x ∷ [])))
    → Stand (following (suc n) bbb xs) (head_field aa bbb ++ fields_of xs)
within_stands n aa bbb xs hi small hs few e goes =
    slot_stands ks (missed (spot_of held)) go q may then begins (λ t u. within_sound q t begins held few here u)
  where
    held : ℕ
    held = donations xs

    ks : List Kind
    ks = kinds_at (spot_of held)

    go : Structure → Tree Message
    go x = following n bbb (xs ++ x ∷ [])

    q : List ℕ
    q = head_field aa bbb ++ fields_of xs

    here : Within in_a_record Edition.Current q held
    here = within current aa bbb xs hi small hs refl few (omega arith) refl

    may : (k : Kind) → Among k ks → May in_a_record Edition.Current q k
    may k m = because_within (after_current held m) held here (after_among held k few m)

    still : (k : Kind) (x : Structure) → kind_of x ≡ some k → Among k ks → donations (xs ++ x ∷ []) ≤ 1
    still k x kind m =
        let one : donation_in (kind_of x) ≡ donation_in (some k) = ap donation_in kind in
        omega (arith, after_among held k few m, donations_append xs (x ∷ []))

    is : (x : Structure) → head_field aa bbb ++ fields_of (xs ++ x ∷ []) ≡ q ++ field_of x
    is x = ap (head_field aa bbb ++◌) (in_turn_snoc field_of xs x) ∙ sym (append_assoc (head_field aa bbb) (fields_of xs) (field_of x))

    then : (k : Kind) (x : Structure) → Lawful x → kind_of x ≡ some k → Among k ks → Stand (go x) (q ++ field_of x)
    then k x h kind m = subst (Stand (go x)) (is x) (goes x (lawful_in h kind (after_current held m)) (still k x kind m))

    begins : Begins Records q
    begins = slot_begins ks (missed (spot_of held)) go q may then Kind.Groups (groups_after held)

following_stands : (n aa bbb : ℕ) (xs : List Structure) → 1 ≤ aa → aa ≤ 16 → bbb ≤ 999 → Each (LawfulIn Edition.Current) xs
    → donations xs ≤ 1
    → aa ≡ length xs + n → Stand (following n bbb xs) (head_field aa bbb ++ fields_of xs)
following_stands zero aa bbb xs lo hi small hs few e =
    let is : aa ≡ length xs = omega arith in
    whole_stands (message_of Form.Compound bbb xs) (head_field aa bbb ++ fields_of xs)
    (records_of (compound bbb xs (omega arith) (omega arith) small hs few refl (ap (λ (i : ℕ). head_field i bbb ++ fields_of xs) is)))
following_stands (suc n) aa bbb xs lo hi small hs few e =
    within_stands n aa bbb xs hi small hs few e
    (λ x h still.
    let l : aa ≡ length (xs ++ x ∷ []) + n = omega (arith, length-append xs (x ∷ [])) in
    following_stands n aa bbb (xs ++ x ∷ []) lo hi small (each_append (LawfulIn Edition.Current) xs (x ∷ []) hs (h, tt)) still l)

pub head_table : Tabled head_past head_sets head_refusals
head_table = behind_table 5 1 (shape_positions Shape.Head) head_tabled

head_stands : Stand (content head_past [] headed) (HEAD ∷ [])
head_stands =
    content_sound Records Fatal head_past [] (HEAD ∷ []) headed (behind_open 5 1 (shape_positions Shape.Head) (shapes_open Shape.Head)) ends
    (tabled_rows (HEAD ∷ []) head_table (λ c l. of_head current c l refl refl refl))
  where
    ends : (c : List ℕ) → Fits head_past [] c → Stand (headed c) (HEAD ∷ c)
    ends c fs =
        let parts = fits_split (lengths 5) fs in
        let l : parts.left ≡ 0 ∷ 5 ∷ [] = lengths_in 5 parts.left_fits in
        let d = parts.right in
        let behind : Fits (map (shift 1) (shape_positions Shape.Head)) (0 ∷ 5 ∷ []) d = rw l at parts.right_fits in
        let (lo, hi, small, is) = head_in (shift_in (5 ∷ []) head_positions {p = []} (shift_in (0 ∷ [])
        (shape_positions Shape.Head) {p = 5 ∷ []} behind)) in
        let whole_is : c ≡ 0 ∷ 5 ∷ d = parts.whole ∙ ap (◌++ d) l in
        let field_is : head_field (aa_of d) (bbb_of d) ≡ HEAD ∷ 0 ∷ 5 ∷ d = ap (λ (x : List ℕ). HEAD ∷ 0 ∷ 5 ∷ x) (sym is) in
        rw whole_is (subst (Stand (following (aa_of d) (bbb_of d) [])) (append-nil (head_field (aa_of d) (bbb_of d)) ∙ field_is)
        (following_stands (aa_of d) (aa_of d) (bbb_of d) [] lo hi small tt (omega arith) (omega arith)))

-- after a first field, alone or with its second
alone_stands : (x : Structure) → LawfulIn Edition.Current x → Stand (alone x) (field_of x)
alone_stands x h = (v, (w, λ t. second_stands.1.1 t))
  where
    w : Records (message_of Form.Single 0 (x ∷ [])) (field_of x)
    w = records_of (single x h refl refl)

    v : Begins Records (field_of x)
    v = begins_of Records w

    pairs : (l : Kind) → Among l (seconds (kind_of x)) → Pairs h.kind l
    pairs l m = among_pairs h.kind l (rw h.is at m)

    second_stands : Stand (seconding x) (field_of x)
    second_stands =
        slot_stands (seconds (kind_of x)) (λ t. fatal TRAILING) (paired x) (field_of x)
        (λ k m. because_hoped (hoped x h (pairs k m) refl))
        (λ k y g ky m. whole_stands _ _ (records_of (pair x y h (lawful_in g ky (pairs_in Edition.Current (pairs k m)).1) (pairs k m) refl refl)))
        v (λ t e. (field_of x, t, refl, v, row_trailing (_, w) refl))

nothing_within : {held : ℕ} → Within in_a_record Edition.Current [] held → ⊥
nothing_within (within c aa bbb xs hi small hs is few l e) = let z : ◌≡◌ {A = ℕ} 0 1 = cc in omega arith

pub records_stand : Stand records []
unfolding records
records_stand = slot_stands (kinds_of Edition.Current) missed_first alone [] may then begins (λ t e. by t (eqb t HEAD) refl)
  where
    may : (k : Kind) → Among k (kinds_of Edition.Current) → May in_a_record Edition.Current [] k
    may k m = because_first m refl

    then : (k : Kind) (x : Structure) → Lawful x → kind_of x ≡ some k → Among k (kinds_of Edition.Current) → Stand (alone x) (field_of x)
    then k x h kind m = alone_stands x (lawful_in h kind m)

    begins : Begins Records []
    begins = slot_begins (kinds_of Edition.Current) missed_first alone [] may then Kind.Groups (groups_after 0)

    not_repeated : (t : ℕ) → Repeated in_a_record Edition.Current [] t → ⊥
    not_repeated t h = nothing_within (repeated_in h).0

    not_nested_first : (t : ℕ) → Nested in_a_record Edition.Current [] t → ⊥
    not_nested_first t h = nothing_within (nested_in h).1

    by : (t : ℕ) (x : Bool) → eqb t HEAD ≡ x → Sound Records Fatal (cond x (content head_past [] headed) (fatal TAG)) (t ∷ [])
    by t true e = rw (eqb-true t HEAD e) head_stands.1
    by t false e = row [] t begins (row_tag (at_start refl) (not_repeated t) (not_nested_first t) refl)
