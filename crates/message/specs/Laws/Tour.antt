-- A tour of the tree of messages: what ends is a message of the grammar, what asks begins one, and what refuses has its row.
use Rattle.std.specs.Prelude.{ℕ, zero, suc, ◌+◌, ◌≤◌, ◌<◌, ◌≡◌, refl, Bool, true, false, cond, ◌&&◌, List, [], ◌∷◌, ◌++◌, eqb, length, get_or, take, replicate}
use Rattle.std.proofs.Common.{sym, ap, ◌∙◌, subst, append_assoc, append-nil, arith, length-append, eqb-true}
use Rattle.std.proofs.Math.Option.{some, none}
use Rattle.demand.specs.Each.{Each}
use Rattle.demand.specs.Demand.{Begins}
use Rattle.demand.specs.Numbers.{IDENTIFIER, NESTED, VALUE, TRAILING, REPEAT}
use Rattle.demand.specs.Laws.Each.{each_append}
use Rattle.demand.specs.Laws.Tree.{Tree, fatal, Sound, begins_of}
use Rattle.demand.specs.Laws.Content.{Position, Fits, Stands, Rows, content, content_sound, fits_length, shift_in}
use Rattle.text.specs.Bytes.{byte, digit, first_character}
use Rattle.text.specs.Laws.Bytes.{both}
use Rattle.label.specs.declared.Structure.{Structure}
use Rattle.label.specs.declared.Kind.{Kind}
use Rattle.label.specs.declared.Edition.{Edition}
use Rattle.label.specs.declared.Form.{Form}
use Rattle.label.specs.declared.Message.{Message}
use Rattle.structure.specs.Structures.{kind_of, kinds_of, Among, identifier, sets, set_at, refused_at, Lawful, LawfulIn, written}
use Rattle.structure.specs.declared.Shape.{Shape}
use Rattle.structure.specs.Laws.Head.{head_positions, head_in, aa_of, bbb_of}
use Rattle.structure.specs.Laws.Kinds.{shape_positions, Tabled, shapes_open}
use Rattle.structure.specs.Laws.Due.{names, leads, leads_among, find, due, some_structure, Judged, table_at}
use Rattle.structure.specs.Laws.Due.{due_begins, due_stands}
use Rattle.structure.specs.Laws.Spot.{is_head, kinds_at}
use Rattle.message.specs.Laws.Places.{written_snoc}
use Rattle.message.specs.Grammar.{message_of, Pairs, donation_groups, header, donation_in, donations, written_all, HasCompounds, current, Produces}
use Rattle.message.specs.Grammar.{single, pair, compound}
use Rattle.message.specs.Where.{Within, within, Due, at_start, in_compound, Hoped, hoped, May, because_first, because_within}
use Rattle.message.specs.Where.{because_hoped, Inside, of_structure, of_head}
use Rattle.message.specs.Refusals.{on_a_label, first, second, complete, breaks, Fatal, row_identifier}
use Rattle.message.specs.Refusals.{row_nested, row_repeat, row_character, row_value, row_trailing}
use Rattle.message.specs.Laws.Donations.{spot_of, donations_append, after_among, after_current, groups_after, leads_after, pairs_in, lawful_in}
use Rattle.message.specs.Laws.Donations.{no_donation}
use Rattle.message.specs.Laws.Tree.{message, whole, several, headed, lone, hoping, paired, opens_head, head_opened, missed_first}
use Rattle.message.specs.Laws.Tree.{missed_at, seconds, among_pairs}
use Rattle.message.specs.Laws.Nodes.{first_not_nested, first_not_repeated, first_not_trailing, second_not_nested, second_not_repeated}
use Rattle.message.specs.Laws.Nodes.{second_not_trailing, nested_at, repeated_at}

abbrev Stand : Edition → Tree Message → List ℕ → Type 0
Stand ed t p = Stands (Produces ed) (Fatal ed) t p

module _ (ed : Edition) where
  -- the rows of the table, at each place of the tree
  inside_rows : (q : List ℕ) (k : Kind) (x : Structure) (c : List ℕ) (b : ℕ) → May on_a_label ed q k → Lawful x → kind_of x ≡ some k
      → length c < length (sets k)
      → Judged {M = Message} (Produces ed) (Fatal ed) (set_at k (length c)) (refused_at k (length c)) (q ++ (identifier x ++ c)) b
  inside_rows q k x c b may h kind l =
      let i : Inside on_a_label ed (q ++ (identifier x ++ c)) (set_at k (length c)) (refused_at k (length c)) =
      of_structure q x k c may h kind l refl refl refl in
      record { outside = λ e. row_character _ _ i e refl; unlawful = λ e. row_value _ _ i e refl }

  first_row : (q : List ℕ) (a : ℕ) → Due on_a_label ed q → Fatal ed q a IDENTIFIER
  first_row q a d = row_identifier (first d) (first_not_nested d a) (first_not_repeated d a) (first_not_trailing d) refl

  second_row : (q : List ℕ) (a b : ℕ) → Due on_a_label ed q → leads (kinds_of ed) a ≡ true → opens_head ed a b ≡ false
      → names Kind.Donation a b ≡ false
      → Fatal ed (q ++ a ∷ []) b IDENTIFIER
  second_row q a b d l h n =
      row_identifier (second q a d refl) (second_not_nested d a b h) (second_not_repeated d a b n) (second_not_trailing d a l) refl

  -- a place where a structure of some kinds is due, groups among them
  due_anywhere : (q : List ℕ) (ks : List Kind) (miss : ℕ → ℕ → Tree Message) (go : Structure → Tree Message) → Due on_a_label ed q
      → ((k : Kind) → Among k ks → May on_a_label ed q k) → Among Kind.Groups ks
      → ((k : Kind) (x : Structure) → Lawful x → kind_of x ≡ some k → Among k ks → Stand ed (go x) (q ++ written x))
      → ((a b : ℕ) → leads ks a ≡ true → find ks a b ≡ none → Begins (Produces ed) (q ++ a ∷ [])
      → Sound (Produces ed) (Fatal ed) (miss a b) ((q ++ a ∷ []) ++ b ∷ []))
      → Stand ed (due ks IDENTIFIER miss go) q
  due_anywhere q ks miss go d may groups goes missed =
      due_stands (Produces ed) (Fatal ed) ks IDENTIFIER miss go q goes rows
      (due_begins (Produces ed) (Fatal ed) ks IDENTIFIER miss go q goes rows Kind.Groups groups) (λ a e. first_row q a d) missed
    where
      rows : (k : Kind) (x : Structure) (c : List ℕ) (b : ℕ) → Lawful x → kind_of x ≡ some k → Among k ks → length c < length (sets k)
          → Judged {M = Message} (Produces ed) (Fatal ed) (set_at k (length c)) (refused_at k (length c)) (q ++ (identifier x ++ c)) b
      rows k x c b h kind m l = inside_rows q k x c b (may k m) h kind l

  whole_stands : (m : Message) (s : List ℕ) → Produces ed m s → Stand ed (whole m) s
  whole_stands m s w = let v = begins_of (Produces ed) w in (v, (w, λ b. (s, b, refl, v, row_trailing (complete (m, w)) refl)))

-- what follows of compounds is the current edition's
abbrev Makes : Message → List ℕ → Type 0
Makes = Produces Edition.Current

abbrev Kills : List ℕ → ℕ → ℕ → Type 0
Kills = Fatal Edition.Current

-- two bytes that name nothing there: a nested 023, a second 001, or neither
within_sound : (q : List ℕ) (held a b : ℕ) → Within on_a_label Edition.Current q held → held ≤ 1 → leads (kinds_at (spot_of held)) a ≡ true
    → find (kinds_at (spot_of held)) a b ≡ none → Begins Makes (q ++ a ∷ [])
    → Sound Makes Kills (missed_at (spot_of held) a b) ((q ++ a ∷ []) ++ b ∷ [])
within_sound q held a b w few l u v = by held few w u
  where
    led : leads (kinds_of Edition.Current) a ≡ true
    led = sym (leads_after held a) ∙ l

    row : {n : ℕ} → Kills (q ++ a ∷ []) b n → Sound Makes Kills (fatal n) ((q ++ a ∷ []) ++ b ∷ [])
    row r = (q ++ a ∷ [], b, refl, v, r)

    equals : (x : Bool) → (eqb a 61 && x) ≡ true → (q ++ a ∷ [] ≡ q ++ 61 ∷ []) × (x ≡ true)
    equals x e = let (f, g) = both (eqb a 61) x e in (ap (λ (i : ℕ). q ++ i ∷ []) (eqb-true a 61 f), g)

    nested : {i : ℕ} → Within on_a_label Edition.Current q i → is_head a b ≡ true → Kills (q ++ a ∷ []) b NESTED
    nested w e = let (f, g) = equals (eqb b 43) e in row_nested (nested_at w f (eqb-true b 43 g)) refl

    else_row : {i : ℕ} → Within on_a_label Edition.Current q i → is_head a b ≡ false → names Kind.Donation a b ≡ false
        → Kills (q ++ a ∷ []) b IDENTIFIER
    else_row w e n = second_row Edition.Current q a b (in_compound _ w) led e n

    repeated : Within on_a_label Edition.Current q 1 → (s t : Bool) → is_head a b ≡ s → names Kind.Donation a b ≡ t
        → Sound Makes Kills (fatal (cond s NESTED (cond t REPEAT IDENTIFIER))) ((q ++ a ∷ []) ++ b ∷ [])
    repeated w true t e n = row (nested w e)
    repeated w false true e n = let (f, g) = equals (first_character b) n in row (row_repeat (repeated_at w f g) refl)
    repeated w false false e n = row (else_row w e n)

    open_still : Within on_a_label Edition.Current q 0 → find (kinds_of Edition.Current) a b ≡ none → (s : Bool) → is_head a b ≡ s
        → Sound Makes Kills (fatal (cond s NESTED IDENTIFIER)) ((q ++ a ∷ []) ++ b ∷ [])
    open_still w u true e = row (nested w e)
    open_still w u false e = row (else_row w e (no_donation Edition.Current a b u))

    by : (i : ℕ) → i ≤ 1 → Within on_a_label Edition.Current q i → find (kinds_at (spot_of i)) a b ≡ none
        → Sound Makes Kills (missed_at (spot_of i) a b) ((q ++ a ∷ []) ++ b ∷ [])
    by zero h w u = open_still w u (is_head a b) refl
    by (suc zero) h w u = repeated w (is_head a b) (names Kind.Donation a b) refl refl
    by (suc (suc i)) h w u = absurd (omega arith)

-- one structure more of a compound
within_stands : (n aa bbb : ℕ) (xs : List Structure) → aa ≤ 16 → bbb ≤ 999 → Each (LawfulIn Edition.Current) xs → donations xs ≤ 1
    → aa ≡ length xs + suc n
    → ((x : Structure) → LawfulIn Edition.Current x → donations (xs ++ x ∷ []) ≤ 1
    → Stand Edition.Current (several n bbb (xs ++ x ∷ [])) (header aa bbb ++ written_all (xs ++ x ∷ [])))
    → Stand Edition.Current (several (suc n) bbb xs) (header aa bbb ++ written_all xs)
within_stands n aa bbb xs hi small hs few e goes =
    due_anywhere Edition.Current q (kinds_at (spot_of held)) (missed_at (spot_of held)) (λ x. several n bbb (xs ++ x ∷ [])) (in_compound held here)
    (λ k m. because_within (after_current held m) held here (after_among held k few m)) (groups_after held)
    (λ k x h kind m. subst (λ (p : List ℕ). Stand Edition.Current (several n bbb (xs ++ x ∷ [])) p) (is x)
    (goes x (lawful_in h kind (after_current held m)) (still k x kind m)))
    (λ a b l u v. within_sound q held a b here few l u v)
  where
    held : ℕ
    held = donations xs

    q : List ℕ
    q = header aa bbb ++ written_all xs

    here : Within on_a_label Edition.Current q held
    here = within current aa bbb xs hi small hs refl few (omega arith) refl

    still : (k : Kind) (x : Structure) → kind_of x ≡ some k → Among k (kinds_at (spot_of held)) → donations (xs ++ x ∷ []) ≤ 1
    still k x kind m =
        let one : donation_in (kind_of x) ≡ donation_in (some k) = ap donation_in kind in
        omega (arith, after_among held k few m, donations_append xs (x ∷ []))

    is : (x : Structure) → header aa bbb ++ written_all (xs ++ x ∷ []) ≡ q ++ written x
    is x = ap (header aa bbb ++◌) (written_snoc xs x) ∙ sym (append_assoc (header aa bbb) (written_all xs) (written x))

several_stands : (n aa bbb : ℕ) (xs : List Structure) → 1 ≤ aa → aa ≤ 16 → bbb ≤ 999 → Each (LawfulIn Edition.Current) xs → donations xs ≤ 1
    → aa ≡ length xs + n → Stand Edition.Current (several n bbb xs) (header aa bbb ++ written_all xs)
several_stands zero aa bbb xs lo hi small hs few e =
    let is : aa ≡ length xs = omega arith in
    whole_stands Edition.Current (message_of Form.Compound bbb xs) (header aa bbb ++ written_all xs)
    (compound current bbb xs (omega arith) (omega arith) small hs few refl (ap (λ (i : ℕ). header i bbb ++ written_all xs) is))
several_stands (suc n) aa bbb xs lo hi small hs few e =
    within_stands n aa bbb xs hi small hs few e
    (λ x h still.
    let l : aa ≡ length (xs ++ x ∷ []) + n = omega (arith, length-append xs (x ∷ [])) in
    several_stands n aa bbb (xs ++ x ∷ []) lo hi small (each_append (LawfulIn Edition.Current) xs (x ∷ []) hs (h, tt)) still l)

pub head_tabled : Tabled (shape_positions Shape.Head) (replicate 5 digit) (replicate 5 VALUE)
head_tabled = record { by_sets = refl; by_numbers = refl }

head_stands : Stand Edition.Current (content (shape_positions Shape.Head) (byte "+" ∷ []) headed) (byte "=" ∷ byte "+" ∷ [])
head_stands =
    content_sound Makes Kills (shape_positions Shape.Head) (byte "+" ∷ []) (byte "=" ∷ byte "+" ∷ []) headed (shapes_open Shape.Head) ends rows
  where
    ends : (c : List ℕ) → Fits (shape_positions Shape.Head) (byte "+" ∷ []) c
        → Stand Edition.Current (headed (byte "+" ∷ c)) (byte "=" ∷ byte "+" ∷ c)
    ends c fs =
        let (lo, hi, small, is) = head_in (shift_in (byte "+" ∷ []) head_positions {p = []} fs) in
        subst (λ (p : List ℕ). Stand Edition.Current (headed (byte "+" ∷ c)) p)
        (append-nil (header (aa_of c) (bbb_of c)) ∙ ap (λ (l : List ℕ). byte "=" ∷ byte "+" ∷ l) (sym is))
        (several_stands (aa_of c) (aa_of c) (bbb_of c) [] lo hi small tt (omega arith) (omega arith))

    rows : (ρs : List Position) (π : Position) (σs : List Position) (c : List ℕ) (b : ℕ) → shape_positions Shape.Head ≡ ρs ++ π ∷ σs
        → Fits ρs (byte "+" ∷ []) c → Rows {M = Message} Makes Kills π (byte "+" ∷ c) (byte "=" ∷ byte "+" ∷ c) b
    rows ρs π σs c b is fs =
        let (set, number, long) = table_at ρs π σs head_tabled is in
        let i : Inside on_a_label Edition.Current (byte "=" ∷ byte "+" ∷ c) (get_or (replicate 5 digit) (length c) (λ b. false))
        (get_or (replicate 5 VALUE) (length c) VALUE) = of_head current c (rw (fits_length fs) long) refl refl refl in
        let here : π.set b ≡ get_or (replicate 5 digit) (length c) (λ b. false) b = rw (fits_length fs) (ap (λ (f : ℕ → Bool). f b) set) in
        let refusal : π.refusal ≡ get_or (replicate 5 VALUE) (length c) VALUE = rw (fits_length fs) number in
        record { outside = λ o. row_character _ _ i (sym here ∙ o) refl; unlawful = λ o u. row_value _ _ i (sym here ∙ o) refusal }

-- after a first structure, alone or with its second
lone_stands : (ed : Edition) (x : Structure) → LawfulIn ed x → Stand ed (lone x) (written x)
lone_stands ed x h = (v, (w, λ a. second_stands.1.1 a))
  where
    w : Produces ed (message_of Form.Single 0 (x ∷ [])) (written x)
    w = single x h refl refl

    v : Begins (Produces ed) (written x)
    v = begins_of (Produces ed) w

    pairs : (l : Kind) → Among l (seconds (kind_of x)) → Pairs h.kind l
    pairs l m = among_pairs h.kind l (rw h.is at m)

    hopes : (l : Kind) → Among l (seconds (kind_of x)) → Hoped on_a_label ed (written x) l
    hopes l m = hoped x h (pairs l m) refl

    missed : (a b : ℕ) → leads (seconds (kind_of x)) a ≡ true → find (seconds (kind_of x)) a b ≡ none
        → Begins (Produces ed) (written x ++ a ∷ []) → Sound (Produces ed) (Fatal ed) (fatal TRAILING) ((written x ++ a ∷ []) ++ b ∷ [])
    missed a b l e u =
        let (k, m, is) = leads_among a (seconds (kind_of x)) l in
        let (y, g, ky, lead_is) = some_structure k in
        let broken : written x ++ a ∷ [] ≡ written x ++ take 1 (identifier y) = ap (written x ++◌) (ap (◌∷ []) is ∙ sym lead_is) in
        (written x ++ a ∷ [], b, refl, u, row_trailing (breaks (written x) k y (hopes k m) g ky broken) refl)

    second_stands : Stand ed (hoping x) (written x)
    second_stands =
        due_stands (Produces ed) (Fatal ed) (seconds (kind_of x)) TRAILING (λ a b. fatal TRAILING) (paired x) (written x)
        (λ k y g ky m. whole_stands ed _ _ (pair x y h (lawful_in g ky (pairs_in ed (pairs k m)).1) (pairs k m) refl refl))
        (λ k y c b g ky m l. inside_rows ed (written x) k y c b (because_hoped (hopes k m)) g ky l)
        v (λ a e. row_trailing (complete (_, w)) refl) missed

first_sound : (ed : Edition) (a b : ℕ) → leads (kinds_of ed) a ≡ true → find (kinds_of ed) a b ≡ none → Begins (Produces ed) (a ∷ [])
    → Sound (Produces ed) (Fatal ed) (missed_first ed a b) (a ∷ b ∷ [])
first_sound ed a b l u v = miss (opens_head ed a b) refl
  where
    headed_sound : {ed : Edition} → HasCompounds ed → is_head a b ≡ true
        → Sound (Produces ed) (Fatal ed) (content (shape_positions Shape.Head) (b ∷ []) headed) (a ∷ b ∷ [])
    headed_sound current e = let (f, g) = both _ _ e in rw (eqb-true a 61 f, eqb-true b 43 g) head_stands.1

    miss : (t : Bool) → opens_head ed a b ≡ t
        → Sound (Produces ed) (Fatal ed) (cond t (content (shape_positions Shape.Head) (b ∷ []) headed) (fatal IDENTIFIER)) (a ∷ b ∷ [])
    miss true e = let (c, h) = head_opened ed a b e in headed_sound c h
    miss false e = (a ∷ [], b, refl, v, second_row ed [] a b (at_start refl) l e (no_donation ed a b u))

pub message_stands : (ed : Edition) → Stand ed (message ed) []
unfolding message
message_stands ed =
    due_anywhere ed [] (kinds_of ed) (missed_first ed) lone (at_start refl) (λ k m. because_first m refl) (pairs_in ed donation_groups).1
    (λ k x h kind m. lone_stands ed x (lawful_in h kind m)) (first_sound ed)
