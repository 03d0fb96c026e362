-- The grammar once more, byte by byte: the tree of all messages, and that every message of the grammar is a word of it.
use Rattle.std.specs.Prelude.{ℕ, zero, suc, ◌+◌, ◌≤◌, ◌≡◌, refl, Bool, true, false, cond, List, [], ◌∷◌, ◌++◌, length, drop}
use Rattle.std.proofs.Common.{sym, ap, ap₂, ◌∙◌, true≢false, append_assoc, append-nil, arith}
use mathlib.Core.List.Memᴰ
use Rattle.std.proofs.Math.Option.{Option, some, none}
use Rattle.demand.specs.Each.{Each}
use Rattle.demand.specs.Numbers.{IDENTIFIER, TRAILING}
use Rattle.demand.specs.Laws.Tree.{Tree, fatal, final, at, Ends}
use Rattle.demand.specs.Laws.Content.{content, content_at, shift_out}
use Rattle.text.specs.Bytes.{byte}
use Rattle.label.specs.declared.Structure.{Structure}
use Rattle.label.specs.declared.Kind.{Kind}
use Rattle.label.specs.declared.Edition.{Edition}
use Rattle.label.specs.declared.Form.{Form}
use Rattle.label.specs.declared.Message.{Message}
use Rattle.structure.specs.Structures.{kind_of, kinds_of, Among, Lawful, LawfulIn, written}
use Rattle.structure.specs.Laws.Kinds.{shape_positions, structure_out, spelled}
use Rattle.structure.specs.declared.Shape.{Shape}
use Rattle.structure.specs.Laws.Due.{due, due_at}
use Rattle.structure.specs.Laws.Head.{aa_of, bbb_of, head_out, head_back}
use Rattle.structure.specs.declared.Spot.{Spot}
use Rattle.structure.specs.Laws.Spot.{is_head, kinds_at, miss_of}
use Rattle.message.specs.Grammar.{message_of, Pairs, donation_groups, product_expiry, header, donation_in, donations, written_all}
use Rattle.message.specs.Grammar.{HasCompounds, current, Produces, single, pair, compound}
use Rattle.message.specs.Laws.Donations.{spot_of, donations_append, among_after}

-- nothing goes on after a whole pair or compound
abbrev pub whole : Message → Tree Message
whole m = final m (λ b. fatal TRAILING)

-- two bytes that name no structure: = and + are a nested 023, and = may begin a second 001
abbrev pub missed_at : Spot → ℕ → ℕ → Tree Message
missed_at spot a b = fatal (miss_of spot a b)

-- a place for one structure within a compound that has so many 001s
abbrev pub due_within : ℕ → (Structure → Tree Message) → Tree Message
due_within held go = due (kinds_at (spot_of held)) IDENTIFIER (missed_at (spot_of held)) go

-- n structures more after those of a compound so far
abbrev pub several : ℕ → ℕ → List Structure → Tree Message
several zero bbb xs = whole (message_of Form.Compound bbb xs)
several (suc n) bbb xs = due_within (donations xs) (λ x. several n bbb (xs ++ x ∷ []))

-- the structures that an 023 calls for; the identifier's second byte stands before its content
abbrev pub headed : List ℕ → Tree Message
headed c = several (aa_of (drop 1 c)) (bbb_of (drop 1 c)) []

-- = and + begin an 023 in the current edition alone
abbrev pub opens_head : Edition → ℕ → ℕ → Bool
opens_head Edition.Current a b = is_head a b
opens_head Edition.Of2001 a b = false

pub head_in_current : {ed : Edition} (a b : ℕ) → HasCompounds ed → opens_head ed a b ≡ is_head a b
head_in_current a b current = refl

pub head_opened : (ed : Edition) (a b : ℕ) → opens_head ed a b ≡ true → HasCompounds ed × (is_head a b ≡ true)
head_opened Edition.Current a b e = (current, e)
head_opened Edition.Of2001 a b e = absurd (true≢false (sym e))

abbrev pub missed_first : Edition → ℕ → ℕ → Tree Message
missed_first ed a b = cond (opens_head ed a b) (content (shape_positions Shape.Head) (b ∷ []) headed) (fatal IDENTIFIER)

-- the kinds of a hoped-for second of a pair
abbrev pub seconds : Option Kind → List Kind
seconds none = []
seconds (some Kind.Donation) = Kind.Groups ∷ []
seconds (some Kind.Groups) = []
seconds (some Kind.Product) = Kind.ExpiryTime ∷ []
seconds (some Kind.Expiry) = []
seconds (some Kind.ExpiryTime) = []
seconds (some Kind.Collection) = []
seconds (some Kind.CollectionTime) = []
seconds (some Kind.Production) = []
seconds (some Kind.ProductionTime) = []
seconds (some Kind.Testing) = []
seconds (some Kind.Antigens) = []
seconds (some Kind.Lot) = []
seconds (some Kind.Flexible) = []
seconds (some Kind.Antigens2001) = []

abbrev pub paired : Structure → Structure → Tree Message
paired x y = whole (message_of Form.Pair 0 (x ∷ y ∷ []))

abbrev pub hoping : Structure → Tree Message
hoping x = due (seconds (kind_of x)) TRAILING (λ a b. fatal TRAILING) (paired x)

-- after a first structure a message may end, or a pair go on
abbrev pub lone : Structure → Tree Message
lone x = final (message_of Form.Single 0 (x ∷ [])) (λ a. at (hoping x) (a ∷ []))

unfoldable pub message : Edition → Tree Message
message ed = due (kinds_of ed) IDENTIFIER (missed_first ed) lone

pub pairs_among : {k l : Kind} → Pairs k l → Among l (seconds (some k))
pairs_among donation_groups = Memᴰ.head refl
pairs_among product_expiry = Memᴰ.head refl

pub among_pairs : (k l : Kind) → Among l (seconds (some k)) → Pairs k l
among_pairs Kind.Donation l m = rw (Memᴰ.eq_of_singleton m) donation_groups
among_pairs Kind.Groups l m = absurd (Memᴰ.not-nil m)
among_pairs Kind.Product l m = rw (Memᴰ.eq_of_singleton m) product_expiry
among_pairs Kind.Expiry l m = absurd (Memᴰ.not-nil m)
among_pairs Kind.ExpiryTime l m = absurd (Memᴰ.not-nil m)
among_pairs Kind.Collection l m = absurd (Memᴰ.not-nil m)
among_pairs Kind.CollectionTime l m = absurd (Memᴰ.not-nil m)
among_pairs Kind.Production l m = absurd (Memᴰ.not-nil m)
among_pairs Kind.ProductionTime l m = absurd (Memᴰ.not-nil m)
among_pairs Kind.Testing l m = absurd (Memᴰ.not-nil m)
among_pairs Kind.Antigens l m = absurd (Memᴰ.not-nil m)
among_pairs Kind.Lot l m = absurd (Memᴰ.not-nil m)
among_pairs Kind.Flexible l m = absurd (Memᴰ.not-nil m)
among_pairs Kind.Antigens2001 l m = absurd (Memᴰ.not-nil m)

-- a lone structure leads to the node after it
pub lone_node : (ed : Edition) (x : Structure) (s : List ℕ) → LawfulIn ed x → at (message ed) (written x ++ s) ≡ at (lone x) s
unfolding message
lone_node ed x s h = due_at (kinds_of ed) IDENTIFIER (missed_first ed) lone x s h.lawful h.is h.among

pub single_node : (ed : Edition) (x : Structure) → LawfulIn ed x → at (message ed) (written x) ≡ lone x
single_node ed x h = ap (at (message ed)) (sym (append-nil (written x))) ∙ lone_node ed x [] h

-- a second structure goes on from there as the tree of the hoped-for one does
pub hoping_at : (x y : Structure) (s : List ℕ) → Lawful y → at (lone x) (written y ++ s) ≡ at (hoping x) (written y ++ s)
hoping_at x y s g = let (k, b, r) = structure_out y g in rw (spelled r)

pub pair_node : (ed : Edition) (x y : Structure) (h : LawfulIn ed x) (g : LawfulIn ed y) → Pairs h.kind g.kind
    → at (message ed) (written x ++ written y) ≡ paired x y
pair_node ed x y h g p =
    let m : Among g.kind (seconds (kind_of x)) = rw h.is (pairs_among p) in
    lone_node ed x (written y) h
    ∙ ap (at (lone x)) (sym (append-nil (written y)))
    ∙ hoping_at x y [] g.lawful
    ∙ due_at (seconds (kind_of x)) TRAILING (λ a b. fatal TRAILING) (paired x) y [] g.lawful g.is m

several_at : (bbb : ℕ) (xs ys : List Structure) (m n : ℕ) → Each (LawfulIn Edition.Current) xs → donations ys + donations xs ≤ 1
    → m ≡ length xs + n → at (several m bbb ys) (written_all xs) ≡ several n bbb (ys ++ xs)
several_at bbb [] ys m n hs d e = let is : m ≡ n = omega arith in ap₂ (λ (i : ℕ) (l : List Structure). several i bbb l) is (sym (append-nil ys))
several_at bbb (x ∷ xs) ys m n (h, hs) d e =
    let k = h.kind in
    let is : m ≡ suc (length xs + n) = omega arith in
    let one : donation_in (kind_of x) ≡ donation_in (some k) = ap donation_in h.is in
    let few : donations (ys ++ x ∷ []) + donations xs ≤ 1 = omega (arith, donations_append ys (x ∷ [])) in
    let held = donations ys in
    ap (λ (i : ℕ). at (several i bbb ys) (written x ++ written_all xs)) is
    ∙ due_at (kinds_at (spot_of held)) IDENTIFIER (missed_at (spot_of held)) (λ x. several (length xs + n) bbb (ys ++ x ∷ [])) x (written_all xs)
    h.lawful h.is (among_after held k h.among (omega arith))
    ∙ several_at bbb xs (ys ++ x ∷ []) (length xs + n) n hs few refl
    ∙ ap (several n bbb) (append_assoc ys (x ∷ []) xs)

-- the head and some of its structures lead to the place of the next
pub compound_node : {ed : Edition} → HasCompounds ed → (aa bbb : ℕ) (xs : List Structure) (n : ℕ) → 1 ≤ aa → aa ≤ 16 → bbb ≤ 999
    → Each (LawfulIn ed) xs → donations xs ≤ 1 → aa ≡ length xs + n → at (message ed) (header aa bbb ++ written_all xs) ≡ several n bbb xs
unfolding message
compound_node current aa bbb xs n lo hi small hs d e =
    let (a, b) = head_back aa bbb hi small in
    content_at headed (written_all xs) (shift_out (byte "+" ∷ []) (head_out aa bbb lo hi))
    ∙ ap₂ (λ (i j : ℕ). at (several i j []) (written_all xs)) a b
    ∙ several_at bbb xs [] aa n hs (omega arith) e

pub message_out : (ed : Edition) (m : Message) (s : List ℕ) → Produces ed m s → Ends (at (message ed) s) m
message_out ed m s (single x h is e) = rw (e, single_node ed x h) (sym is)
message_out ed m s (pair x y h g p is e) = rw (e, pair_node ed x y h g p) (sym is)
message_out ed m s (compound c bbb xs lo hi small hs d is e) = rw (e, compound_node c (length xs) bbb xs 0 lo hi small hs d (omega arith)) (sym is)
