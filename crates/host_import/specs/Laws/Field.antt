-- What reading a field finds, right for whatever tree follows it.
use Rattle.std.specs.Prelude.{ℕ, suc, ◌+◌, ◌^◌, ◌/◌, ◌%◌, ◌≤◌, ◌<◌, ◌≡◌, refl, Bool, true, false, cond, not, ◌&&◌, List, [], ◌∷◌, ◌++◌, map, ◌⊎◌, eqb, length}
use Rattle.std.specs.Prelude.{get_or, take, drop, Result, Ok, Err}
use Rattle.std.proofs.Common.{sym, ap, ap₂, ◌∙◌, subst, inl, inr, not-suc-le-zero, add-one, arith, length-drop, drop-drop, drop-cons, eq-eqb, ne_eqb, eqb-true}
use Rattle.std.proofs.Math.Option.{Option, some, none}
use Rattle.demand.specs.Demand.{Answer, refused}
use Rattle.demand.specs.Numbers.{SHORT, CHARACTER, VALUE, LENGTH}
use Rattle.demand.specs.declared.Refusal.{Refusal}
use Rattle.demand.specs.declared.Stop.{Stop}
use Rattle.demand.specs.Numbered as refusal
use Rattle.demand.specs.Stops as stops
use Rattle.demand.specs.Laws.Tree.{Tree, fatal, walk}
use Rattle.demand.specs.Laws.Content.{Position, content, free, shift, content_shift}
use Rattle.text.specs.Bytes.{first_character}
use Rattle.label.specs.declared.Edition.{Edition}
use Rattle.label.specs.declared.Kind.{Kind}
use Rattle.label.specs.declared.Message.{Message}
use Rattle.label.specs.declared.Structure.{Structure}
use Rattle.structure.specs.declared.Spot.{Spot}
use Rattle.structure.specs.Structures.{number_of, written, numbered, every_kind}
use Rattle.structure.specs.Laws.Due.{keep, of_edition}
use Rattle.structure.specs.Laws.Kinds.{positions, make}
use Rattle.structure.specs.Laws.Numbered.{donation_kind}
use Rattle.structure.specs.Laws.Spot.{kinds_at}
use Rattle.structure_reader.specs.declared.Found.{Found}
use Rattle.structure_reader.specs.Laws.Identify.{named_of}
use Rattle.structure_reader.specs.Laws.Found.{FindsContent}
use Rattle.structure_reader.specs.Laws.Found as found
use Rattle.message_reader.specs.declared.Taken.{Taken}
use Rattle.message_reader.specs.Laws.Loop.{outcome}
use Rattle.host_record.specs.Laws.Fields.{exactly, lengths, data_positions, skip, field_positions, make_field}
use Rattle.host_record.specs.Laws.Tree.{entered, slot, miss_tag, missed}

-- the numbers of the kinds that may stand there
abbrev pub fits_spot : Spot → ℕ → Bool
fits_spot Spot.First t = of_edition Edition.Current t
fits_spot Spot.First2001 t = of_edition Edition.Of2001 t
fits_spot Spot.Within t = of_edition Edition.Current t
fits_spot Spot.Holding t = of_edition Edition.Current t && not (eqb t 1)
fits_spot Spot.AfterDonation t = eqb t 2
fits_spot Spot.AfterProduct t = eqb t 5

-- of the kinds whose numbers pass a test, the one that has a number
numbered_kept : (u : ℕ → Bool) (ks : List Kind) (t : ℕ) → numbered (keep u ks) t ≡ cond (u t) (numbered ks t) none
numbered_kept u [] t = by (u t)
  where
    by : (x : Bool) → ◌≡◌ {A = Option Kind} none (cond x none none)
    by true = refl
    by false = refl
numbered_kept u (k ∷ ks) t = by (u (number_of k)) (eqb t (number_of k)) refl refl (numbered_kept u ks t)
  where
    by : (x y : Bool) → u (number_of k) ≡ x → eqb t (number_of k) ≡ y → numbered (keep u ks) t ≡ cond (u t) (numbered ks t) none
        → numbered (cond x (k ∷ keep u ks) (keep u ks)) t ≡ cond (u t) (cond y (some k) (numbered ks t)) none
    by true true e f h = let is : u t ≡ true = ap u (eqb-true t (number_of k) f) ∙ e in rw (f, is)
    by true false e f h = rw f h
    by false true e f h = let is : u t ≡ false = ap u (eqb-true t (number_of k) f) ∙ e in h ∙ rw is
    by false false e f h = h

-- those that may stand there are those of all that pass the test of the spot
pub numbered_at : (spot : Spot) (t : ℕ) → numbered (kinds_at spot) t ≡ cond (fits_spot spot t) (numbered every_kind t) none
numbered_at Spot.First t = numbered_kept (fits_spot Spot.First) every_kind t
numbered_at Spot.First2001 t = numbered_kept (fits_spot Spot.First2001) every_kind t
numbered_at Spot.Within t = numbered_kept (fits_spot Spot.Within) every_kind t
numbered_at Spot.Holding t = numbered_kept (fits_spot Spot.Holding) every_kind t
numbered_at Spot.AfterDonation t = numbered_kept (fits_spot Spot.AfterDonation) every_kind t
numbered_at Spot.AfterProduct t = numbered_kept (fits_spot Spot.AfterProduct) every_kind t

pub tag_fits : (spot : Spot) (t : ℕ) → fits_spot spot t ≡ true → numbered every_kind t ≡ numbered (kinds_at spot) t
tag_fits spot t e = sym (numbered_at spot t ∙ ap (λ (x : Bool). cond x (numbered every_kind t) none) e)

pub tag_unfit : (spot : Spot) (t : ℕ) → fits_spot spot t ≡ false → numbered (kinds_at spot) t ≡ none
tag_unfit spot t e = numbered_at spot t ∙ ap (λ (x : Bool). cond x (numbered every_kind t) none) e

-- a known tag, and one of no kind
pub tag_known : (t n : ℕ) → t ≡ n → named_of (numbered every_kind n) ≡ named_of (numbered every_kind t)
tag_known t n e = ap (λ (m : ℕ). named_of (numbered every_kind m)) (sym e)

pub tag_none : (t : ℕ) → (t ≡ 1 → ⊥) → (t ≡ 2 → ⊥) → (t ≡ 3 → ⊥) → (t ≡ 4 → ⊥) → (t ≡ 5 → ⊥) → (t ≡ 6 → ⊥)
    → (t ≡ 7 → ⊥) → (t ≡ 8 → ⊥) → (t ≡ 9 → ⊥) → (t ≡ 10 → ⊥) → (t ≡ 12 → ⊥) → (t ≡ 18 → ⊥)
    → (t ≡ 31 → ⊥) → (t ≡ 200 → ⊥) → numbered every_kind t ≡ none
tag_none t a b c d e f g h i j k l m n =
    rw (
      ne_eqb t 1 a,
      ne_eqb t 2 b,
      ne_eqb t 3 c,
      ne_eqb t 4 d,
      ne_eqb t 5 e,
      ne_eqb t 6 f,
      ne_eqb t 7 g,
      ne_eqb t 8 h,
      ne_eqb t 9 i,
      ne_eqb t 10 j,
      ne_eqb t 12 k,
      ne_eqb t 18 l,
      ne_eqb t 31 m,
      ne_eqb t 200 n,
    )

-- how many bytes of data a kind has
pub donation_size : (k : Kind) → eqb (number_of k) 1 ≡ true → (length (data_positions k) ≡ length (positions k) + 1) × (length (positions k) ≡ 14)
donation_size k e =
    let is = donation_kind k e in
    (ap (λ (l : Kind). length (data_positions l)) is ∙ sym (ap (λ (l : Kind). length (positions l) + 1) is), ap (λ (l : Kind). length (positions l)) is)

pub other_size : (k : Kind) → eqb (number_of k) 1 ≡ false → length (data_positions k) ≡ length (positions k)
other_size k e = ap (λ (t : Bool). length (cond t (free first_character VALUE ∷ positions k) (positions k))) e

-- how far it reaches: further than the structure in the label
abbrev pub Reaches : Result Taken Stop → List ℕ → Type 0
Reaches (Ok f) s = (f.long < f.past) × (f.past ≤ length s) × (f.long ≡ length (written f.structure))
Reaches (Err Stop.Short) s = Unit
Reaches (Err (Stop.Refused r i)) s = i < length s

-- what code finds where the tree t is to be walked from `past` bytes of s on
pub record Finds (t : (Structure → Tree Message) → Tree Message) (past : ℕ) (s : List ℕ) (f : Result Taken Stop) : Type 0 where
  pub follows : (go : Structure → Tree Message) (j : ℕ) → walk (t go) (drop past s) (past + j) ≡ outcome f go s j
  pub reaches : Reaches f s

-- of a content in front of which skip + 1 bytes stand and then the identifier's second or what stands for it
abbrev pub FindsBehind : Kind → ℕ → List ℕ → Result Taken Stop → Type 0
FindsBehind k skip s f = Finds (λ go. content (positions k) (take 1 (drop (skip + 1) s)) (λ c. go (make k c))) (skip + 2) s f

-- of the data behind tag and length
abbrev pub FindsData : Kind → List ℕ → Result Taken Stop → Type 0
FindsData k s f = Finds (λ go. content (map (shift (skip (number_of k))) (data_positions k)) (take 2 (drop 1 s)) (λ c. go (make_field k c))) 3 s f

-- of what stands past a tag
abbrev pub FindsPast : Kind → List ℕ → Result Taken Stop → Type 0
FindsPast k s f = Finds (λ go. content (field_positions k) [] (λ c. go (make_field k c))) 1 s f

-- of a field of the kinds that may stand there
abbrev pub FindsField : Spot → List ℕ → Result Taken Stop → Type 0
FindsField spot s f = Finds (λ go. slot (kinds_at spot) (missed spot) go) 0 s f

-- the answer of a part of n bytes at the place j that stop before they are whole
abbrev pub told : Stop → ℕ → ℕ → Answer Message
told Stop.Short n j = refused SHORT (n + j)
told (Stop.Refused r p) n j = refused (refusal.number_of r) (p + j)

-- what a length of n bytes is behind a tag
abbrev pub Sizes : ℕ → List ℕ → Result (Unit {0}) Stop → Type 0
Sizes n s (Ok _) = (2 < length s) × (get_or s 1 0 ≡ n / 256) × (get_or s 2 0 ≡ n % 256)
Sizes n s (Err Stop.Short) = (length s ≡ 1) ⊎ ((length s ≡ 2) × (get_or s 1 0 ≡ n / 256))
Sizes n s (Err (Stop.Refused r p)) =
    (refusal.number_of r ≡ LENGTH)
    × (((1 < length s) × (get_or s 1 0 ≡ n / 256 → ⊥) × (p ≡ 1))
    ⊎ ((2 < length s) × (get_or s 1 0 ≡ n / 256) × (get_or s 2 0 ≡ n % 256 → ⊥) × (p ≡ 2)))

-- a tag and its length, before whatever positions
module _ (n : ℕ) (ρs : List Position) (k : List ℕ → Tree Message) (j : ℕ) where
  abbrev past : Tree Message
  past = content (lengths n ++ ρs) [] k

  -- the first length byte, and the second behind a right first
  first_byte : (a : ℕ) (s : List ℕ) (t : Bool) → eqb a (n / 256) ≡ t
      → walk past (a ∷ s) (1 + j) ≡ walk (cond t (content (exactly (n % 256) ∷ ρs) (a ∷ []) k) (fatal LENGTH)) s (suc (1 + j))
  first_byte a s t e = ap (λ (u : Bool). walk (cond u (content (exactly (n % 256) ∷ ρs) (a ∷ []) k) (fatal LENGTH)) s (suc (1 + j))) e

  second_byte : (a b : ℕ) (s : List ℕ) (t : Bool) → eqb b (n % 256) ≡ t
      → walk (content (exactly (n % 256) ∷ ρs) (a ∷ []) k) (b ∷ s) (suc (1 + j))
      ≡ walk (cond t (content ρs (a ∷ b ∷ []) k) (fatal LENGTH)) s (suc (suc (1 + j)))
  second_byte a b s t e = ap (λ (u : Bool). walk (cond u (content ρs (a ∷ b ∷ []) k) (fatal LENGTH)) s (suc (suc (1 + j)))) e

  pub sized_right : (s : List ℕ) → Sizes n s (Ok tt) → walk past (drop 1 s) (1 + j) ≡ walk (content ρs (take 2 (drop 1 s)) k) (drop 3 s) (3 + j)
  sized_right [] (l, e, f) = absurd (not-suc-le-zero l)
  sized_right (t ∷ []) (l, e, f) = absurd (omega arith)
  sized_right (t ∷ a ∷ []) (l, e, f) = absurd (omega arith)
  sized_right (t ∷ a ∷ b ∷ s) (l, e, f) =
      first_byte a (b ∷ s) true (eq-eqb a (n / 256) e)
      ∙ second_byte a b s true (eq-eqb b (n % 256) f)
      ∙ ap (walk (content ρs (a ∷ b ∷ []) k) s) (omega arith)

  sized_short : (s : List ℕ) → Sizes n s (Err Stop.Short) → walk past (drop 1 s) (1 + j) ≡ refused SHORT (length s + j)
  sized_short [] (inl l) = absurd (omega arith)
  sized_short [] (inr (l, e)) = absurd (omega arith)
  sized_short (t ∷ []) h = ap (refused SHORT) (omega arith)
  sized_short (t ∷ a ∷ []) (inl l) = absurd (omega arith)
  sized_short (t ∷ a ∷ []) (inr (l, e)) = first_byte a [] true (eq-eqb a (n / 256) e) ∙ ap (refused SHORT) (omega arith)
  sized_short (t ∷ a ∷ b ∷ s) (inl l) = absurd (omega arith)
  sized_short (t ∷ a ∷ b ∷ s) (inr (l, e)) = absurd (omega arith)

  wrong : (s : List ℕ) {p : ℕ} → (((1 < length s) × (get_or s 1 0 ≡ n / 256 → ⊥) × (p ≡ 1))
      ⊎ ((2 < length s) × (get_or s 1 0 ≡ n / 256) × (get_or s 2 0 ≡ n % 256 → ⊥) × (p ≡ 2)))
      → walk past (drop 1 s) (1 + j) ≡ refused LENGTH (p + j)
  wrong [] (inl (l, e, f)) = absurd (omega arith)
  wrong [] (inr (l, e, f, g)) = absurd (omega arith)
  wrong (t ∷ []) (inl (l, e, f)) = absurd (omega arith)
  wrong (t ∷ []) (inr (l, e, f, g)) = absurd (omega arith)
  wrong (t ∷ a ∷ []) (inl (l, e, f)) = first_byte a [] false (ne_eqb a (n / 256) e) ∙ ap (refused LENGTH) (omega arith)
  wrong (t ∷ a ∷ []) (inr (l, e, f, g)) = absurd (omega arith)
  wrong (t ∷ a ∷ b ∷ s) (inl (l, e, f)) = first_byte a (b ∷ s) false (ne_eqb a (n / 256) e) ∙ ap (refused LENGTH) (omega arith)
  wrong (t ∷ a ∷ b ∷ s) (inr (l, e, f, g)) =
      first_byte a (b ∷ s) true (eq-eqb a (n / 256) e) ∙ second_byte a b s false (ne_eqb b (n % 256) f) ∙ ap (refused LENGTH) (omega arith)

  -- a length that stops the reading is what is told
  pub sized_stopped : (stop : Stop) (s : List ℕ) → Sizes n s (Err stop) → walk past (drop 1 s) (1 + j) ≡ told stop (length s) j
  sized_stopped Stop.Short s h = sized_short s h
  sized_stopped (Stop.Refused r p) s h = wrong s h.1 ∙ ap (λ (m : ℕ). refused m (p + j)) (sym h.0)

-- where it stands within
wrong_within : (n : ℕ) (s : List ℕ) (r : Refusal) (p : ℕ) → Sizes n s (Err (Stop.Refused r p)) → p < length s
wrong_within n s r p (i, inl (l, e, f)) = omega arith
wrong_within n s r p (i, inr (l, e, f, g)) = omega arith

-- a content behind more bytes than an identifier has
module _ {k : Kind} (s : List ℕ) (skip : ℕ) (l : skip < length s) {f : Result Found Stop} (h : FindsContent k (drop (skip + 1) s) f) where
  -- the byte in front of the content's stands for the identifier's first
  whole : get_or s skip 0 ∷ drop (skip + 1) s ≡ drop skip s
  whole = rw (add-one skip) (sym (drop-cons s skip 0 l))

  behind : (go : Structure → Tree Message) (j : ℕ) → walk (content (positions k) (take 1 (drop (skip + 1) s)) (λ c. go (make k c))) (drop (skip + 2) s)
      ((skip + 2) + j) ≡ found.outcome f go (drop skip s) (skip + j)
  behind go j =
      let two : skip + 2 ≡ (skip + 1) + 1 = omega arith in
      let one : drop (skip + 2) s ≡ drop 1 (drop (skip + 1) s) = ap (λ (m : ℕ). drop m s) two ∙ sym (drop-drop 1 (skip + 1) s) in
      let place : (skip + 2) + j ≡ 2 + (skip + j) = omega arith in
      ap₂ (λ (r : List ℕ) (m : ℕ). walk (content (positions k) (take 1 (drop (skip + 1) s)) (λ c. go (make k c))) r m) one place
      ∙ h.follows (get_or s skip 0) go (skip + j)
      ∙ ap (λ (r : List ℕ). found.outcome f go r (skip + j)) whole

  reach : found.Reaches f (drop skip s)
  reach = subst (found.Reaches f) whole (h.reaches (get_or s skip 0))

  pub behind_whole : (x : Found) → f ≡ Ok x → 0 < skip
      → FindsBehind k skip s (Ok record { structure = x.structure; long = x.long; past = x.long + skip })
  behind_whole x e some-skip =
      let (past-none, long, is) = subst (λ (f : Result Found Stop). found.Reaches f (drop skip s)) e reach in
      let far : skip + x.long ≡ x.long + skip = omega arith in
      record {
        follows = λ go j. behind go j
            ∙ ap (λ (f : Result Found Stop). found.outcome f go (drop skip s) (skip + j)) e
            ∙ ap₂ (λ (r : List ℕ) (m : ℕ). walk (go x.structure) r m) (drop-drop x.long skip s ∙ ap (λ (m : ℕ). drop m s) far) (omega arith);
        reaches = (omega arith, omega (arith, simp length-drop at long), is);
      }

  pub behind_placed : (stop : Stop) → f ≡ Err stop → length s < 2 ^ 64 → stops.PlacedBehind stop skip
  behind_placed Stop.Short e g = tt
  behind_placed (Stop.Refused r i) e g =
      let within = subst (λ (f : Result Found Stop). found.Reaches f (drop skip s)) e reach in
      omega (arith, simp length-drop at within)

  pub behind_stopped : (stop : Stop) → f ≡ Err stop → FindsBehind k skip s (Err (stops.behind stop skip))
  behind_stopped Stop.Short e =
      record {
        follows = λ go j. behind go j
            ∙ ap (λ (f : Result Found Stop). found.outcome f go (drop skip s) (skip + j)) e
            ∙ ap (refused SHORT) (simp length-drop (omega arith));
        reaches = tt;
      }
  behind_stopped (Stop.Refused r i) e =
      let within = subst (λ (f : Result Found Stop). found.Reaches f (drop skip s)) e reach in
      record {
        follows = λ go j. behind go j
            ∙ ap (λ (f : Result Found Stop). found.outcome f go (drop skip s) (skip + j)) e
            ∙ ap (refused (refusal.number_of r)) (omega arith);
        reaches = omega (arith, simp length-drop at within);
      }

-- the data of a kind: an 001's first character and then its content, any other's content behind the length's low byte
module _ (k : Kind) where
  abbrev data_tree : Bool → ℕ → ℕ → (Structure → Tree Message) → Tree Message
  data_tree t a b go =
      content (map (shift (cond t 2 1)) (cond t (free first_character VALUE ∷ positions k) (positions k))) (a ∷ b ∷ [])
      (λ c. go (make k (drop (cond t 2 1) c)))

  module _ (a b : ℕ) (go : Structure → Tree Message) where
    abbrev of_content : List ℕ → Tree Message
    of_content c = go (make k c)

    data_first : eqb (number_of k) 1 ≡ true → data_tree (eqb (number_of k) 1) a b go ≡ content (free first_character VALUE ∷ positions k) [] of_content
    data_first e =
        ap (λ (t : Bool). data_tree t a b go) e ∙ content_shift (a ∷ b ∷ []) (free first_character VALUE ∷ positions k) [] of_content

    data_other : eqb (number_of k) 1 ≡ false → data_tree (eqb (number_of k) 1) a b go ≡ content (positions k) (b ∷ []) of_content
    data_other e = ap (λ (t : Bool). data_tree t a b go) e ∙ content_shift (a ∷ []) (positions k) (b ∷ []) of_content

    first_character_at : (d : ℕ) (s : List ℕ) (j : ℕ) (t : Bool) → first_character d ≡ t
        → walk (content (free first_character VALUE ∷ positions k) [] of_content) (d ∷ s) j
        ≡ walk (cond t (content (positions k) (d ∷ []) of_content) (fatal CHARACTER)) s (suc j)
    first_character_at d s j t e = ap (λ (u : Bool). walk (cond u (content (positions k) (d ∷ []) of_content) (fatal CHARACTER)) s (suc j)) e

  module _ (e : eqb (number_of k) 1 ≡ true) where
    pub data_short : (s : List ℕ) → length s ≡ 3 → FindsData k s (Err Stop.Short)
    data_short [] l = absurd (omega arith)
    data_short (t ∷ []) l = absurd (omega arith)
    data_short (t ∷ a ∷ []) l = absurd (omega arith)
    data_short (t ∷ a ∷ b ∷ []) l = record { follows = λ go j. ap (λ (u : Tree Message). walk u [] (3 + j)) (data_first a b go e); reaches = tt }
    data_short (t ∷ a ∷ b ∷ d ∷ s) l = absurd (omega arith)

    pub data_outside : (s : List ℕ) → 3 < length s → first_character (get_or s 3 0) ≡ false → FindsData k s (Err (Stop.Refused Refusal.Character 3))
    data_outside [] l o = absurd (not-suc-le-zero l)
    data_outside (t ∷ []) l o = absurd (omega arith)
    data_outside (t ∷ a ∷ []) l o = absurd (omega arith)
    data_outside (t ∷ a ∷ b ∷ []) l o = absurd (omega arith)
    data_outside (t ∷ a ∷ b ∷ d ∷ s) l o =
        record {
          follows = λ go j. ap (λ (u : Tree Message). walk u (d ∷ s) (3 + j)) (data_first a b go e) ∙ first_character_at a b go d s (3 + j) false o;
          reaches = l;
        }

    pub data_donation : (s : List ℕ) {f : Result Taken Stop} → 3 < length s → first_character (get_or s 3 0) ≡ true → FindsBehind k 2 s f → FindsData k s f
    data_donation [] l o h = absurd (not-suc-le-zero l)
    data_donation (t ∷ []) l o h = absurd (omega arith)
    data_donation (t ∷ a ∷ []) l o h = absurd (omega arith)
    data_donation (t ∷ a ∷ b ∷ []) l o h = absurd (omega arith)
    data_donation (t ∷ a ∷ b ∷ d ∷ s) l o h =
        record {
          follows = λ go j. ap (λ (u : Tree Message). walk u (d ∷ s) (3 + j)) (data_first a b go e)
              ∙ first_character_at a b go d s (3 + j) true o
              ∙ ap (walk (content (positions k) (d ∷ []) (λ c. go (make k c))) s) (omega arith)
              ∙ h.follows go j;
          reaches = h.reaches;
        }

  pub data_behind : eqb (number_of k) 1 ≡ false → (s : List ℕ) {f : Result Taken Stop} → 2 < length s → FindsBehind k 1 s f → FindsData k s f
  data_behind e [] l h = absurd (not-suc-le-zero l)
  data_behind e (t ∷ []) l h = absurd (omega arith)
  data_behind e (t ∷ a ∷ []) l h = absurd (omega arith)
  data_behind e (t ∷ a ∷ b ∷ s) l h =
      record { follows = λ go j. ap (λ (u : Tree Message). walk u s (3 + j)) (data_other a b go e) ∙ h.follows go j; reaches = h.reaches }

  -- what stands past a tag, by its length
  abbrev behind_length : List Position
  behind_length = map (shift (skip (number_of k))) (data_positions k)

  module _ (s : List ℕ) {n : ℕ} (is : n ≡ length (data_positions k)) where
    pub past_right : {f : Result Taken Stop} → Sizes n s (Ok tt) → FindsData k s f → FindsPast k s f
    past_right z h =
        record {
          follows = λ go j. sized_right (length (data_positions k)) behind_length (λ c. go (make_field k c)) j s (rw is at z) ∙ h.follows go j;
          reaches = h.reaches;
        }

    pub past_stopped : (stop : Stop) → Sizes n s (Err stop) → FindsPast k s (Err stop)
    past_stopped Stop.Short z =
        record {
          follows = λ go j. sized_stopped (length (data_positions k)) behind_length (λ c. go (make_field k c)) j Stop.Short s (rw is at z);
          reaches = tt;
        }
    past_stopped (Stop.Refused r p) z =
        record {
          follows = λ go j. sized_stopped (length (data_positions k)) behind_length (λ c. go (make_field k c)) j (Stop.Refused r p) s (rw is at z);
          reaches = wrong_within n s r p z;
        }

-- a field by its tag
module _ (spot : Spot) where
  pub field_none : (s : List ℕ) → length s ≡ 0 → FindsField spot s (Err Stop.Short)
  field_none [] l = record { follows = λ go j. refl; reaches = tt }
  field_none (t ∷ s) l = absurd (omega arith)

  at_tag : (t : ℕ) (s : List ℕ) (go : Structure → Tree Message) (j : ℕ) (o : Option Kind) → numbered (kinds_at spot) t ≡ o
      → walk (slot (kinds_at spot) (missed spot) go) (t ∷ s) (0 + j) ≡ walk (entered o (missed spot t) go) s (1 + j)
  at_tag t s go j o e = ap₂ (λ (u : Option Kind) (m : ℕ). walk (entered u (missed spot t) go) s m) e (omega arith)

  pub field_past : {k : Kind} (s : List ℕ) {f : Result Taken Stop} → 0 < length s → numbered (kinds_at spot) (get_or s 0 0) ≡ some k → FindsPast k s f
      → FindsField spot s f
  field_past [] l e h = absurd (not-suc-le-zero l)
  field_past {k} (t ∷ s) l e h = record { follows = λ go j. at_tag t s go j (some k) e ∙ h.follows go j; reaches = h.reaches }

  pub field_missed : (s : List ℕ) {r : Refusal} → 0 < length s → numbered (kinds_at spot) (get_or s 0 0) ≡ none
      → refusal.number_of r ≡ miss_tag spot (get_or s 0 0) → FindsField spot s (Err (Stop.Refused r 0))
  field_missed [] l e i = absurd (not-suc-le-zero l)
  field_missed (t ∷ s) l e i =
      record { follows = λ go j. at_tag t s go j none e ∙ ap₂ refused (sym i) (omega arith); reaches = l }
