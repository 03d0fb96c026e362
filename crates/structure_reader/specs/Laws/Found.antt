-- What reading a structure finds, right for whatever tree follows it.
use Rattle.std.specs.Prelude.{ℕ, suc, ◌+◌, ◌≤◌, ◌<◌, ◌≡◌, Bool, true, false, cond, List, [], ◌∷◌, length, take, drop, Result, Ok, Err}
use Rattle.std.proofs.Common.{sym, ap, ap₂, ◌∙◌, inl, inr, ⊎_elim, not-suc-le-zero, add_comm, add-one, arith, take-take, length-take-le}
use Rattle.std.proofs.Math.Option.{Option, some, none}
use Rattle.std.proofs.Math.Numerals.{add-two}
use Rattle.demand.specs.Demand.{Answer, refused}
use Rattle.demand.specs.Numbers.{SHORT}
use Rattle.demand.specs.declared.Refusal.{Refusal}
use Rattle.demand.specs.declared.Stop.{Stop}
use Rattle.demand.specs.Numbered.{number_of}
use Rattle.demand.specs.Stops.{behind}
use Rattle.demand.specs.Laws.Tree.{Tree, fatal, ask, walk}
use Rattle.demand.specs.Laws.Content.{content, drop_take}
use Rattle.label.specs.declared.Structure.{Structure}
use Rattle.label.specs.declared.Kind.{Kind}
use Rattle.label.specs.declared.Message.{Message}
use Rattle.structure.specs.declared.Spot.{Spot}
use Rattle.structure.specs.Structures.{written}
use Rattle.structure.specs.Laws.Kinds.{positions, make, made_length}
use Rattle.structure.specs.Laws.Due.{find, leads, opened, due}
use Rattle.structure.specs.Laws.Spot.{kinds_at, refusal_at, miss_of}
use Rattle.content_scan.specs.Laws.Scan.{Whole, Early, Unfitting, Scanned, whole_walk, short_walk, unfit_walk}
use Rattle.structure_reader.specs.declared.Found.{Found}
use Rattle.structure_reader.specs.Laws.Identify.{Identifies}
use Rattle.structure_reader.specs.Laws.Value.{Fitting}

-- the answer, where `go` is the tree of what follows the structure, s the part of the scan from it on and j the place of that part
abbrev pub outcome : Result Found Stop → (Structure → Tree Message) → List ℕ → ℕ → Answer Message
outcome (Ok f) go s j = walk (go f.structure) (drop f.long s) (f.long + j)
outcome (Err Stop.Short) go s j = refused SHORT (length s + j)
outcome (Err (Stop.Refused r i)) go s j = refused (number_of r) (i + j)

-- how far it reaches: a whole structure by its own total length
abbrev pub Reaches : Result Found Stop → List ℕ → Type 0
Reaches (Ok f) s = (0 < f.long) × (f.long ≤ length s) × (f.long ≡ length (written f.structure))
Reaches (Err Stop.Short) s = Unit
Reaches (Err (Stop.Refused r i)) s = i < length s

-- after an identifier of kind k, of which s begins with the second byte
pub record FindsContent (k : Kind) (s : List ℕ) (f : Result Found Stop) : Type 0 where
  pub follows : (a : ℕ) (go : Structure → Tree Message) (j : ℕ)
      → walk (content (positions k) (take 1 s) (λ c. go (make k c))) (drop 1 s) (2 + j) ≡ outcome f go (a ∷ s) j
  pub reaches : (a : ℕ) → Reaches f (a ∷ s)

pub record Finds (spot : Spot) (s : List ℕ) (f : Result Found Stop) : Type 0 where
  pub follows : (go : Structure → Tree Message) (j : ℕ)
      → walk (due (kinds_at spot) (refusal_at spot) (λ a b. fatal (miss_of spot a b)) go) s j ≡ outcome f go s j
  pub reaches : Reaches f s

content_short : {k : Kind} {s : List ℕ} → Early (positions k) s → FindsContent k s (Err Stop.Short)
content_short {k} {s = []} h = absurd (not-suc-le-zero h.some)
content_short {k} {s = b ∷ c} h =
    record { follows = λ a go j. short_walk (positions k) b c (λ c. go (make k c)) (2 + j) h ∙ ap (refused SHORT) (omega arith); reaches = λ a. tt }

content_unfit : {k : Kind} {s : List ℕ} {r : Refusal} {i : ℕ} → Unfitting (positions k) s (number_of r) i
    → FindsContent k s (Err (Stop.Refused r (i + 2)))
content_unfit {k} {s = []} h = absurd (not-suc-le-zero h.inside)
content_unfit {k} {s = b ∷ c} {r} {i} h =
    record {
      follows = λ a go j. unfit_walk (positions k) b c (λ c. go (make k c)) (2 + j) (number_of r) i h ∙ ap (refused (number_of r)) (omega arith);
      reaches = λ a. omega (arith, h.inside);
    }

-- what stops the scan of a content stops the reading, two bytes further on
pub content_stopped : {k : Kind} {s : List ℕ} (stop : Stop) → Scanned (positions k) s (Err stop) → FindsContent k s (Err (behind stop 2))
content_stopped Stop.Short h = content_short h
content_stopped (Stop.Refused r i) h = content_unfit h

-- a whole content and its size n, as code has worked it out
module _ {k : Kind} {s : List ℕ} {n : ℕ} (size : n ≡ length (positions k)) (w : Whole (positions k) s) where
  pub whole_fitting : Fitting k (take (n + 1) s)
  whole_fitting =
      let one : take 1 (take (n + 1) s) ≡ take 1 s = take-take 1 (n + 1) s (omega arith) in
      let rest : drop 1 (take (n + 1) s) ≡ take n (drop 1 s) =
      ap (λ (m : ℕ). drop 1 (take m s)) (add_comm n 1) ∙ drop_take 1 n s (omega (arith, w.long)) in
      record { long = length-take-le (n + 1) s (omega (arith, w.long)) ∙ add-one n ∙ ap suc size; fits = rw (one, rest, size) w.fits }

content_whole : (k : Kind) (s : List ℕ) (x : Structure) → Whole (positions k) s → x ≡ make k (take (length (positions k) + 1) s)
    → FindsContent k s (Ok record { structure = x; long = length (positions k) + 2 })
content_whole k [] x w e = absurd (not-suc-le-zero w.long)
content_whole k (b ∷ c) x w e =
    let n = length (positions k) in
    let is : x ≡ make k (b ∷ take n c) = e ∙ ap (λ (m : ℕ). make k (take m (b ∷ c))) (add-one n) in
    record {
      follows = λ a go j.
          let past : drop (n + 2) (a ∷ b ∷ c) ≡ drop n c = ap (λ (m : ℕ). drop m (a ∷ b ∷ c)) (add-two n) in
          let place : n + (2 + j) ≡ n + 2 + j = omega arith in
          whole_walk (positions k) b c (λ c. go (make k c)) (2 + j) w
          ∙ ap (λ (y : Structure). walk (go y) (drop n c) (n + (2 + j))) (sym is)
          ∙ ap₂ (λ (s : List ℕ) (m : ℕ). walk (go x) s m) (sym past) place;
      reaches = λ a. (omega arith, omega (arith, w.long), sym (ap (λ (y : Structure). length (written y)) is ∙ made_length k (b ∷ take n c)));
    }

pub content_finds : {k : Kind} {s : List ℕ} {n : ℕ} {x : Structure} → n ≡ length (positions k) → Whole (positions k) s
    → x ≡ make k (take (n + 1) s) → FindsContent k s (Ok record { structure = x; long = n + 1 + 1 })
content_finds {k} {s} {n} {x} size w e =
    let two : length (positions k) + 2 ≡ n + 1 + 1 = omega arith in
    rw two at (content_whole k s x w (rw size at e))

-- from the identifier to the whole structure
module _ (spot : Spot) where
  abbrev place : (Structure → Tree Message) → Tree Message
  place go = due (kinds_at spot) (refusal_at spot) (λ a b. fatal (miss_of spot a b)) go

  -- a first byte that leads on, and one that does not
  on : (a : ℕ) (s : List ℕ) (go : Structure → Tree Message) (j : ℕ) → leads (kinds_at spot) a ≡ true
      → walk (place go) (a ∷ s) j ≡ walk (ask (λ b. opened (find (kinds_at spot) a b) b (fatal (miss_of spot a b)) go)) s (suc j)
  on a s go j e =
      ap (λ (t : Bool). walk (cond t (ask (λ b. opened (find (kinds_at spot) a b) b (fatal (miss_of spot a b)) go)) (fatal (refusal_at spot))) s (suc j)) e

  off : (a : ℕ) (s : List ℕ) (go : Structure → Tree Message) (j : ℕ) → leads (kinds_at spot) a ≡ false
      → walk (place go) (a ∷ s) j ≡ refused (refusal_at spot) j
  off a s go j e =
      ap (λ (t : Bool). walk (cond t (ask (λ b. opened (find (kinds_at spot) a b) b (fatal (miss_of spot a b)) go)) (fatal (refusal_at spot))) s (suc j)) e

  -- two bytes that lead on
  both_on : (a b : ℕ) (s : List ℕ) (go : Structure → Tree Message) (j : ℕ) (o : Option Kind) → leads (kinds_at spot) a ≡ true
      → find (kinds_at spot) a b ≡ o → walk (place go) (a ∷ b ∷ s) j ≡ walk (opened o b (fatal (miss_of spot a b)) go) s (2 + j)
  both_on a b s go j o e f =
      on a (b ∷ s) go j e ∙ ap₂ (λ (o : Option Kind) (m : ℕ). walk (opened o b (fatal (miss_of spot a b)) go) s m) f (omega arith)

module _ {spot : Spot} where
  spot_short : {s : List ℕ} → Identifies spot s (Err Stop.Short) → Finds spot s (Err Stop.Short)
  spot_short {s = []} h = record { follows = λ go j. ap (refused SHORT) (omega arith); reaches = tt }
  spot_short {s = a ∷ []} h =
      ⊎_elim (λ e. absurd (omega arith)) (λ e. record { follows = λ go j. on spot a [] go j e ∙ ap (refused SHORT) (omega arith); reaches = tt }) h.1
  spot_short {s = a ∷ b ∷ s} h = absurd (omega (arith, h.0))

  spot_refused : {s : List ℕ} {r : Refusal} {p : ℕ} → Identifies spot s (Err (Stop.Refused r p)) → Finds spot s (Err (Stop.Refused r p))
  spot_refused {s = []} h = absurd (⊎_elim (λ c. not-suc-le-zero c.0) (λ c. not-suc-le-zero c.0) h)
  spot_refused {s = a ∷ []} (inl (l, e, f, g)) =
      record { follows = λ go j. off spot a [] go j e ∙ ap₂ refused (sym f) (omega arith); reaches = omega arith }
  spot_refused {s = a ∷ []} (inr (l, e, o, f, g)) = absurd (omega arith)
  spot_refused {s = a ∷ b ∷ s} (inl (l, e, f, g)) =
      record { follows = λ go j. off spot a (b ∷ s) go j e ∙ ap₂ refused (sym f) (omega arith); reaches = omega arith }
  spot_refused {s = a ∷ b ∷ s} (inr (l, e, o, f, g)) =
      record { follows = λ go j. both_on spot a b s go j none e o ∙ ap₂ refused (sym f) (omega arith); reaches = omega arith }

  -- what stops the identifier stops the reading
  pub spot_stopped : {s : List ℕ} (stop : Stop) → Identifies spot s (Err stop) → Finds spot s (Err stop)
  spot_stopped Stop.Short h = spot_short h
  spot_stopped (Stop.Refused r p) h = spot_refused h

  pub spot_content : {s : List ℕ} {k : Kind} {f : Result Found Stop} → Identifies spot s (Ok k) → FindsContent k (drop 1 s) f → Finds spot s f
  spot_content {s = []} h g = absurd (not-suc-le-zero h.0)
  spot_content {s = a ∷ []} h g = absurd (omega (arith, h.0))
  spot_content {s = a ∷ b ∷ s} {k} h g =
      record { follows = λ go j. both_on spot a b s go j (some k) h.1 h.2 ∙ g.follows a go j; reaches = g.reaches a }
