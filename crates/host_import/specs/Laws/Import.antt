-- Importing field by field: records as trees, what code finds in the part of the record from the cursor on, and how a record opens.
use Rattle.std.specs.Prelude.{ℕ, suc, ◌+◌, ◌-◌, ◌<◌, ◌≡◌, refl, Bool, cond, List, [], ◌∷◌, ◌++◌, map, length, get_or, take, drop, Result, Ok, Err}
use Rattle.std.proofs.Common.{sym, ap, ap₂, ◌∙◌, subst, not-suc-le-zero, zero-add, arith, ne_eqb}
use Rattle.std.proofs.Math.Option.{Option, some}
use Rattle.demand.specs.Demand.{Answer, accepted, refused}
use Rattle.demand.specs.Numbers.{SHORT, TRAILING, TAG}
use Rattle.demand.specs.declared.Stop.{Stop}
use Rattle.demand.specs.Numbered.{number_of}
use Rattle.demand.specs.Stops.{behind}
use Rattle.demand.specs.Laws.Tree.{Tree, fatal, walk, at}
use Rattle.demand.specs.Laws.Content.{Position, content, content_shift, shift, shift_in}
use Rattle.text.specs.Decimal.{number}
use Rattle.label.specs.declared.Edition.{Edition}
use Rattle.label.specs.declared.Kind.{Kind}
use Rattle.label.specs.declared.Message.{Message}
use Rattle.label.specs.declared.Structure.{Structure}
use Rattle.structure.specs.declared.Shape.{Shape}
use Rattle.structure.specs.declared.Spot.{Spot}
use Rattle.structure.specs.Structures.{kind_of, kinds_of, numbered}
use Rattle.structure.specs.Laws.Head.{aa_of, count_is, bbb_is, head_positions, head_in}
use Rattle.structure.specs.Laws.Kinds.{shape_positions}
use Rattle.structure.specs.Laws.Spot.{kinds_at}
use Rattle.content_scan.specs.Laws.Scan.{Whole, Scanned, whole_walk, short_walk, unfit_walk}
use Rattle.message.specs.declared.Reading.{Reading}
use Rattle.message.specs.Grammar.{donations}
use Rattle.message.specs.Laws.Tree.{paired, seconds}
use Rattle.message_reader.specs.declared.Beginning.{Beginning}
use Rattle.message_reader.specs.declared.Taken.{Taken}
use Rattle.message_reader.specs.Laws.Hope.{second_none}
use Rattle.message_reader.specs.Laws.Loop as loop
use Rattle.message_reader.specs.Laws.Loop.{Stage, Trees, node, none_yet, Gives, Dues, Takes, stopped, Starts}
use Rattle.message_reader.specs.Laws.Start.{plain_beginning}
use Rattle.host_record.specs.Record.{HEAD}
use Rattle.host_record.specs.Host.{Imports}
use Rattle.host_record.specs.Laws.Answers.{answer, imports_accepted, imports_refused}
use Rattle.host_record.specs.Laws.Tree.{entered, slot, missed, following, head_past, counted, headed, seconding, alone, records}
use Rattle.host_import.specs.Laws.Field.{FindsField, Reaches, Sizes, told, sized_right, sized_stopped}

-- records as trees
abbrev pub host : Trees
host =
    record {
      first = slot (kinds_of Edition.Current) (missed Spot.First) alone;
      first_2001 = slot (kinds_of Edition.Of2001) (missed Spot.First2001) alone;
      several = following;
      second = seconding;
      complete = λ bbb xs. refl;
      asks = λ x b l j. refl;
      hopeless = λ x b e. ap (λ (ks : List Kind). at (slot ks (λ t. fatal TRAILING) (paired x)) (b ∷ [])) (second_none x e).0;
    }

seconding_due : (x : Structure) {k : Kind} → kind_of x ≡ some k → seconding x ≡ slot (seconds (some k)) (λ t. fatal TRAILING) (paired x)
seconding_due x e = ap (λ (o : Option Kind). slot (seconds o) (λ t. fatal TRAILING) (paired x)) e

-- and what follows a field is known
pub node_due : (spot : Spot) (left bbb : ℕ) (xs : List Structure) → Stage spot (suc left) xs
    → node host spot (suc left) bbb xs ≡ slot (kinds_at spot) (missed spot) (λ y. node host spot left bbb (xs ++ y ∷ []))
node_due Spot.First left bbb xs (l, e) = rw e
node_due Spot.First2001 left bbb xs (l, e) = rw e
node_due Spot.Within left bbb xs (h, d) = rw d
node_due Spot.Holding left bbb xs (h, d) = let some : donations xs ≡ suc (donations xs - 1) = omega arith in rw some
node_due Spot.AfterDonation left bbb xs (x, l, e, k) = rw e (seconding_due x k)
node_due Spot.AfterProduct left bbb xs (x, l, e, k) = rw e (seconding_due x k)

-- records field by field
abbrev pub host_dues : Dues host
host_dues = record { due = λ spot go. slot (kinds_at spot) (missed spot) go; is = node_due }

-- what code finds of a field
pub field_due : (spot : Spot) {s : List ℕ} (f : Result Taken Stop) → FindsField spot s f → Takes (host_dues.due spot) s f
field_due spot {s} f g = record { follows = λ go j. from_tag go j ∙ g.follows go j; reaches = reach f g.reaches }
  where
    -- a field's tag is its first byte
    from_tag : (go : Structure → Tree Message) (j : ℕ) → walk (slot (kinds_at spot) (missed spot) go) s j
        ≡ walk (slot (kinds_at spot) (missed spot) go) s (0 + j)
    from_tag go j = ap (walk (slot (kinds_at spot) (missed spot) go) s) (sym (zero-add j))

    reach : (q : Result Taken Stop) → Reaches q s → loop.Reaches q s
    reach (Ok q) h = (omega (arith, h.0), h.1, h.2, omega (arith, h.0))
    reach (Err Stop.Short) h = tt
    reach (Err (Stop.Refused r i)) h = h

-- how a record opens: its fields begin, or it ends or is refused in its head
abbrev pub Opens : List ℕ → Result Beginning Stop → Type 0
Opens s (Ok first) = Starts host (answer s) first s
Opens s (Err stop) = answer s ≡ stopped stop (length s)

-- a first byte that is not 23 is a structure's tag or none
plain_runs : (s : List ℕ) → (0 < length s → get_or s 0 0 ≡ HEAD → ⊥) → answer s ≡ walk (node host Spot.First 1 0 []) s 0
unfolding answer records
plain_runs [] h = refl
plain_runs (t ∷ s) h =
    ap (λ (x : Bool). walk (entered (numbered (kinds_of Edition.Current) t) (cond x (content head_past [] headed) (fatal TAG)) alone) s 1)
    (ne_eqb t HEAD (h (omega arith)))

pub opens_plain : (s : List ℕ) → (0 < length s → get_or s 0 0 ≡ HEAD → ⊥) → Opens s (Ok (plain_beginning Spot.First))
opens_plain s h = record { running = none_yet s 0 1 0 Spot.First (omega arith) (refl, refl) refl (plain_runs s h); behind = omega arith }

-- past tag 23
abbrev pub heads : List Position
heads = shape_positions Shape.Head

-- a record that begins with tag 23
pub record Headed (s : List ℕ) : Type 0 where
  pub some : 0 < length s
  pub tag : get_or s 0 0 ≡ HEAD

head_runs : (s : List ℕ) → Headed s → answer s ≡ walk (content head_past [] headed) (drop 1 s) (1 + 0)
unfolding answer records
head_runs [] h = absurd (not-suc-le-zero h.some)
head_runs (t ∷ c) h = ap (λ (b : ℕ). answer (b ∷ c)) h.tag

module _ (s : List ℕ) (h : Headed s) where
  pub head_stopped : (stop : Stop) → Sizes 5 s (Err stop) → Opens s (Err stop)
  head_stopped stop z = head_runs s h ∙ sized_stopped 5 (map (shift 1) heads) headed 0 stop s z ∙ from_first stop
    where
      from_first : (stop : Stop) → told stop (length s) 0 ≡ stopped stop (length s)
      from_first Stop.Short = ap (refused SHORT) (omega arith)
      from_first (Stop.Refused r p) = ap (refused (number_of r)) (omega arith)

  -- its length is right, and the second byte of that and the rest are what follows
  pub head_whole : Sizes 5 s (Ok tt) → (HEAD ∷ 0 ∷ drop 2 s ≡ s) × (0 < length (drop 2 s)) × (get_or (drop 2 s) 0 0 ≡ 5)
  head_whole z = by s h z
    where
      by : (s : List ℕ) → Headed s → Sizes 5 s (Ok tt) → (HEAD ∷ 0 ∷ drop 2 s ≡ s) × (0 < length (drop 2 s)) × (get_or (drop 2 s) 0 0 ≡ 5)
      by [] g (l, e, f) = absurd (not-suc-le-zero l)
      by (t ∷ []) g (l, e, f) = absurd (omega arith)
      by (t ∷ a ∷ []) g (l, e, f) = absurd (omega arith)
      by (t ∷ a ∷ b ∷ c) g (l, e, f) = (ap₂ (λ (i j : ℕ). i ∷ j ∷ b ∷ c) (sym g.tag) (sym e), omega arith, f)

-- the length's low byte and the count behind it
pub record CountBody (s : List ℕ) : Type 0 where
  pub some : 0 < length s
  pub low : get_or s 0 0 ≡ 5

count_runs : (c : List ℕ) → answer (HEAD ∷ 0 ∷ 5 ∷ c) ≡ walk (content heads (5 ∷ []) counted) c 3
count_runs c =
    head_runs (HEAD ∷ 0 ∷ 5 ∷ c) record { some = omega arith; tag = refl }
    ∙ sized_right 5 (map (shift 1) heads) headed 0 (HEAD ∷ 0 ∷ 5 ∷ c) (omega arith, refl, refl)
    ∙ ap (λ (t : Tree Message). walk t c 3) (content_shift (0 ∷ []) heads (5 ∷ []) counted)

on_body : (P : List ℕ → Type 0) {s : List ℕ} → CountBody s → ((c : List ℕ) → P (5 ∷ c)) → P s
on_body P {s = []} h f = absurd (omega (arith, h.some))
on_body P {s = b ∷ c} h f = subst (λ (x : ℕ). P (x ∷ c)) (sym h.low) (f c)

-- the structures after a head
abbrev pub head_beginning : ℕ → ℕ → Beginning
head_beginning aa bbb = record { at = 8; place = 7; structures = aa; bbb = bbb; spot = Spot.Within }

module _ {s : List ℕ} (b : CountBody s) where
  pub count_stopped : (stop : Stop) → Scanned heads s (Err stop) → Opens (HEAD ∷ 0 ∷ s) (Err (behind stop 3))
  count_stopped stop = on_body (λ s. Scanned heads s (Err stop) → Opens (HEAD ∷ 0 ∷ s) (Err (behind stop 3))) b (by stop)
    where
      by : (stop : Stop) (c : List ℕ) → Scanned heads (5 ∷ c) (Err stop) → Opens (HEAD ∷ 0 ∷ 5 ∷ c) (Err (behind stop 3))
      by Stop.Short c h = count_runs c ∙ short_walk heads 5 c counted 3 h ∙ ap (refused SHORT) (omega arith)
      by (Stop.Refused r i) c h = count_runs c ∙ unfit_walk heads 5 c counted 3 (number_of r) i h

  pub count_whole : {aa bbb : ℕ} → Whole heads s → aa ≡ number (take 2 (drop 1 s)) → bbb ≡ number (take 3 (drop 3 s))
      → Opens (HEAD ∷ 0 ∷ s) (Ok (head_beginning aa bbb))
  count_whole {aa} {bbb} =
      on_body
      (λ s. Whole heads s → aa ≡ number (take 2 (drop 1 s)) → bbb ≡ number (take 3 (drop 3 s))
      → Opens (HEAD ∷ 0 ∷ s) (Ok (head_beginning aa bbb))) b by
    where
      by : (c : List ℕ) → Whole heads (5 ∷ c) → aa ≡ number (take 2 c) → bbb ≡ number (take 3 (drop 2 c))
          → Opens (HEAD ∷ 0 ∷ 5 ∷ c) (Ok (head_beginning aa bbb))
      by c h e f =
          let (lo, hi, small, back) = head_in (shift_in (5 ∷ []) head_positions {p = []} h.fits) in
          let is : aa_of (take 5 c) ≡ aa = count_is c ∙ sym e in
          let runs = count_runs c
          ∙ whole_walk heads 5 c counted 3 h
          ∙ ap₂ (λ (i j : ℕ). walk (following i j []) (drop 5 c) 8) is (bbb_is c (omega (arith, h.long)) ∙ sym f) in
          record {
            running = none_yet (HEAD ∷ 0 ∷ 5 ∷ c) 8 aa bbb Spot.Within (omega (arith, h.long)) (omega arith, refl) tt runs;
            behind = omega arith;
          }

-- an import that gives what is to be answered
pub gives_imports : {s : List ℕ} {r : Reading} (a : Answer Message) → answer s ≡ a → Gives a r → Imports s r
gives_imports {s} (accepted m k) e g = rw g (imports_accepted record { message = m; place = k; refusal = 0 } e refl)
gives_imports (refused n k) e g = imports_refused e g
