-- How a scan opens: with an 023 or with a structure, and what is then left to run.
use Rattle.std.specs.Prelude.{ℕ, ◌+◌, ◌*◌, ◌≤◌, ◌<◌, ◌≡◌, Bool, true, false, cond, ◌&&◌, ◌⊎◌, eqb, length, get_or, take, drop, Result, Ok, Err}
use Rattle.std.proofs.Math.Path.{refl}
use Rattle.std.proofs.Common.{sym, ap, ap₂, ◌∙◌, subst, inr, arith, length-drop, get_or-drop, drop-cons, eqb-true, eq-eqb, ne_eqb}
use mathlib.Core.List.{List, [], ◌∷◌}
use Rattle.std.proofs.Math.Logic.{⊎_elim}
use Rattle.std.proofs.lemmas.Bool.{eqb-false}
use Rattle.demand.specs.Demand.{refused}
use Rattle.demand.specs.Numbers.{SHORT, IDENTIFIER}
use Rattle.demand.specs.declared.Refusal.{Refusal}
use Rattle.demand.specs.declared.Stop.{Stop}
use Rattle.demand.specs.Numbered.{number_of}
use Rattle.demand.specs.Stops.{behind}
use Rattle.demand.specs.Laws.Tree.{Tree, fatal, ask, walk}
use Rattle.demand.specs.Laws.Content.{Position, content, shift_in}
use Rattle.text.specs.Decimal.{number}
use Rattle.text.specs.Laws.Bytes.{both}
use Rattle.label.specs.declared.Edition.{Edition}
use Rattle.label.specs.declared.Message.{Message}
use Rattle.structure.specs.declared.Shape.{Shape}
use Rattle.structure.specs.declared.Spot.{Spot}
use Rattle.structure.specs.Structures.{kinds_of}
use Rattle.structure.specs.Laws.Due.{find, leads, opened, due}
use Rattle.structure.specs.Laws.Head.{aa_of, count_is, bbb_is, head_positions, head_in}
use Rattle.structure.specs.Laws.Kinds.{shape_positions}
use Rattle.structure.specs.Laws.Spot.{is_head}
use Rattle.content_scan.specs.Laws.Scan.{Whole, Early, Unfitting, Scanned, whole_walk, short_walk, unfit_walk}
use Rattle.message.specs.Laws.Answers.{answer}
use Rattle.message.specs.Laws.Tree.{message, several, lone, headed, opens_head, missed_first}
use Rattle.message_reader.specs.declared.Beginning.{Beginning}
use Rattle.message_reader.specs.Laws.Loop.{none_yet, stopped, Starts}
use Rattle.message_reader.specs.Laws.Reader.{labels}

-- the structures after an 023, and those without one
abbrev pub head_beginning : ℕ → ℕ → Beginning
head_beginning aa bbb = record { at = 7; place = 7; structures = aa; bbb = bbb; spot = Spot.Within }

abbrev pub plain_beginning : Spot → Beginning
plain_beginning spot = record { at = 0; place = 0; structures = 1; bbb = 0; spot = spot }

-- what an opening leaves to run
abbrev pub Opens : Edition → List ℕ → Result Beginning Stop → Type 0
Opens ed s (Ok first) = Starts labels (answer ed s) first s
Opens ed s (Err stop) = answer ed s ≡ stopped stop (length s)

-- two bytes that are no 023's are as in a scan without one
abbrev pub Unheaded : Edition → List ℕ → Type 0
Unheaded ed s = (length s < 2) ⊎ (opens_head ed (get_or s 0 0) (get_or s 1 0) ≡ false)

module _ (ed : Edition) where
  abbrev plain : Tree Message
  plain = due (kinds_of ed) IDENTIFIER (λ a b. fatal IDENTIFIER) lone

  module _ (a b : ℕ) (r : List ℕ) (e : opens_head ed a b ≡ false) where
    missed : missed_first ed a b ≡ fatal IDENTIFIER
    missed = ap (λ (t : Bool). cond t (content (shape_positions Shape.Head) (b ∷ []) headed) (fatal IDENTIFIER)) e

    led : (t : Bool) → walk (cond t (ask (λ c. opened (find (kinds_of ed) a c) c (missed_first ed a c) lone)) (fatal IDENTIFIER)) (b ∷ r) 1
        ≡ walk (cond t (ask (λ c. opened (find (kinds_of ed) a c) c (fatal IDENTIFIER) lone)) (fatal IDENTIFIER)) (b ∷ r) 1
    led true = ap (λ (m : Tree Message). walk (opened (find (kinds_of ed) a b) b m lone) r 2) missed
    led false = refl

  one_byte : (f g : ℕ → Tree Message) (t : Bool) → walk (cond t (ask f) (fatal IDENTIFIER)) [] 1 ≡ walk (cond t (ask g) (fatal IDENTIFIER)) [] 1
  one_byte f g true = refl
  one_byte f g false = refl

  plain_runs : (s : List ℕ) → Unheaded ed s → answer ed s ≡ walk plain s 0
  unfolding answer message
  plain_runs [] h = refl
  plain_runs (a ∷ []) h =
      one_byte (λ c. opened (find (kinds_of ed) a c) c (missed_first ed a c) lone) (λ c. opened (find (kinds_of ed) a c) c (fatal IDENTIFIER) lone)
      (leads (kinds_of ed) a)
  plain_runs (a ∷ b ∷ r) h = ⊎_elim (λ l. absurd (omega arith)) (λ e. led a b r e (leads (kinds_of ed) a)) h

pub start_plain : (s : List ℕ) → Unheaded Edition.Current s → Opens Edition.Current s (Ok (plain_beginning Spot.First))
start_plain s h =
    record { running = none_yet s 0 1 0 Spot.First (omega arith) (refl, refl) refl (plain_runs Edition.Current s h); behind = omega arith }

-- in that of 2001 every scan is without one
pub start_2001 : (s : List ℕ) → Opens Edition.Of2001 s (Ok (plain_beginning Spot.First2001))
start_2001 s =
    record { running = none_yet s 0 1 0 Spot.First2001 (omega arith) (refl, refl) refl (plain_runs Edition.Of2001 s (inr refl)); behind = omega arith }

-- an 023's content after its two bytes
-- two bytes as one number
pub head_number : (a b : ℕ) → a < 256 → b < 256 → eqb (b * 256 + a) 11069 ≡ is_head a b
head_number a b l m = by (eqb a 61) (eqb b 43) refl refl
  where
    by : (t u : Bool) → eqb a 61 ≡ t → eqb b 43 ≡ u → eqb (b * 256 + a) 11069 ≡ (t && u)
    by true true e f = eq-eqb (b * 256 + a) 11069 (omega (arith, eqb-true a 61 e, eqb-true b 43 f))
    by true false e f = ne_eqb (b * 256 + a) 11069 (λ g. eqb-false b 43 f (omega (arith, eqb-true a 61 e)))
    by false u e f = ne_eqb (b * 256 + a) 11069 (λ g. eqb-false a 61 e (omega arith))

abbrev pub heads : List Position
heads = shape_positions Shape.Head

module _ (c : List ℕ) where
  head_runs : answer Edition.Current (61 ∷ 43 ∷ c) ≡ walk (content heads (43 ∷ []) headed) c 2
  unfolding answer message
  head_runs = refl

  start_short : Early heads (43 ∷ c) → Opens Edition.Current (61 ∷ 43 ∷ c) (Err Stop.Short)
  start_short h = head_runs ∙ short_walk heads 43 c headed 2 h ∙ ap (refused SHORT) (omega arith)

  start_unfit : (r : Refusal) (i : ℕ) → Unfitting heads (43 ∷ c) (number_of r) i
      → Opens Edition.Current (61 ∷ 43 ∷ c) (Err (Stop.Refused r (i + 2)))
  start_unfit r i h = head_runs ∙ unfit_walk heads 43 c headed 2 (number_of r) i h

  start_stopped : (stop : Stop) → Scanned heads (43 ∷ c) (Err stop) → Opens Edition.Current (61 ∷ 43 ∷ c) (Err (behind stop 2))
  start_stopped Stop.Short h = start_short h
  start_stopped (Stop.Refused r i) h = start_unfit r i h

  module _ (h : Whole heads (43 ∷ c)) where
    start_head : (aa bbb : ℕ) → aa ≡ number (take 2 c) → bbb ≡ number (take 3 (drop 2 c))
        → Opens Edition.Current (61 ∷ 43 ∷ c) (Ok (head_beginning aa bbb))
    start_head aa bbb e f =
        let (lo, hi, small, back) = head_in (shift_in (43 ∷ []) head_positions {p = []} h.fits) in
        let is : aa_of (take 5 c) ≡ aa = count_is c ∙ sym e in
        record {
          running = none_yet (61 ∷ 43 ∷ c) 7 aa bbb Spot.Within (omega (arith, h.long)) (omega arith, refl) tt
              (head_runs ∙ whole_walk heads 43 c headed 2 h
              ∙ ap₂ (λ (i j : ℕ). walk (several i j []) (drop 5 c) 7) is (bbb_is c (omega (arith, h.long)) ∙ sym f));
          behind = omega arith;
        }

-- the body of a scan that begins with = and +: it begins with the +
pub record HeadBody (s : List ℕ) : Type 0 where
  pub some : 0 < length s
  pub plus : get_or s 0 0 ≡ 43

on_body : (P : List ℕ → Type 0) {s : List ℕ} → HeadBody s → ((c : List ℕ) → P (43 ∷ c)) → P s
on_body P {s = []} h f = absurd (omega (arith, h.some))
on_body P {s = b ∷ c} h f = subst (λ (x : ℕ). P (x ∷ c)) (sym h.plus) (f c)

module _ {s : List ℕ} (b : HeadBody s) where
  pub body_stopped : (stop : Stop) → Scanned heads s (Err stop) → Opens Edition.Current (61 ∷ s) (Err (behind stop 2))
  body_stopped stop =
      on_body (λ s. Scanned heads s (Err stop) → Opens Edition.Current (61 ∷ s) (Err (behind stop 2))) b (λ c. start_stopped c stop)

  pub body_head : {aa bbb : ℕ} → Whole heads s → aa ≡ number (take 2 (drop 1 s)) → bbb ≡ number (take 3 (drop 3 s))
      → Opens Edition.Current (61 ∷ s) (Ok (head_beginning aa bbb))
  body_head {aa} {bbb} =
      on_body
      (λ s. Whole heads s → aa ≡ number (take 2 (drop 1 s)) → bbb ≡ number (take 3 (drop 3 s))
      → Opens Edition.Current (61 ∷ s) (Ok (head_beginning aa bbb))) b
      (λ c h. start_head c h aa bbb)

module _ (s : List ℕ) (l : 2 ≤ length s) (e : is_head (get_or s 0 0) (get_or s 1 0) ≡ true) where
  pub headed_body : HeadBody (drop 1 s)
  headed_body =
      let (f, g) = both (eqb (get_or s 0 0) 61) (eqb (get_or s 1 0) 43) e in
      record { some = simp length-drop (omega arith); plus = get_or-drop 1 s 0 0 ∙ eqb-true (get_or s 1 0) 43 g }

  pub headed_whole : (o : Result Beginning Stop) → Opens Edition.Current (61 ∷ drop 1 s) o → Opens Edition.Current s o
  headed_whole o h =
      let (f, g) = both (eqb (get_or s 0 0) 61) (eqb (get_or s 1 0) 43) e in
      subst (λ (x : List ℕ). Opens Edition.Current x o) (sym (drop-cons s 0 0 (omega arith) ∙ ap (◌∷ drop 1 s) (eqb-true (get_or s 0 0) 61 f))) h
