-- The rows of the writer's table as code finds them, and the buffer that each leaves.
use Rattle.std.specs.Prelude.{ℕ, ◌≤◌, ◌<◌, ◌≡◌, refl, true, false, List, length, Some, Result, Ok, Err}
use Rattle.std.specs.Result.{is_ok}
use Rattle.std.proofs.Common.{sym, ap, ◌∙◌, true≢false, arith}
use Rattle.demand.specs.declared.Refusal.{Refusal}
use Rattle.text.specs.Buffer.{laid}
use Rattle.label.specs.declared.Edition.{Edition}
use Rattle.label.specs.declared.Form.{Form}
use Rattle.label.specs.declared.Message.{Message}
use Rattle.label.specs.declared.Structure.{Structure}
use Rattle.structure.specs.Structures.{Lawful}
use Rattle.message.specs.declared.Refused.{Refused}
use Rattle.message.specs.Told.{told}
use Rattle.message.specs.Grammar.{Produces}
use Rattle.message.specs.Writing.{structure_at, Shapely, Fielded, structures_of, cleared, row_shape, row_field, row_room, row_accepted}
use Rattle.message.specs.Writing.{StoresIn}
use Rattle.message.specs.Laws.Write.{lawful_given, given_lawful, shapely_number, structures_back, writing_is, text_by, text_of}
use Rattle.message_writer.specs.Laws.Shape.{lawful_within}
use Rattle.message_writer.specs.Laws.Writer.{FirstUnlawful, unlawful_at, bytes_by, MessageRoom}

-- the answer for a message of so many bytes, by the room there is
pub data InRoom (needed room : ℕ) (r : Result ℕ Refused) : Type 0 where
  lacks : room < needed → r ≡ Err record { refusal = Refusal.Room; place = needed } → InRoom needed room r
  has : needed ≤ room → r ≡ Ok needed → InRoom needed room r

-- what is known of a message that SHAPE and FIELD let pass
pub record Passed (ed : Edition) (m : Message) : Type 0 where
  pub shapely : Shapely ed m
  pub lawful : (i : ℕ) → i < m.count → Lawful (structure_at m i)

-- what these rows, which ask for the message alone, answer in every language
pub data Asked (ed : Edition) (m : Message) (r : Result (Unit {0}) Refused) : Type 0 where
  shapeless : (Shapely ed m → ⊥) → r ≡ Err record { refusal = Refusal.Shape; place = 0 } → Asked ed m r
  unlawful : {k : ℕ} → Shapely ed m → FirstUnlawful m.entries m.count (Some k)
      → r ≡ Err record { refusal = Refusal.Field; place = k } → Asked ed m r
  passed : Passed ed m → r ≡ Ok tt → Asked ed m r

pub asked_passed : {ed : Edition} {m : Message} {u : Unit {0}} → Asked ed m (Ok u) → Passed ed m
asked_passed (shapeless f e) = absurd (cc)
asked_passed (unlawful h first e) = absurd (cc)
asked_passed (passed p e) = p

pub passed_number : {ed : Edition} {m : Message} → Passed ed m → m.count ≤ 16
passed_number {m = m} p = shapely_number m p.shapely

fields : {ed : Edition} {m : Message} → Passed ed m → Fielded ed m
fields {ed} {m} p i l = lawful_given (structure_at m i) (lawful_within ed m p.shapely i l (p.lawful i l))

-- what is answered for a message and the room there is, before any byte is stored
pub data Asks (W : Message → List ℕ → Type 0) (ed : Edition) (m : Message) (room : ℕ) (r : Result ℕ Refused) : Type 0 where
  unwritten : {e : Refused} → Asked ed m (Err e) → r ≡ Err e → Asks W ed m room r
  sized : Passed ed m → (s : List ℕ) → W (cleared m) s → InRoom (length s) room r → Asks W ed m room r

-- what is known of an accepted message, which has one writing s
pub record Accepted (W : Message → List ℕ → Type 0) (ed : Edition) (m : Message) (s : List ℕ) (room : ℕ) : Type 0 where
  pub passing : Passed ed m
  pub produced : W (cleared m) s
  pub enough : length s ≤ room

module _ {W : Message → List ℕ → Type 0} {ed : Edition} {m : Message} where
  pub asks_sized : {needed room : ℕ} {r : Result ℕ Refused} (s : List ℕ) → Passed ed m → W (cleared m) s → needed ≡ length s
      → InRoom needed room r → Asks W ed m room r
  asks_sized s p writing is i = sized p s writing (rw is at i)

  -- a refusal leaves the buffer as it was
  refused_by : {before : List ℕ} {e : Refused} → Asked ed m (Err e) → StoresIn W ed m before before (told (Err e))
  refused_by {e = e} (shapeless f is) =
      let same : e ≡ record { refusal = Refusal.Shape; place = 0 } = cc in
      row_shape f (ap (λ (x : Refused). told (Err x)) same) refl
  refused_by {e = e} (unlawful {k} h first is) =
      let same : e ≡ record { refusal = Refusal.Field; place = k } = cc in
      let (within, before, there) = unlawful_at first in
      row_field h k within (λ g. there (given_lawful (structure_at m k) g).lawful)
      (λ i g. lawful_given (structure_at m i) (lawful_within ed m h i (omega arith) (before i g)))
      (ap (λ (x : Refused). told (Err x)) same) refl
  refused_by (passed p is) = absurd (cc)

  stores_refused : {before : List ℕ} {e : Refused} → Asks W ed m (length before) (Err e) → StoresIn W ed m before before (told (Err e))
  stores_refused {e = e} (unwritten {e = f} a is) = let same : e ≡ f = cc in rw same (refused_by a)
  stores_refused {before} {e} (sized p s writing (lacks l is)) =
      let same : e ≡ record { refusal = Refusal.Room; place = length s } = cc in
      row_room p.shapely (fields p) s writing l (ap (λ (x : Refused). told (Err x)) same) refl
  stores_refused (sized p s writing (has l is)) = absurd (cc)

  module _ {s : List ℕ} (one : (t : List ℕ) → W (cleared m) t → t ≡ s) where
    accepted_row : {room n : ℕ} → Asks W ed m room (Ok n) → Accepted W ed m s room
    accepted_row (unwritten a is) = absurd (cc)
    accepted_row (sized p t writing (lacks l is)) = absurd (cc)
    accepted_row (sized p t writing (has l is)) =
        record { passing = p; produced = rw (one t writing) at writing; enough = rw (one t writing) at l }

    stores_accepted : {before after : List ℕ} {n : ℕ} → Asks W ed m (length before) (Ok n) → after ≡ laid s before
        → StoresIn W ed m before after (told (Ok n))
    stores_accepted (unwritten a is) laying = absurd (cc)
    stores_accepted (sized p t writing (lacks l is)) laying = absurd (cc)
    stores_accepted {before} {n = n} (sized p t writing (has l is)) laying =
        let same : n ≡ length t = cc in
        row_accepted p.shapely (fields p) t writing l (ap (λ (k : ℕ). told (Ok k)) same)
        (laying ∙ ap (λ (u : List ℕ). laid u before) (sym (one t writing)))

  -- by the test whether a message was accepted
  pub stores_not : {before after : List ℕ} {r : Result ℕ Refused} → Asks W ed m (length before) r → is_ok r ≡ false → after ≡ before
      → StoresIn W ed m before after (told r)
  stores_not {r = Ok n} a e same = absurd (true≢false e)
  stores_not {r = Err e} a is same = rw same (stores_refused a)

  module _ {s : List ℕ} (one : (t : List ℕ) → W (cleared m) t → t ≡ s) where
    pub accepted_asked : {room : ℕ} {r : Result ℕ Refused} → Asks W ed m room r → is_ok r ≡ true → Accepted W ed m s room
    accepted_asked {r = Ok n} a e = accepted_row one a
    accepted_asked {r = Err e} a is = absurd (true≢false (sym is))

    pub stores_asked : {before after : List ℕ} {r : Result ℕ Refused} → Asks W ed m (length before) r → is_ok r ≡ true → after ≡ laid s before
        → StoresIn W ed m before after (told r)
    stores_asked {r = Ok n} a e laying = stores_accepted one a laying
    stores_asked {r = Err e} a is laying = absurd (true≢false (sym is))

-- the room of an accepted message's bytes
pub accepted_room : {W : Message → List ℕ → Type 0} {g : Form → ℕ → ℕ → List ℕ} {f : Structure → List ℕ} {ed : Edition} {m : Message}
    {before : List ℕ} → length m.entries ≡ 16 → Accepted W ed m (bytes_by g f m) (length before) → MessageRoom g f m before
accepted_room sixteen a = record { sixteen = sixteen; few = passed_number a.passing; room = a.enough }

-- a message's one label
pub one_label : {ed : Edition} (m : Message) (t : List ℕ) → Produces ed (cleared m) t → t ≡ text_of m
one_label m t p = writing_is p ∙ ap (text_by m.form m.bbb) (structures_back m.form m.bbb (structures_of m))
