-- Reading a label structure by structure: the trees of its spots, and what code finds in the part of the scan from the cursor on.
use Rattle.std.specs.Prelude.{ℕ, suc, ◌-◌, ◌≡◌, refl, List, [], ◌∷◌, ◌++◌, Result, Ok, Err}
use Rattle.std.proofs.Common.{ap, arith}
use Rattle.std.proofs.Math.Option.{Option, some}
use Rattle.demand.specs.Demand.{Answer, accepted, refused}
use Rattle.demand.specs.Numbers.{IDENTIFIER, TRAILING}
use Rattle.demand.specs.declared.Stop.{Stop}
use Rattle.demand.specs.Laws.Tree.{Tree, fatal, at}
use Rattle.label.specs.declared.Structure.{Structure}
use Rattle.label.specs.declared.Kind.{Kind}
use Rattle.label.specs.declared.Edition.{Edition}
use Rattle.label.specs.declared.Message.{Message}
use Rattle.message_reader.specs.declared.Taken.{Taken}
use Rattle.message.specs.declared.Reading.{Reading}
use Rattle.message.specs.Reading.{Answers}
use Rattle.structure_reader.specs.declared.Found.{Found}
use Rattle.structure.specs.declared.Spot.{Spot}
use Rattle.structure.specs.Structures.{kind_of, kinds_of}
use Rattle.structure.specs.Laws.Due.{due}
use Rattle.structure_reader.specs.Laws.Found.{Finds}
use Rattle.structure.specs.Laws.Spot.{kinds_at, refusal_at, miss_of}
use Rattle.message.specs.Grammar.{donations}
use Rattle.message.specs.Laws.Tree.{several, lone, hoping, paired, seconds}
use Rattle.message.specs.Laws.Answers.{answer, answers_accepted, answers_refused}
use Rattle.message_reader.specs.Laws.Hope.{second_none}
use Rattle.message_reader.specs.Laws.Loop.{Stage, Trees, node, Gives, Dues, Takes}

-- a place for a first structure of an edition's kinds
abbrev first_of : Edition → Tree Message
first_of ed = due (kinds_of ed) IDENTIFIER (λ a b. fatal IDENTIFIER) lone

-- labels as trees
abbrev pub labels : Trees
labels =
    record {
      first = first_of Edition.Current;
      first_2001 = first_of Edition.Of2001;
      several = several;
      second = hoping;
      complete = λ bbb xs. refl;
      asks = λ x b l j. refl;
      hopeless = λ x b e. ap (λ (ks : List Kind). at (due ks TRAILING (λ a b. fatal TRAILING) (paired x)) (b ∷ [])) (second_none x e).0;
    }

-- a structure is due at a spot
abbrev due_at : Spot → (Structure → Tree Message) → Tree Message
due_at spot go = due (kinds_at spot) (refusal_at spot) (λ a b. fatal (miss_of spot a b)) go

hoping_due : (x : Structure) {k : Kind} → kind_of x ≡ some k → hoping x ≡ due (seconds (some k)) TRAILING (λ a b. fatal TRAILING) (paired x)
hoping_due x e = ap (λ (o : Option Kind). due (seconds o) TRAILING (λ a b. fatal TRAILING) (paired x)) e

-- and what follows it is known
pub node_due : (spot : Spot) (left bbb : ℕ) (xs : List Structure) → Stage spot (suc left) xs
    → node labels spot (suc left) bbb xs ≡ due_at spot (λ y. node labels spot left bbb (xs ++ y ∷ []))
node_due Spot.First left bbb xs (l, e) = rw e
node_due Spot.First2001 left bbb xs (l, e) = rw e
node_due Spot.Within left bbb xs (h, d) = rw d
node_due Spot.Holding left bbb xs (h, d) = let some : donations xs ≡ suc (donations xs - 1) = omega arith in rw some
node_due Spot.AfterDonation left bbb xs (x, l, e, k) = rw e (hoping_due x k)
node_due Spot.AfterProduct left bbb xs (x, l, e, k) = rw e (hoping_due x k)

-- labels structure by structure
abbrev pub label_dues : Dues labels
label_dues = record { due = due_at; is = node_due }

-- what code finds of a structure; in a scan its bytes are those of the label
abbrev pub taken : Result Found Stop → Result Taken Stop
taken (Ok f) = Ok record { structure = f.structure; long = f.long; past = f.long }
taken (Err e) = Err e

pub taken_due : {spot : Spot} {s : List ℕ} (f : Result Found Stop) → Finds spot s f → Takes (label_dues.due spot) s (taken f)
taken_due (Ok f) g = record { follows = g.follows; reaches = (g.reaches.0, g.reaches.1, g.reaches.2, omega arith) }
taken_due (Err Stop.Short) g = record { follows = g.follows; reaches = tt }
taken_due (Err (Stop.Refused r i)) g = record { follows = g.follows; reaches = g.reaches }

-- a reading that gives what is to be answered
pub gives_answers : {ed : Edition} {s : List ℕ} {r : Reading} (a : Answer Message) → answer ed s ≡ a → Gives a r → Answers ed s r
gives_answers {ed} {s} (accepted m k) e g = rw g (answers_accepted ed s record { message = m; place = k; refusal = 0 } e refl)
gives_answers (refused n k) e g = answers_refused e g
