-- What the writer looks at: two messages with one form, bbb and number and the same structures within it have the same rows.
use Rattle.std.specs.Prelude.{ℕ, ◌<◌, ◌≡◌, List, get_or, take}
use Rattle.std.proofs.Common.{sym, ap, ◌∙◌, subst, arith, get_or-take}
use Rattle.std.proofs.Math.ListN.{get_or-map}
use Rattle.label.specs.declared.Structure.{Structure}
use Rattle.label.specs.declared.Edition.{Edition}
use Rattle.label.specs.declared.Form.{Form}
use Rattle.label.specs.declared.Entry.{Entry}
use Rattle.label.specs.declared.Message.{Message}
use Rattle.structure.specs.Structures.{kind_of}
use Rattle.message.specs.declared.Written.{Written}
use Rattle.message.specs.Grammar.{no_entry, message_of}
use Rattle.message.specs.Writing.{structure_at, LawfulBbb, of_compound, of_other, Shapely, Given, structures_of, cleared, row_shape}
use Rattle.message.specs.Writing.{row_field, row_room, row_accepted, Fielded, StoresIn, Alike}
use Rattle.message.specs.Laws.Write.{Tongue, one_stored}

-- a structure within the number, by the list of them
at_listed : (m : Message) (i : ℕ) → i < m.count → structure_at m i ≡ get_or (structures_of m) i Structure.Empty
at_listed m i l =
    let f : Entry → Structure = λ e. e.structure in
    ap f (sym (get_or-take m.count m.entries i no_entry l)) ∙ sym (get_or-map f (take m.count m.entries) i no_entry)

other_way : {m n : Message} → Alike m n → Alike n m
other_way a = record { form = sym a.form; bbb = sym a.bbb; count = sym a.count; structures = sym a.structures }

module _ {m n : Message} (a : Alike m n) where
  within : {i : ℕ} → i < n.count → i < m.count
  within {i} l = subst (λ (k : ℕ). i < k) (sym a.count) l

  same_at : (i : ℕ) → i < n.count → structure_at n i ≡ structure_at m i
  same_at i l = at_listed n i l ∙ ap (λ (xs : List Structure). get_or xs i Structure.Empty) (sym a.structures) ∙ sym (at_listed m i (within l))

  same_cleared : cleared m ≡ cleared n
  same_cleared =
      ap (λ (f : Form). message_of f m.bbb (structures_of m)) a.form
      ∙ ap (λ (b : ℕ). message_of n.form b (structures_of m)) a.bbb
      ∙ ap (message_of n.form n.bbb) a.structures

  same_bbb : LawfulBbb m → LawfulBbb n
  same_bbb (of_compound f l) = of_compound (sym a.form ∙ f) (rw a.bbb at l)
  same_bbb (of_other e) = of_other (sym a.bbb ∙ e)

  same_shape : {ed : Edition} → Shapely ed m → Shapely ed n
  same_shape h = record {
    model = h.model;
    text = h.text;
    produced = h.produced;
    same = record {
      form = sym a.form ∙ h.same.form;
      count = sym a.count ∙ h.same.count;
      kinds = λ i k l e. h.same.kinds i k (within l) (ap kind_of (sym (same_at i l)) ∙ e);
    };
    bbb = same_bbb h.bbb;
  }

  same_given : {ed : Edition} (i : ℕ) → i < n.count → Given ed (structure_at m i) → Given ed (structure_at n i)
  same_given {ed} i l g = subst (Given ed) (sym (same_at i l)) g

  same_fields : {ed : Edition} → Fielded ed m → Fielded ed n
  same_fields fs i l = same_given i l (fs i (within l))

module _ {ed : Edition} {W : Message → List ℕ → Type 0} {m n : Message} (a : Alike m n) where
  same_stored : {before after : List ℕ} {w : Written} → StoresIn W ed m before after w → StoresIn W ed n before after w
  same_stored (row_shape f e p) = row_shape (λ h. f (same_shape (other_way a) h)) e p
  same_stored (row_field h i l g b e p) =
      let k = within (other_way a) l in
      row_field (same_shape a h) i k (λ x. g (same_given (other_way a) _ l x)) (λ j z. same_given a j (omega arith) (b j z)) e p
  same_stored (row_room h fs s w l e p) = row_room (same_shape a h) (same_fields a fs) s (rw (same_cleared a) at w) l e p
  same_stored (row_accepted h fs s w l e p) = row_accepted (same_shape a h) (same_fields a fs) s (rw (same_cleared a) at w) l e p

  -- so the writer's contract gives them one answer and one buffer
  pub alike_stored : Tongue ed W → {before after after' : List ℕ} {v w : Written} → StoresIn W ed m before after v → StoresIn W ed n before after' w
      → (v ≡ w) × (after ≡ after')
  alike_stored τ {before} {after} {after'} {v} {w} x y = one_stored τ n before after after' v w (same_stored x) y
