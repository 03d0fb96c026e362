-- What follows of the shelf list: each contract leaves one answer and one list, and the calls together are those of a plain set.
use Rattle.std.specs.Prelude.{ℕ, ◌≡◌, refl, List, map, length}
use Rattle.std.proofs.Common.{sym, ◌∙◌, arith}
use Rattle.label.specs.declared.Donation.{Donation}
use Rattle.label.specs.declared.Product.{Product}
use Rattle.label.specs.declared.Flags.{Flags}
use Rattle.label.specs.declared.Structure.{Structure}
use Rattle.structure.specs.Donation.{LawfulDonation, plain}
use Rattle.structure.specs.Structures.{Lawful}
use Rattle.shelf.specs.declared.ShelfUnit.{ShelfUnit}
use Rattle.shelf.specs.declared.Record.{Record}
use Rattle.shelf.specs.declared.ShelfAnswer.{ShelfAnswer}
use Rattle.shelf.specs.Shelf.{LooksUp, Removes, Enters}
use Rattle.shelf.specs.Plain.{Call, Does, Runs, Twice, NoneTwice, Units, AnswersAll, units}
use Rattle.shelf.specs.Laws.Calls.{looks_up, removes, enters, only_looks_up, only_removes, only_enters}
use Rattle.shelf.specs.Laws.Plain as laws

-- each donation number that may be entered is that of some 001, with flags 00 at least
pub some_001 : (d : Donation) → LawfulDonation d → (f : Flags) × Lawful (Structure.Donation d f)
some_001 d h = (record { number = 0 }, (h, plain (omega arith)))

-- every call has an answer, on whichever list
pub some_answer : (rs : List Record) (c : Call) → (a : ShelfAnswer) × (zs : List Record) × Does rs c a zs
some_answer rs (Call.enter u) = (_, _, Does.enters (enters rs u))
some_answer rs (Call.look_up d p) = (_, _, Does.looks_up (looks_up rs d p))
some_answer rs (Call.remove d p) = (_, _, Does.removes (removes rs d p))

-- one answer to a look_up
pub one_look_up : (rs : List Record) (d : Donation) (p : Product) (a b : ShelfAnswer) → LooksUp rs d p a → LooksUp rs d p b → a ≡ b
one_look_up rs d p a b x y = only_looks_up rs d p x ∙ sym (only_looks_up rs d p y)

-- one answer to a removal, and one list
pub one_removal : (rs : List Record) (d : Donation) (p : Product) (a b : ShelfAnswer) (ys zs : List Record) → Removes rs d p a ys → Removes rs d p b zs
    → (a ≡ b) × (ys ≡ zs)
one_removal rs d p a b ys zs x y =
    ((only_removes rs d p x).0 ∙ sym (only_removes rs d p y).0, (only_removes rs d p x).1 ∙ sym (only_removes rs d p y).1)

-- one answer to an entry, and one list
pub one_entry : (rs : List Record) (u : ShelfUnit) (a b : ShelfAnswer) (ys zs : List Record) → Enters rs u a ys → Enters rs u b zs
    → (a ≡ b) × (ys ≡ zs)
one_entry rs u a b ys zs x y = ((only_enters rs u x).0 ∙ sym (only_enters rs u y).0, (only_enters rs u x).1 ∙ sym (only_enters rs u y).1)

-- no call makes a unit stand twice, on whichever list
pub never_twice : (rs zs : List Record) (c : Call) (a : ShelfAnswer) → Does rs c a zs → (d : Donation) (p : Product) → Twice d p zs → Twice d p rs
never_twice rs zs c a does d p t = laws.never_twice does d p t

-- where no unit stands twice, a sequence of calls gets the numbers that a plain set of the list's units gives, which holds as many as the list has
-- records; and after it no unit stands twice
pub as_a_plain_set : (rs zs : List Record) (cs : List Call) (answers : List ShelfAnswer) → NoneTwice rs → Runs rs cs answers zs
    → AnswersAll (length rs) (units rs) cs (map (λ (a : ShelfAnswer). a.refusal) answers) × NoneTwice zs
as_a_plain_set rs zs cs answers single runs = laws.as_plain (length rs) refl single (record { often = λ x. refl; size = refl }) runs

-- and a plain set has no other answers
pub one_set : (n : ℕ) (s : Units) (cs : List Call) (a b : List ℕ) → AnswersAll n s cs a → AnswersAll n s cs b → a ≡ b
one_set n s cs a b x y = laws.one_all n x y
