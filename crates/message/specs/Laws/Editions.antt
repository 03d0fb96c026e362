-- What the older edition accepts, the current one accepts as the same message, or it is the antigen structure of 2001.
use Rattle.std.specs.Prelude.{ℕ, ◌≡◌, refl, true, List, ◌∷◌, ◌++◌, ◌⊎◌}
use Rattle.std.proofs.Common.{ap, ◌∙◌, subst, inl, inr, ⊎_elim, arith}
use Rattle.std.proofs.Math.Option.{Option, some}
use Rattle.demand.specs.Numbers.{IDENTIFIER}
use Rattle.demand.specs.Laws.Tree.{Tree, fatal, Ends, at, at_fatal}
use Rattle.demand.specs.Laws.Tree as tree
use Rattle.text.specs.Bytes.{byte}
use Rattle.label.specs.declared.Structure.{Structure}
use Rattle.label.specs.declared.Kind.{Kind}
use Rattle.label.specs.declared.Edition.{Edition}
use Rattle.label.specs.declared.Message.{Message}
use Rattle.structure.specs.Structures.{kind_of, kinds_of, Among, number_of, body, identified, written}
use Rattle.structure.specs.Laws.Due.{each_among, of_edition, edition_among}
use Rattle.message.specs.Grammar.{HasCompounds, current, Produces, single, pair, compound}
use Rattle.message.specs.Refusals.{Fatal}
use Rattle.message.specs.Laws.Donations.{lawful_in, pair_in}
use Rattle.message.specs.Laws.Tree.{message, message_out}

one_reading : {m n : Message} {s : List ℕ} → Produces Edition.Current m s → Produces Edition.Current n s → m ≡ n
one_reading v w =
    tree.one_reading (Produces Edition.Current) (Fatal Edition.Current) (message Edition.Current) (message_out Edition.Current) v w

-- the kinds of 2001 are the current edition's, but for one
abbrev Still : Kind → Type 0
Still k = (of_edition Edition.Current (number_of k) ≡ true) ⊎ (k ≡ Kind.Antigens2001)

still : {k : Kind} → Among k (kinds_of Edition.Of2001) → Still k
still m =
    each_among Still
    (inl refl, (inl refl, (inl refl, (inl refl, (inl refl, (inl refl, (inl refl, (inl refl, (inl refl, (inr refl, tt)))))))))) m

-- ={ leads the current edition's tree to a refusal
unopened : (c : List ℕ) → at (message Edition.Current) (byte "=" ∷ byte "{" ∷ c) ≡ fatal IDENTIFIER
unfolding message
unopened c = at_fatal IDENTIFIER c

not_current : {m : Message} {s : List ℕ} (x : Structure) → kind_of x ≡ some Kind.Antigens2001 → s ≡ written x → Produces Edition.Current m s → ⊥
not_current {m} {s} x kind e w =
    let node : at (message Edition.Current) s ≡ fatal IDENTIFIER =
    ap (at (message Edition.Current)) (e ∙ ap (λ (o : Option Kind). identified o ++ body x) kind) ∙ unopened (body x) in
    subst (λ (t : Tree Message). Ends t m) node (message_out Edition.Current m s w)

-- that of 2001 has no compounds
only_current : {ed : Edition} → HasCompounds ed → ed ≡ Edition.Current
only_current current = refl

pub no_compounds : HasCompounds Edition.Of2001 → ⊥
no_compounds c = let e : Edition.Of2001 ≡ Edition.Current = only_current c in let z : ◌≡◌ {A = ℕ} 0 1 = cc in omega arith

-- what both accept is one message
pub same_values : {m n : Message} {s : List ℕ} → Produces Edition.Current m s → Produces Edition.Of2001 n s → m ≡ n
same_values {m} {n} {s} v (single x h is e) =
    ⊎_elim (λ t. one_reading v (single x (lawful_in h.lawful h.is (edition_among Edition.Current h.kind t)) is e))
    (λ k. absurd (not_current x (h.is ∙ ap some k) e v)) (still h.among)
same_values v (pair x y h g p is e) = one_reading v (pair_in Edition.Current x y h.lawful g.lawful h.is g.is p is e)
same_values v (compound c bbb xs lo hi small hs d is e) = absurd (no_compounds c)
