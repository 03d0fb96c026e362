-- What the current edition accepts, shown to that of 2001.
use Rattle.std.specs.Prelude.{ℕ, ◌≡◌, refl, true, List, [], ◌∷◌, ◌⊎◌, length}
use Rattle.std.proofs.Common.{sym, ap, ◌∙◌, subst, inl, inr, ⊎_elim, arith}
use Rattle.std.proofs.Math.Option.{some}
use Rattle.demand.specs.Demand.{refused}
use Rattle.demand.specs.Numbers.{ACCEPTED, IDENTIFIER}
use Rattle.text.specs.Bytes.{byte}
use Rattle.label.specs.declared.Structure.{Structure}
use Rattle.label.specs.declared.Kind.{Kind}
use Rattle.label.specs.declared.Edition.{Edition}
use Rattle.label.specs.declared.Message.{Message}
use Rattle.label.specs.declared.Form.{Form}
use Rattle.structure.specs.Structures.{kind_of, kinds_of, Among, number_of, LawfulIn, written}
use Rattle.structure.specs.Laws.Due.{of_edition, edition_among}
use Rattle.message.specs.declared.Reading.{Reading}
use Rattle.message.specs.Grammar.{message_of, empty_message, Later, later_kind, later_form, Produces, single, pair, compound}
use Rattle.message.specs.Reading.{Answers}
use Rattle.message.specs.Writing.{structure_at}
use Rattle.message.specs.Laws.Editions.{no_compounds}
use Rattle.message.specs.Laws.Donations.{lawful_in, pair_in}
use Rattle.message.specs.Laws.Tree.{message}
use Rattle.message.specs.Laws.Answers.{answer, answers_refused, one_result}

-- the later edition's identifiers lead the older one's tree to a refusal at their second byte
abbrev Unnamed : ℕ → ℕ → Type 0
Unnamed a b = (c : List ℕ) → answer Edition.Of2001 (a ∷ b ∷ c) ≡ refused IDENTIFIER 1

testing : Unnamed (byte "&") (byte "(")
unfolding answer message
testing c = refl

antigens : Unnamed (byte "=") (byte "\\")
unfolding answer message
antigens c = refl

lot : Unnamed (byte "&") (byte ")")
unfolding answer message
lot c = refl

flexible : Unnamed (byte "=") (byte "(")
unfolding answer message
flexible c = refl

head : Unnamed (byte "=") (byte "+")
unfolding answer message
head c = refl

abbrev Older : Message → List ℕ → Type 0
Older m s = Produces Edition.Of2001 m s ⊎ (answer Edition.Of2001 s ≡ refused IDENTIFIER 1)

module _ {m : Message} {s : List ℕ} where
  -- by the kind: it is of both editions, or its identifier is none of the older one's
  by_kind : (x : Structure) → LawfulIn Edition.Current x → m ≡ message_of Form.Single 0 (x ∷ []) → s ≡ written x → Older m s
  by_kind x h is e = each x h is e
    where
      both : (x : Structure) (k : Kind) → kind_of x ≡ some k → of_edition Edition.Of2001 (number_of k) ≡ true → LawfulIn Edition.Current x
          → m ≡ message_of Form.Single 0 (x ∷ []) → s ≡ written x → Older m s
      both x k kind t h is e = inl (single x (lawful_in h.lawful kind (edition_among Edition.Of2001 k t)) is e)

      later : (c : List ℕ) → answer Edition.Of2001 c ≡ refused IDENTIFIER 1 → s ≡ c → Older m s
      later c f e = inr (ap (answer Edition.Of2001) e ∙ f)

      each : (x : Structure) → LawfulIn Edition.Current x → m ≡ message_of Form.Single 0 (x ∷ []) → s ≡ written x → Older m s
      each Structure.Empty h is e = absurd h.lawful
      each (Structure.Donation d f) h is e = both (Structure.Donation d f) Kind.Donation refl refl h is e
      each (Structure.Groups g) h is e = both (Structure.Groups g) Kind.Groups refl refl h is e
      each (Structure.Product p) h is e = both (Structure.Product p) Kind.Product refl refl h is e
      each (Structure.Expiry d) h is e = both (Structure.Expiry d) Kind.Expiry refl refl h is e
      each (Structure.ExpiryTime d t) h is e = both (Structure.ExpiryTime d t) Kind.ExpiryTime refl refl h is e
      each (Structure.Collection d) h is e = both (Structure.Collection d) Kind.Collection refl refl h is e
      each (Structure.CollectionTime d t) h is e = both (Structure.CollectionTime d t) Kind.CollectionTime refl refl h is e
      each (Structure.Production d) h is e = both (Structure.Production d) Kind.Production refl refl h is e
      each (Structure.ProductionTime d t) h is e = both (Structure.ProductionTime d t) Kind.ProductionTime refl refl h is e
      each (Structure.Testing t) h is e = later _ (testing _) e
      each (Structure.Antigens a) h is e = later _ (antigens _) e
      each (Structure.Lot l) h is e = later _ (lot _) e
      each (Structure.Flexible f d t) h is e = later _ (flexible _) e
      each (Structure.Antigens2001 a) h is e = both (Structure.Antigens2001 a) Kind.Antigens2001 refl refl h is e

  in_older : Produces Edition.Current m s → Older m s
  in_older (single x h is e) = by_kind x h is e
  in_older (pair x y h g p is e) = inl (pair_in Edition.Of2001 x y h.lawful g.lawful h.is g.is p is e)
  in_older (compound c bbb xs lo hi small hs d is e) = inr (ap (answer Edition.Of2001) e ∙ head _)

  pub shown : (r : Reading) → Produces Edition.Current m s → Answers Edition.Of2001 s r
      → (r ≡ record { message = m; place = length s; refusal = ACCEPTED }) ⊎ (r ≡ record { message = empty_message; place = 1; refusal = IDENTIFIER })
  shown r w x = ⊎_elim (λ v. inl (same v)) (λ e. inr (refuses e)) (in_older w)
    where
      same : Produces Edition.Of2001 m s → r ≡ record { message = m; place = length s; refusal = ACCEPTED }
      same v =
          one_result Edition.Of2001 s r record { message = m; place = length s; refusal = ACCEPTED } x
          record { right = (v, refl); empty = λ f. absurd (f refl) }

      refuses : answer Edition.Of2001 s ≡ refused IDENTIFIER 1 → r ≡ record { message = empty_message; place = 1; refusal = IDENTIFIER }
      refuses e =
          one_result Edition.Of2001 s r record { message = empty_message; place = 1; refusal = IDENTIFIER } x
          (answers_refused e record { refusal = refl; place = refl; nothing = refl })

  -- a message of a later kind or form has no writing in the older edition
  not_older : Later m → Produces Edition.Of2001 m s → ⊥
  not_older (later_kind x k is kind not) (single y h same e) =
      let one : x ≡ y = ap (λ (m : Message). structure_at m 0) (sym is ∙ same) in
      let kinds : some h.kind ≡ some k = sym h.is ∙ ap kind_of (sym one) ∙ kind in
      let among : h.kind ≡ k = cc in
      not (subst (λ (l : Kind). Among l (kinds_of Edition.Of2001)) among h.among)
  not_older (later_kind x k is kind not) (pair y z h g p same e) =
      let n : ◌≡◌ {A = ℕ} 1 2 = ap (λ (m : Message). m.count) (sym is ∙ same) in omega arith
  not_older (later_kind x k is kind not) (compound c bbb xs lo hi small hs d same e) = no_compounds c
  not_older (later_form f) (single y h same e) = form_clash (sym (ap (λ (m : Message). m.form) same) ∙ f)
    where
      form_clash : Form.Single ≡ Form.Compound → ⊥
      form_clash g = let z : ◌≡◌ {A = ℕ} 0 1 = cc in omega arith
  not_older (later_form f) (pair y z h g p same e) = form_clash (sym (ap (λ (m : Message). m.form) same) ∙ f)
    where
      form_clash : Form.Pair ≡ Form.Compound → ⊥
      form_clash g = let z : ◌≡◌ {A = ℕ} 0 1 = cc in omega arith
  not_older (later_form f) (compound c bbb xs lo hi small hs d same e) = no_compounds c

  pub later_refused : (r : Reading) → Later m → Produces Edition.Current m s → Answers Edition.Of2001 s r
      → r ≡ record { message = empty_message; place = 1; refusal = IDENTIFIER }
  later_refused r l w x = ⊎_elim accepted (λ e. e) (shown r w x)
    where
      accepted : r ≡ record { message = m; place = length s; refusal = ACCEPTED }
          → r ≡ record { message = empty_message; place = 1; refusal = IDENTIFIER }
      accepted e = absurd (not_older l (subst (λ (q : Reading). Answers Edition.Of2001 s q) e x).right.0)
