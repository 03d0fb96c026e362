-- What is shown of an entry, as the bytes of the scan that are copied.
use Rattle.std.specs.Prelude.{ℕ, ◌+◌, ◌-◌, ◌≤◌, ◌≡◌, refl, cond, List, [], ◌∷◌, ◌++◌, eqb, length, take, drop}
use Rattle.std.proofs.Common.{sym, ap, ap₂, ◌∙◌, append_assoc, append-nil, arith, length-append, take-append-drop, take_at, drop_at, drop-drop}
use Rattle.text.specs.Bytes.{byte}
use Rattle.text.specs.Decimal.{digits}
use Rattle.label.specs.declared.Structure.{Structure}
use Rattle.label.specs.declared.Entry.{Entry}
use Rattle.structure.specs.Structures.{identifier, Lawful, written}
use Rattle.structure.specs.Laws.Kinds.{number_in, structure_out, spelled}
use Rattle.message.specs.Places.{bytes_at}
use Rattle.extract_line.specs.Extract.{shown}
use Rattle.extract_line.specs.Laws.Shown.{Seen, donation, whole, seen}

-- an entry has its structure's length
pub record Measured (e : Entry) : Type 0 where
  pub lawful : Lawful e.structure
  pub long : e.length ≡ length (written e.structure)

-- and its bytes stand in the scan
pub record Stands (s : List ℕ) (e : Entry) : Type 0 where
  pub measured : Measured e
  pub inside : e.place + e.length ≤ length s
  pub bytes : bytes_at s e ≡ written e.structure

-- how many bytes stand before what is shown of a kind with a number, and how many are shown of a structure of that kind
abbrev pub before_shown : ℕ → ℕ
before_shown number = cond (eqb number 1) 1 2

abbrev pub shown_of : ℕ → ℕ → ℕ
shown_of number long = cond (eqb number 1) 7 (long - 2)

-- what is shown stands in the writing
record Within (x : Structure) : Type 0 where
  pub front : List ℕ
  pub behind : List ℕ
  pub is : written x ≡ front ++ (shown x ++ behind)
  pub skips : length front ≡ before_shown (number_in x)
  pub size : length (shown x) ≡ shown_of (number_in x) (length (written x))

within : (x : Structure) → Lawful x → Within x
within x h = by (seen x) h
  where
    by : {x : Structure} → Seen x → Lawful x → Within x
    by (donation d f) h =
        record { front = byte "=" ∷ []; behind = digits 6 d.sequence ++ digits 2 f.number; is = refl; skips = refl; size = refl }
    by {x} (whole all same other long few) h =
        let (k, b, r) = structure_out x h in
        let two : length (identifier x) ≡ 2 = ap length r.named in
        record {
          front = identifier x;
          behind = [];
          is = sym (take-append-drop 2 (written x)) ∙ ap (identifier x ++◌) (sym all ∙ sym (append-nil (shown x)));
          skips = rw other two;
          size = rw other (omega (arith, ap length all, ap length (spelled r)));
        }

module _ {e : Entry} (m : Measured e) where
  abbrev there : Within e.structure
  there = within e.structure m.lawful

  pub shown_size : {n size : ℕ} → n ≡ number_in e.structure → size ≡ shown_of n e.length → size ≡ length (shown e.structure)
  shown_size named is = is ∙ ap₂ shown_of named m.long ∙ sym there.size

  -- it lies within the structure
  module _ {n skip : ℕ} (named : n ≡ number_in e.structure) (skips : skip ≡ before_shown n) where
    before_is : length there.front ≡ skip
    before_is = there.skips ∙ ap before_shown (sym named) ∙ sym skips

    pub shown_within : skip + length (shown e.structure) ≤ e.length
    shown_within =
        let parts = ap length there.is ∙ length-append there.front (shown e.structure ++ there.behind) in
        omega (arith, m.long, parts, length-append (shown e.structure) there.behind, before_is)

    -- and so it is found in the scan
    pub shown_copied : (s : List ℕ) → bytes_at s e ≡ written e.structure
        → take (length (shown e.structure)) (drop (e.place + skip) s) ≡ shown e.structure
    shown_copied s b =
        let w = there in
        let c = shown e.structure in
        let rest = drop e.length (drop e.place s) in
        let from : drop e.place s ≡ w.front ++ (c ++ (w.behind ++ rest)) =
        sym (take-append-drop e.length (drop e.place s))
        ∙ ap (◌++ rest) (b ∙ w.is)
        ∙ append_assoc w.front (c ++ w.behind) rest
        ∙ ap (w.front ++◌) (append_assoc c w.behind rest)
        in
        let past : drop (e.place + skip) s ≡ c ++ (w.behind ++ rest) =
        sym (drop-drop skip e.place s) ∙ ap (drop skip) from ∙ drop_at w.front (c ++ (w.behind ++ rest)) skip before_is in
        ap (take (length c)) past ∙ take_at c (w.behind ++ rest) (length c) refl

  pub measured_long : 2 ≤ e.length
  measured_long =
      let x = e.structure in
      let (k, b, r) = structure_out x m.lawful in
      omega (arith, m.long, ap length (spelled r))

-- the part of the scan that is copied
pub shown_part : {s : List ℕ} {e : Entry} {n size skip : ℕ} → Stands s e → n ≡ number_in e.structure → size ≡ shown_of n e.length
    → skip ≡ before_shown n
    → (e.place + skip + size ≤ length s) × (take (e.place + skip + size - (e.place + skip)) (drop (e.place + skip) s) ≡ shown e.structure)
shown_part {s} {e} {size = size} {skip = skip} st named is skips =
    let x = e.structure in
    let long = shown_size st.measured named is in
    let part : e.place + skip + size - (e.place + skip) ≡ length (shown x) = omega arith in (
      omega (arith, st.inside, shown_within st.measured named skips),
      ap (λ (k : ℕ). take k (drop (e.place + skip) s)) part ∙ shown_copied st.measured named skips s st.bytes,
    )
