-- The tree of keyboard entries: it has the language's words, no dead ends, and refuses by the table's rows.
use Rattle.std.specs.Prelude.{ℕ, suc, ◌+◌, ◌≡◌, refl, Bool, true, false, List, [], ◌∷◌, ◌++◌, length, get_or}
use Rattle.std.proofs.Common.{sym, ap, ◌∙◌, true≢false, append-nil, arith, length-append}
use Rattle.std.proofs.Math.Seq.{get_or-append_seam}
use Rattle.demand.specs.Numbers.{TRAILING}
use Rattle.demand.specs.Laws.Tree.{Tree, fatal, final, at, Ends, begins_of}
use Rattle.demand.specs.Laws.Content.{Position, Fits, nowhere, content, content_at, content_sound, Rows, Stands, fits_length}
use Rattle.text.specs.Bytes.{check_character}
use Rattle.label.specs.declared.Donation.{Donation}
use Rattle.structure.specs.Laws.Donation.{donation_of}
use Rattle.keyboard.specs.Entry.{Types, set_at, Fatal, row_character, row_check, row_trailing}
use Rattle.keyboard.specs.Laws.Positions.{entry_positions, entry_opens, entry_in, entry_out, entry_length, set_of, unlawful_at}

-- a complete entry: whatever follows is refused
abbrev pub complete : List ℕ → Tree Donation
complete c = final (donation_of c) (λ b. fatal TRAILING)

-- the language byte by byte
unfoldable pub entry : Tree Donation
entry = content entry_positions [] complete

-- every entry ends at its donation number
pub entry_ends : (d : Donation) (s : List ℕ) → Types d s → Ends (at entry s) d
unfolding entry
entry_ends d s w =
    let (fs, back) = entry_out w in
    let node : at (content entry_positions [] complete) s ≡ complete s = ap (at (content entry_positions [] complete)) (sym (append-nil s))
    ∙ content_at complete [] fs in
    rw node back

complete_stands : (c : List ℕ) → Fits entry_positions [] c → Stands Types Fatal (complete c) c
complete_stands c fs =
    let w = entry_in fs in
    let v = begins_of Types w in
    (v, (w, λ b. (c, b, refl, v, row_trailing (donation_of c, w) refl)))

-- a byte that does not fit has its row
entry_rows : (ρs : List Position) (π : Position) (σs : List Position) (c : List ℕ) (b : ℕ) → entry_positions ≡ ρs ++ π ∷ σs → Fits ρs [] c
    → Rows {M = Donation} Types Fatal π c c b
entry_rows ρs π σs c b is fs =
    let i = length c in
    let long : length ρs ≡ i = sym (fits_length fs) in
    let all : 14 ≡ length ρs + suc (length σs) = ap length is ∙ length-append ρs (π ∷ σs) in
    let here : get_or entry_positions i nowhere ≡ π =
    ap (λ (l : List Position). get_or l i nowhere) is
    ∙ ap (λ (j : ℕ). get_or (ρs ++ π ∷ σs) j nowhere) (sym long) ∙ get_or-append_seam ρs π σs nowhere
    in
    let set : π.set b ≡ set_at i b = ap (λ (ρ : Position). ρ.set b) (sym here) ∙ ap (λ (f : ℕ → Bool). f b) (set_of i) in
    record {
      outside = λ o. row_character (omega arith) (sym set ∙ o) refl;
      unlawful = λ o u.
          let (ending, refusal) = unlawful_at i c b (omega arith) (ap (λ (ρ : Position). ρ.rule c b) here ∙ u) in
          row_check ending (sym (ap (λ (j : ℕ). set_at j b) ending) ∙ sym set ∙ o) (ap (λ (ρ : Position). ρ.refusal) (sym here) ∙ refusal);
    }

pub entry_stands : Stands Types Fatal entry []
unfolding entry
entry_stands = content_sound Types Fatal entry_positions [] [] complete entry_opens complete_stands entry_rows

-- a byte is not both outside the check's set and in it
other_set : (p : List ℕ) (b : ℕ) → length p ≡ 13 → set_at (length p) b ≡ false → check_character b ≡ true → ⊥
other_set p b l o u = true≢false (sym u ∙ ap (λ (j : ℕ). set_at j b) (sym l) ∙ o)

-- no byte has two rows
pub one_row : (p : List ℕ) (b m n : ℕ) → Fatal p b m → Fatal p b n → m ≡ n
one_row p b m n (row_character l o e) (row_character k u f) = e ∙ sym f
one_row p b m n (row_character l o e) (row_check k u f) = absurd (other_set p b k o u)
one_row p b m n (row_character l o e) (row_trailing (d, w) f) = absurd (omega (arith, entry_length w))
one_row p b m n (row_check l o e) (row_character k u f) = absurd (other_set p b l u o)
one_row p b m n (row_check l o e) (row_check k u f) = e ∙ sym f
one_row p b m n (row_check l o e) (row_trailing (d, w) f) = absurd (omega (arith, entry_length w))
one_row p b m n (row_trailing (d, w) e) (row_character k u f) = absurd (omega (arith, entry_length w))
one_row p b m n (row_trailing (d, w) e) (row_check k u f) = absurd (omega (arith, entry_length w))
one_row p b m n (row_trailing v e) (row_trailing w f) = e ∙ sym f
