-- The text of a tally in a buffer.
use Rattle.std.specs.Prelude.{ℕ, ◌-◌, ◌≤◌, ◌≡◌, refl, Bool, true, not, List, [], ◌∷◌, ◌++◌, eqb, length, get_or, set, replicate}
use Rattle.std.proofs.Common.{ap, arith}
use Rattle.demand.specs.Numbers.{ACCEPTED}
use Rattle.text.specs.Buffer.{laid_at}
use Rattle.lines.specs.Lines.{LF}
use Rattle.lines.specs.Buffer.{Lays}
use Rattle.lines.specs.Laws.Laid.{lays_as}
use Rattle.tally_figures.specs.Tally.{forms, kinds, refusal_numbers}
use Rattle.tally_figures.specs.declared.Counters.{Counters}
use Rattle.tally_figures.specs.Counters.{shown}
use Rattle.tally_figures.specs.Laws.Tests.{all}
use Rattle.tally_text.specs.Text.{names, said, TallyText, ROWS, TEXT_ROOM}
use Rattle.tally_text.specs.Laws.Rows.{LaysRows}
use Rattle.tally_text.specs.Laws.Picked.{picked}

-- no more accepted lines than lines, and room for the text
pub record Sized (n : ℕ) (c : Counters) (out : List ℕ) : Type 0 where
  pub few : get_or c.numbers ACCEPTED 0 ≤ n
  pub room : TEXT_ROOM ≤ length out

pub record LaysTally (n : ℕ) (c : Counters) (stopped failed : Bool) (before after : List ℕ) (r : ℕ) : Type 0 where
  pub lays : Lays (TallyText (shown n c) stopped failed) 0 before after r
  pub near : r ≤ TEXT_ROOM

-- no byte of a name is LF, so that each row is one line
abbrev no_LF : ℕ → Bool
no_LF b = not (eqb b LF)

pub names_clean : all (all no_LF) names ≡ true
names_clean = refl

-- the counters in the tally's order, between the lines and what kept it from counting on
module _ {n s e : ℕ} (m : Counters) (t f : Bool) {a b c : List ℕ} (stop : s ≡ said t) (fail : e ≡ said f)
    (x : a ≡ laid_at 3 (picked m.forms forms)
    (set (set (set (set (set (replicate ROWS 0) 0 n) 1 (get_or m.numbers ACCEPTED 0)) 2 (n - get_or m.numbers ACCEPTED 0)) 29 s) 30 e))
    (y : b ≡ laid_at 6 (picked m.kinds kinds) a) (z : c ≡ laid_at 19 (picked m.numbers refusal_numbers) b) where
  in_order : c ≡ shown n m ++ said t ∷ said f ∷ []
  in_order = rw (z, y, x, stop, fail)

  pub lays_tally : {before after : List ℕ} {r : ℕ} → LaysRows names c before after r → LaysTally n m t f before after r
  lays_tally u =
      let long : length c ≡ ROWS = ap length in_order in
      record { lays = lays_as (λ w v. record { rows = rw in_order at v }) u.lays; near = omega (arith, u.near) }
