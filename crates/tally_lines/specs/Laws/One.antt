-- The contracts leave one answer, and what a block leaves is a step of a run.
use Rattle.std.specs.Prelude.{ℕ, ◌≡◌, Bool, cond, List, [], length, take, drop}
use Rattle.std.proofs.Common.{sym, ap, ◌∙◌, take_at}
use Rattle.std.proofs.Math.Seq.{slice}
use Rattle.text.specs.Buffer.{laid}
use Rattle.lines.specs.Lines.{left_from, judged}
use Rattle.tally_figures.specs.declared.Counters.{Counters}
use Rattle.tally_figures.specs.Laws.Counters.{one_addition}
use Rattle.tally_lines.specs.declared.Progress.{Progress}
use Rattle.tally_lines.specs.Blocks.{Counted, CountsBlock, Taken, Closed}

-- lines are counted in one way
module _ {limit n next next' : ℕ} {ls : List (List ℕ)} {a b b' : Counters} {t t' : Bool} (x : Counted limit n ls a b next t)
    (y : Counted limit n ls a b' next' t') where
  pub one_counted : (b ≡ b') × (next ≡ next') × (t ≡ t')
  one_counted = (one_addition x.adds y.adds, x.counted ∙ sym y.counted, x.says ∙ sym y.says)

module _ {limit fill : ℕ} {p r r' : Progress} {buffer u u' : List ℕ} {a b b' : Counters} (x : Taken limit p fill buffer u a b r)
    (y : Taken limit p fill buffer u' a b' r') where
  pub one_taken : (u ≡ u') × (b ≡ b') × (r ≡ r')
  one_taken =
      let (after, counted, said) = one_counted x.takes.lines y.takes.lines in
      let left = judged (left_from (take p.kept buffer) (slice p.kept fill buffer)) in
      let keeps : x.keeps ≡ y.keeps = x.takes.rest ∙ ap (λ (t : Bool). cond t [] left) said ∙ sym y.takes.rest in
      let kept = x.kept ∙ ap length keeps ∙ sym y.kept in (
        x.front ∙ ap (λ (k : List ℕ). laid k buffer) keeps ∙ sym y.front,
        after,
        λ i. record { lines = counted i; kept = kept i; stopped = said i },
      )

pub one_closed : {limit : ℕ} {p r r' : Progress} {buffer : List ℕ} {a b b' : Counters} → Closed limit p buffer a b r
    → Closed limit p buffer a b' r' → (b ≡ b') × (r ≡ r')
one_closed x y =
    let (after, counted, said) = one_counted x.lines y.lines in
    let kept = x.kept ∙ sym y.kept in
    (after, λ i. record { lines = counted i; kept = kept i; stopped = said i })

-- the next block finds the kept bytes in front of the buffer
pub taken_takes : {limit fill : ℕ} {p r : Progress} {buffer buffer' : List ℕ} {a b : Counters} → Taken limit p fill buffer buffer' a b r
    → CountsBlock limit p.lines (take p.kept buffer) (slice p.kept fill buffer) a b r.lines (take r.kept buffer') r.stopped
taken_takes {r = r} {buffer} x =
    let front = ap (take r.kept) x.front ∙ take_at x.keeps (drop (length x.keeps) buffer) r.kept (sym x.kept) in
    rw front x.takes
