-- What follows of counting in blocks: one answer to every block and to the end.
use Rattle.std.specs.Prelude.{ℕ, ◌≡◌, List}
use Rattle.tally_figures.specs.declared.Counters.{Counters}
use Rattle.tally_lines.specs.declared.Progress.{Progress}
use Rattle.tally_lines.specs.Blocks.{Taken, Closed}
use Rattle.tally_lines.specs.Laws.One as one

-- `take_block`'s contract leaves one buffer, one state of the counters and one answer
pub one_block : (limit fill : ℕ) (p r r' : Progress) (buffer u u' : List ℕ) (a b b' : Counters) → Taken limit p fill buffer u a b r
    → Taken limit p fill buffer u' a b' r' → (u ≡ u') × (b ≡ b') × (r ≡ r')
one_block limit fill p r r' buffer u u' a b b' x y = one.one_taken x y

-- and `take_end`'s one state of the counters and one answer
pub one_end : (limit : ℕ) (p r r' : Progress) (buffer : List ℕ) (a b b' : Counters) → Closed limit p buffer a b r
    → Closed limit p buffer a b' r' → (b ≡ b') × (r ≡ r')
one_end limit p r r' buffer a b b' x y = one.one_closed x y
