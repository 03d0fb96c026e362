-- What was passed is done.
use Rattle.std.proofs.Common.{rules, ◌≡◌, length, arith}
use Rattle.c_values.specs.Values.{entry_meant}
use Rattle.c_values.specs.Laws.Values.{filled_next}
use Rattle.c_values.proofs.entries_of.Goals as goal

pub loop-i-preserved : goal.loop-i-preserved
loop-i-preserved c =
    let loop = c.loop-i in
    let xs = c.args.structures in
    let sixteen : length xs ≡ 16 = search rules in
    rw c.entry_of.ensures (filled_next entry_meant _ xs loop.all loop.i sixteen (omega arith) loop.invariant)
