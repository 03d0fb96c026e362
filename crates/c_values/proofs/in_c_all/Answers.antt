-- The entries passed are done, and the others are empty.
use Rattle.std.proofs.Common.{◌<◌, ◌≡◌, sym, arith, length, rules, length-take, get_or-take}
use Rattle.message.specs.Grammar.{no_entry}
use Rattle.c_values.specs.Values.{entry_in_c}
use Rattle.c_values.specs.Laws.Values.{trim_next}
use Rattle.c_values.proofs.in_c_all.Goals as goal

pub loop-i-preserved : goal.loop-i-preserved
loop-i-preserved c =
    let loop = c.loop-i in
    let m = c.args.message in
    let within : loop.i < m.count = omega (arith, length-take m.count m.entries) in
    let sixteen : length m.entries ≡ 16 = search rules in
    let next = trim_next entry_in_c m.entries loop.all loop.i sixteen (omega (arith, c.requires.within)) loop.invariant in
    rw c.in_c.ensures (rw (sym (get_or-take m.count m.entries loop.i no_entry within)) at next)
