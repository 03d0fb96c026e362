-- The place is within the longest message, and the three parts are the answer.
use Rattle.std.proofs.Common.{rules}
use Rattle.could_stand.specs.Laws.Each.{place_few, stands}
use Rattle.could_stand.proofs.could_stand.Goals as goal

pub front_of-requires : goal.front_of-requires
front_of-requires c = search (place_few, rules)

pub stand_each-byte-requires : goal.stand_each-byte-requires
stand_each-byte-requires c = search (place_few, rules)

pub returns : goal.returns
returns c = search (stands, rules)
