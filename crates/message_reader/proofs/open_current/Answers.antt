-- = and + open an 023; any other beginning is a structure's.
use Rattle.std.proofs.Common.{sym, ◌∙◌, inl, inr}
use Rattle.message_reader.specs.Laws.Start.{start_plain}
use Rattle.message_reader.proofs.open_current.Goals as goal

pub returns-then-scan-lt2 : goal.returns-then-scan-lt2
returns-then-scan-lt2 c = rw c.plain.ensures (start_plain c.args.scan.now (inl c.if-scan-lt2.true))

pub returns-else-is_head : goal.returns-else-is_head
returns-else-is_head c =
    let other = sym c.is_head.ensures ∙ c.if-is_head.false in
    rw c.plain-else-is_head.ensures (start_plain c.args.scan.now (inr other))
