use Rattle.std.proofs.Common.{sym}
use Rattle.topology.proofs.NameText.{name-utf8}
use Rattle.topology.proofs.entry.as_name.Goals as goal

pub unreachable-requires : goal.unreachable-requires
unreachable-requires c = c.in-Err.ensures.cases.0 (name-utf8 c.args.field.now (sym c.if-not-is_name.ensures))
