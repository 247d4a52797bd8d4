use Rattle.std.proofs.Common.{◌≡◌}
use Rattle.serde_json.specs.View.{members_view}
use Rattle.plan.specs.Plan.{knows_all}
use Rattle.plan.proofs.reader.knows_all.Given as goal

-- the members that are left decide
abbrev pub invariant-loop-key : goal.invariant-loop-key
invariant-loop-key l = knows_all (members_view l.members.entries) ≡ knows_all (members_view l.key-iterator)
