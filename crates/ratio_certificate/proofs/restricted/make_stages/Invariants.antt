use Rattle.std.proofs.Common.{◌≤◌}
use Rattle.centred_steps.specs.Loads.{AreLoadsWithin}
use Rattle.centred_steps.specs.Ways.{AreLastLinks}
use Rattle.ratio_certificate.specs.Restricted.{IsRestrictedSearch}
use Rattle.ratio_certificate.proofs.restricted.make_stages.Given as goal

abbrev pub invariant-loop : goal.invariant-loop
invariant-loop l =
    IsRestrictedSearch l.problem.net.now l.problem.routing.now.routes l.problem.set.now l.shared l.at
    × AreLastLinks l.problem.net.now l.ways.lasts.items
    × AreLoadsWithin l.problem.net.now l.loads
    × (1 ≤ l.stage.parts)
    × (l.stage.parts ≤ 128)
