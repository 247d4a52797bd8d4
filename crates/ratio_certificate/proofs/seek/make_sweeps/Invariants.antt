use Rattle.std.proofs.Common.{◌≤◌}
use Rattle.centred_steps.specs.Loads.{AreLoadsWithin}
use Rattle.centred_steps.specs.Ways.{AreLastLinks}
use Rattle.ratio_certificate.specs.Searching.{IsWeightSearch}
use Rattle.ratio_certificate.proofs.seek.make_sweeps.Given as goal

abbrev pub invariant-loop-i : goal.invariant-loop-i
invariant-loop-i l =
    IsWeightSearch l.problem.net.now l.problem.routing.now.routes l.problem.set.now l.shared l.search
    × AreLoadsWithin l.problem.net.now l.loads
    × AreLastLinks l.problem.net.now l.ways.lasts.items
    × (1 ≤ l.parts) × (l.parts ≤ 128)
