use Rattle.std.proofs.Common.{◌≤◌}
use Rattle.te_model.specs.Network.{link_count}
use Rattle.ratio_certificate.specs.Steps.{AreWeightings}
use Rattle.ratio_certificate.specs.Weighting.{gap_in}
use Rattle.ratio_certificate.proofs.polish.polish.Given as goal

abbrev pub invariant-loop-step : goal.invariant-loop-step
invariant-loop-step l = AreWeightings l.problem.net.now l.problem.routing.now.routes l.problem.set.now l.links l.fn.list l.list × (l.from ≤ link_count l.problem.net.now)

abbrev pub decreases-loop-step : goal.decreases-loop-step
decreases-loop-step l = gap_in l.list
