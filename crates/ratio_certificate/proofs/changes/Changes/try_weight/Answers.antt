use Rattle.te_model.proofs.WellFormed.{capacities_positive}
use Rattle.ratio_certificate.proofs.Trying.{helps_not}
use Rattle.ratio_certificate.proofs.changes.Changes.try_weight.Goals as goal

pub returns-else-improves-clause-none : goal.returns-else-improves-clause-none
returns-else-improves-clause-none c =
    let it = c.args.self.now in
    let net = it.problem.net.now in
    let e = it.shared.now.link in
    helps_not net it.problem.routing.now.routes it.problem.set.now e it.need _ c.in_ok-other.other
    (capacities_positive net c.requires.changes.problem.network e c.requires.changes.shared.within) c.in_ok-other.ensures.link c.in_ok-other.ensures.weights
    c.in_ok-other.ensures.weighting (c.improves.ensures.not c.if-improves.false)
