use Rattle.ratio_certificate.proofs.Trying.{none_gives, settled_at}
use Rattle.ratio_certificate.proofs.changes.Changes.try_link.Goals as goal

pub returns-in-None-clause-none : goal.returns-in-None-clause-none
returns-in-None-clause-none c =
    let it = c.args.self.now in
    let double = rw c.in-None.is at c.in_ok-other.ensures.none in
    none_gives c.try_half.result _ _
    (λ half. settled_at it.problem.net.now it.problem.routing.now.routes it.problem.set.now it.shared.now.link it.need it.metric.now.weights c.args.link double half)
    c.try_half.ensures.none

pub returns-in-Some-clause-some : goal.returns-in-Some-clause-some
returns-in-Some-clause-some c = rw c.in-Some.is at c.in_ok-other.ensures.some

pub returns-in-None-clause-some : goal.returns-in-None-clause-some
returns-in-None-clause-some c = c.try_half.ensures.some
