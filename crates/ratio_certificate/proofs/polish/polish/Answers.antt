use Rattle.ratio_certificate.proofs.Progress.{left_falls, progress_made}
use Rattle.ratio_certificate.proofs.Searched.{own_weightings}
use Rattle.ratio_certificate.proofs.polish.polish.Goals as goal

pub loop-step-preserved : goal.loop-step-preserved
loop-step-preserved c =
    let net = c.args.problem.now.net.now in
    let routes = c.args.problem.now.routing.now.routes in
    let wanted = c.args.problem.now.set.now in
    let step = c.in-Some.step in
    let place = rw c.in-Some.is at c.in_ok-step.ensures.place in
    let from = rw c.in-Some.is at c.in_ok-step.ensures.from in
    let some = rw c.in-Some.is at c.in_ok-step.ensures.some in
    (progress_made net routes wanted c.args.links.now c.args.list.now c.loop-step.list step.place step.weighting place c.loop-step.invariant.0 some, from)

pub next_step-requires-clause-list : goal.next_step-requires-clause-list
next_step-requires-clause-list c =
    let problem = c.args.problem.now in
    own_weightings problem.net.now problem.routing.now.routes problem.set.now c.args.links.now c.args.list.now c.loop-step.list c.loop-step.invariant.0

pub returns-in-None-clause-done : goal.returns-in-None-clause-done
returns-in-None-clause-done c = rw c.in-None.is at c.in_ok-step.ensures.none

pub loop-step-smaller : goal.loop-step-smaller
loop-step-smaller c =
    let problem = c.args.problem.now in
    let step = c.in-Some.step in
    let place = rw c.in-Some.is at c.in_ok-step.ensures.place in
    let some = rw c.in-Some.is at c.in_ok-step.ensures.some in
    left_falls problem.net.now problem.routing.now.routes problem.set.now c.loop-step.list step.place step.weighting place some
