use Rattle.std.proofs.Common.{ℕ, List, sym, subst}
use Rattle.std.specs.Prelude.{IfOk}
use Rattle.best_blocks.specs.Best.{IsBestBlock}
use Rattle.ratio_certificate.specs.Weighting.{AreWeights}
use Rattle.ratio_certificate.proofs.making.block_of.Goals as goal

pub block_under-requires-clause-weights : goal.block_under-requires-clause-weights
block_under-requires-clause-weights c = subst (AreWeights c.args.problem.now.net.now) (sym c.in_ok-metric.ensures.weights) c.requires.weighting.weights_are

pub returns-clause-best : goal.returns-clause-best
returns-clause-best c =
    let net = c.args.problem.now.net.now in
    let routes = c.args.problem.now.routing.now.routes in
    let set = c.args.problem.now.set.now in
    let under = subst (λ (ws : List ℕ). IfOk c.block_under.result (IsBestBlock net routes set c.args.shared.now.link ws)) c.in_ok-metric.ensures.weights c.block_under.ensures in
    subst (λ e. IfOk c.block_under.result (IsBestBlock net routes set e c.args.weighting.now.weights)) (sym c.requires.link) under
