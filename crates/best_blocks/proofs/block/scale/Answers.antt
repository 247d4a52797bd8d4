use Rattle.std.proofs.Common.{◌≡◌, ◌<◌, List, ℕ, length, slice_index, subst}
use Rattle.te_model.specs.Path.{share}
use Rattle.best_blocks.specs.Best.{AreNeededDistances}
use Rattle.best_blocks.proofs.BlockMade.{best_read}
use Rattle.best_blocks.proofs.NoBest.{no_best_block, none_of}
use Rattle.best_blocks.proofs.Scaled.{needed_distances}
use Rattle.best_blocks.proofs.block.scale.Goals as goal

pub metric_by-requires-clause-marks : goal.metric_by-requires-clause-marks
metric_by-requires-clause-marks c = c.in_ok-shared.ensures.shared.marks_are.count

pub best_block-requires-clause-metric : goal.best_block-requires-clause-metric
best_block-requires-clause-metric c = c.in_ok-metric.ensures.metric

pub returns-clause-best : goal.returns-clause-best
returns-clause-best c =
    best_read c.args.net.now c.args.routing.now.routes c.args.set.now c.in_ok-shared.shared.link c.args.link c.in_ok-metric.metric.weights c.args.weights.now
    c.best_block.result c.in_ok-shared.ensures.link c.in_ok-metric.ensures.weights c.best_block.ensures.best

pub returns-clause-none : goal.returns-clause-none
returns-clause-none c =
    let net = c.args.net.now in
    let routes = c.args.routing.now.routes in
    let set = c.args.set.now in
    let l = c.in_ok-shared.shared in
    let m = c.in_ok-metric.metric in
    let needed = needed_distances net routes set l m c.requires.routing c.in_ok-shared.ensures.shared c.in_ok-metric.ensures.metric in
    let known = subst (λ (w : List ℕ). AreNeededDistances net w routes set (slice_index l.shares) (slice_index m.distances)) c.in_ok-metric.ensures.weights needed in
    let are = subst (λ k. (p : ℕ) → p < length routes → slice_index l.shares p ≡ share routes p k) c.in_ok-shared.ensures.link c.in_ok-shared.ensures.shared.shares_are.each in
    none_of c.best_block.result _ _ (no_best_block net routes set c.args.link c.args.weights.now (slice_index l.shares) (slice_index m.distances) are known)
    c.best_block.ensures.none
