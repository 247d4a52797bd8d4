use Rattle.std.proofs.Common.{List, ℕ, length, slice_index, sym, subst}
use Rattle.best_blocks.specs.Best.{IsBestScale}
use Rattle.best_blocks.specs.Scale.{AreScalable}
use Rattle.best_blocks.specs.Under.{IsScaleUnder}
use Rattle.best_blocks.proofs.Scaled.{if_scale, metric_scalable, none_read, scale_known, scale_read, shares_listed, some_share}
use Rattle.best_blocks.proofs.scaling.scale_under.Goals as goal

pub scale_of-requires-clause-numbers : goal.scale_of-requires-clause-numbers
scale_of-requires-clause-numbers c =
    let set = c.args.set.now in
    let l = c.args.shared.now in
    let m = c.args.metric.now in
    subst (λ (ds : List ℕ). AreScalable set l.shares ds) (sym c.as_slice.ensures)
    (metric_scalable c.args.net.now c.args.routing.now.routes set l m c.requires.network c.requires.routing c.requires.set c.requires.shared c.requires.metric)

pub scale_of-requires-clause-listed : goal.scale_of-requires-clause-listed
scale_of-requires-clause-listed c = shares_listed c.args.net.now c.args.routing.now.routes c.args.set.now c.args.shared.now c.requires.shared

pub scale_of-requires-clause-some : goal.scale_of-requires-clause-some
scale_of-requires-clause-some c = some_share c.args.net.now c.args.routing.now.routes c.args.set.now c.args.shared.now c.requires.shared

pub returns-clause-some : goal.returns-clause-some
returns-clause-some c =
    let net = c.args.net.now in
    let routes = c.args.routing.now.routes in
    let set = c.args.set.now in
    let l = c.args.shared.now in
    let m = c.args.metric.now in
    if_scale (IsBestScale set (length routes) (slice_index l.shares) (slice_index m.distances)) (IsScaleUnder net routes set l.link m.weights)
    (λ a b best. scale_known net routes set l m a b c.requires.routing c.requires.shared c.requires.metric best) c.scale_of.result
    (scale_read c.scale_of.result set (length routes) l.shares c.as_slice.result.now m.distances c.as_slice.ensures c.requires.shared.shares_are.count
    c.scale_of.ensures.some)

pub returns-clause-scale : goal.returns-clause-scale
returns-clause-scale c =
    scale_read c.scale_of.result c.args.set.now (length c.args.routing.now.routes) c.args.shared.now.shares c.as_slice.result.now
    c.args.metric.now.distances c.as_slice.ensures c.requires.shared.shares_are.count c.scale_of.ensures.some

pub returns-clause-none : goal.returns-clause-none
returns-clause-none c =
    none_read c.scale_of.result c.args.set.now (length c.args.routing.now.routes) c.args.shared.now.shares c.as_slice.result.now
    c.args.metric.now.distances c.as_slice.ensures c.requires.shared.shares_are.count c.scale_of.ensures.none
