use Rattle.std.proofs.Common.{◌≡◌, arith, sym, subst}
use Rattle.std.proofs.lemmas.List.{get_or_read}
use Rattle.shortest_path.proofs.Sound.{sound}
use Rattle.ratio_certificate.specs.declared.weighting.Weighting.{Weighting}
use Rattle.ratio_certificate.specs.Places.{no_weighting, weighting_at}
use Rattle.ratio_certificate.specs.Weighting.{AreWeights}
use Rattle.ratio_certificate.proofs.LinkLists.{shared_read}
use Rattle.ratio_certificate.proofs.OtherMarks.{metric_for_other}
use Rattle.ratio_certificate.proofs.search.offer_between.Goals as goal

pub metric_by-requires-clause-shared : goal.metric_by-requires-clause-shared
metric_by-requires-clause-shared c =
    let k = c.args.place in
    shared_read c.args.problem.now c.args.links.now k c.index-links-place.result (omega (arith, c.requires.place, c.requires.list.count)) c.index-links-place.is c.requires.links

pub metric_by-requires-clause-weights : goal.metric_by-requires-clause-weights
metric_by-requires-clause-weights c =
    let list = c.args.list.now in
    let k = c.args.place in
    let at : c.index-list-place.result ≡ weighting_at list k = get_or_read list k c.index-list-place.result c.requires.place c.index-list-place.is no_weighting in
    subst (λ (w : Weighting). AreWeights c.args.problem.now.net.now w.weights) c.index-list-place.is
    (subst (λ (w : Weighting). AreWeights c.args.problem.now.net.now w.weights) (sym at)
    (c.requires.list.each k (omega (arith, c.requires.place, c.requires.list.count))).weights_are)

pub take_on_each-requires-clause-metric : goal.take_on_each-requires-clause-metric
take_on_each-requires-clause-metric c = λ k d below.
    let p = c.args.problem.now in
    let place = c.args.place in
    let shared = shared_read p c.args.links.now place c.index-links-place.result (omega (arith, c.requires.place, c.requires.list.count)) c.index-links-place.is c.requires.links in
    metric_for_other p.net.now p.routing.now.routes p.set.now c.index-links-place.result _ c.in_ok-metric.metric c.requires.bounded shared (c.requires.links.each k d below)
    c.in_ok-metric.ensures.metric

pub take_on_each-requires-clause-weights : goal.take_on_each-requires-clause-weights
take_on_each-requires-clause-weights c =
    let list = c.args.list.now in
    let k = c.args.place in
    let at : c.index-list-place.result ≡ weighting_at list k = get_or_read list k c.index-list-place.result c.requires.place c.index-list-place.is no_weighting in
    subst (AreWeights c.args.problem.now.net.now) (sym c.in_ok-metric.ensures.weights)
    (subst (λ (w : Weighting). AreWeights c.args.problem.now.net.now w.weights) c.index-list-place.is
    (subst (λ (w : Weighting). AreWeights c.args.problem.now.net.now w.weights) (sym at)
    (c.requires.list.each k (omega (arith, c.requires.place, c.requires.list.count))).weights_are))

pub with_orders-requires : goal.with_orders-requires
with_orders-requires c = sound c.args.problem.now.net.now c.requires.links.problem.network
