use Rattle.std.proofs.Common.{◌≡◌, ◌+◌, ◌<◌, length, arith, ap, sym, subst, ◌∙◌}
use Rattle.std.proofs.lemmas.List.{get_or_read}
use Rattle.best_blocks.specs.declared.sharing.SharedLink.{SharedLink}
use Rattle.shortest_path.proofs.Sound.{sound}
use Rattle.ratio_certificate.specs.Offering.{AreStarts}
use Rattle.ratio_certificate.specs.Places.{no_shared, shared_at}
use Rattle.ratio_certificate.specs.Rising.{NeedsNoMore}
use Rattle.ratio_certificate.proofs.LinkLists.{no_starts, shared_read, start_added}
use Rattle.ratio_certificate.proofs.making.starts.Goals as goal

pub loop-shared-init : goal.loop-shared-init
loop-shared-init c =
    let p = c.args.problem.now in
    (rw c.in_ok-list.ensures.items (no_starts p.net.now p.routing.now.routes p.set.now c.args.links.now c.args.offers.now), c.in_ok-searches.ensures)

pub loop-shared-preserved : goal.loop-shared-preserved
loop-shared-preserved c =
    let net = c.args.problem.now.net.now in
    let routes = c.args.problem.now.routing.now.routes in
    let wanted = c.args.problem.now.set.now in
    let links = c.args.links.now in
    let offers = c.args.offers.now in
    let n = c.loop-shared.shared-index in
    let inside : n < length links = omega arith in
    let w = c.in_ok-weighting.weighting in
    let at : c.shared-item.result ≡ shared_at links n = get_or_read links n c.shared-item.result inside c.shared-item.is no_shared in
    let link : w.link ≡ (shared_at links n).link = c.in_ok-weighting.ensures.link ∙ ap (λ (l : SharedLink). l.link) at in
    let least = subst (λ e. NeedsNoMore net routes wanted e 15 w) (sym c.in_ok-weighting.ensures.link) c.in_ok-weighting.ensures.least in
    let added = subst (AreStarts (n + 1) net routes wanted links offers) (sym c.in_ok-push.ensures.items)
    (start_added n net routes wanted links offers c.loop-shared.list.items w c.loop-shared.invariant.0 link c.in_ok-weighting.ensures.weighting least
    c.in_ok-weighting.ensures.small c.in_ok-weighting.ensures.offers)
    in
    (added, c.in_ok-weighting.ensures.along)

pub returns : goal.returns
returns c =
    let p = c.args.problem.now in
    let all : c.loop-shared.shared-index ≡ length c.args.links.now = omega arith in
    subst (λ n. AreStarts n p.net.now p.routing.now.routes p.set.now c.args.links.now c.args.offers.now c.loop-shared.list.items) all c.loop-shared.invariant.0

pub best_start-requires-clause-shared : goal.best_start-requires-clause-shared
best_start-requires-clause-shared c =
    let links = c.args.links.now in
    let n = c.loop-shared.shared-index in
    shared_read c.args.problem.now links n c.shared-item.result c.loop-shared-test.true c.shared-item.is c.requires.links

pub with_orders-requires : goal.with_orders-requires
with_orders-requires c = sound c.args.problem.now.net.now (c.requires.links.problem).network
