use Rattle.std.proofs.Common.{List, length, sym, subst}
use Rattle.std.proofs.lemmas.Result.{IfOk-weaker}
use Rattle.te_model.specs.declared.demand.DemandSet.TheVariants.{All as AllMatrices}
use Rattle.te_model.specs.Network.{link_count}
use Rattle.ratio_certificate.specs.declared.weighting.Weighting.{Weighting}
use Rattle.ratio_certificate.specs.Making.{AreSharedLinks}
use Rattle.ratio_certificate.specs.Offering.{AreOffersOf}
use Rattle.ratio_certificate.proofs.OffersOfAll.{offers_are_weights, offers_of_all}
use Rattle.ratio_certificate.proofs.making.offers_of_all.Goals as goal

pub returns-clause-weights : goal.returns-clause-weights
returns-clause-weights c =
    let net = c.args.net.now in
    let routes = c.args.routing.now.routes in
    let list = c.in_ok-list.list.items in
    IfOk-weaker c.offers_of.result _ _
    (λ o of. offers_are_weights net routes AllMatrices c.deref.result.now _ o.items list c.in_ok-list.ensures
    (subst (λ (ws : List Weighting). AreOffersOf (length ws) ws o.items) c.deref-2.ensures.value of)) c.offers_of.ensures

pub returns-clause-all_matrices : goal.returns-clause-all_matrices
returns-clause-all_matrices c =
    let net = c.args.net.now in
    let routes = c.args.routing.now.routes in
    let list = c.in_ok-list.list.items in
    let are = subst (AreSharedLinks (link_count net) net routes AllMatrices) (sym c.deref.ensures.value) c.in_ok-links.ensures in
    IfOk-weaker c.offers_of.result _ _
    (λ o of. offers_of_all net routes c.deref.result.now _ o.items list c.requires.network c.requires.links c.requires.routing are c.in_ok-list.ensures
    (subst (λ (ws : List Weighting). AreOffersOf (length ws) ws o.items) c.deref-2.ensures.value of)) c.offers_of.ensures
