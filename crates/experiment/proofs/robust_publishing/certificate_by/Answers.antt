use Rattle.std.proofs.Common.{◌≡◌, List, length, arith, ap, sym, subst, ◌∙◌}
use Rattle.std.proofs.lemmas.List.{length-map}
use Rattle.std.proofs.lemmas.Result.{IfOk-weaker}
use Rattle.te_model.specs.declared.route.PairRoutes.{PairRoutes}
use Rattle.te_model.specs.declared.route.Pair.{Pair}
use Rattle.best_blocks.specs.Conditions.{IsSetWithin}
use Rattle.ratio_certificate.specs.Offers.{IsMadeWithinAll}
use Rattle.experiment.proofs.RoutingWithin.{routing_within}
use Rattle.experiment.proofs.robust_publishing.certificate_by.Goals as goal

pub certify-requires-clause-routing : goal.certify-requires-clause-routing
certify-requires-clause-routing c =
    routing_within c.args.net.now c.args.pairs.now.list c.in_ok-routing.routing.routes c.requires.network c.requires.pairs c.requires.ascending
    c.in_ok-routing.ensures.routing (λ k d below. let few = c.in_ok-routing.ensures.few k d below in omega (arith, few, c.requires.few))

pub certify-requires-clause-set : goal.certify-requires-clause-set
certify-requires-clause-set c =
    let pairs = c.args.pairs.now.list in
    let count : length pairs ≡ length c.in_ok-routing.routing.routes =
    ap (λ (ps : List Pair). length ps) (sym c.in_ok-routing.ensures.routing.in_order) ∙ length-map c.in_ok-routing.routing.routes (λ (r : PairRoutes). r.pair)
    in
    subst (λ n. IsSetWithin n c.args.set) count c.requires.set

pub returns : goal.returns
returns c =
    IfOk-weaker c.certify.result _ _
    (λ m made. subst (λ (r : List PairRoutes). IsMadeWithinAll c.args.net.now r c.args.set m) c.in_ok-routing.ensures.kept made) c.certify.ensures
