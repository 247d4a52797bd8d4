use Rattle.std.proofs.Common.{◌≡◌, List, length, arith, ap, sym, subst, ◌∙◌}
use Rattle.te_model.specs.declared.route.PairRoutes.{PairRoutes}
use Rattle.te_model.specs.declared.route.Pair.{Pair}
use Rattle.best_blocks.specs.Conditions.{IsSetWithin}
use Rattle.ratio_certificate.specs.Offers.{IsMadeWithinAll}
use Rattle.std.proofs.lemmas.List.{length-map}
use Rattle.experiment.proofs.RoutingWithin.{routing_within}
use Rattle.experiment.proofs.publishing.publish.Goals as goal

pub make-requires-clause-routing : goal.make-requires-clause-routing
make-requires-clause-routing g c =
    routing_within c.args.net.now c.args.pairs.now.list c.in_ok-routing.routing.routes c.requires.network c.requires.pairs c.requires.ascending
    c.in_ok-routing.ensures.routing (λ k d below. let few = c.in_ok-routing.ensures.few k d below in omega (arith, few, c.requires.few))

pub make-requires-clause-set : goal.make-requires-clause-set
make-requires-clause-set g c =
    let pairs = c.args.pairs.now.list in
    let count : length pairs ≡ length c.in_ok-routing.routing.routes =
    ap (λ (ps : List Pair). length ps) (sym c.in_ok-routing.ensures.routing.in_order) ∙ length-map c.in_ok-routing.routing.routes (λ (r : PairRoutes). r.pair)
    in
    subst (λ n. IsSetWithin n c.args.set) count c.requires.set

pub returns-clause-made : goal.returns-clause-made
returns-clause-made g c =
    let kept = c.in_ok-routing.ensures.kept in (
      kept.0,
      kept.1,
      subst (λ (r : List PairRoutes). IsMadeWithinAll c.args.net.now r c.args.set c.in_ok-certificate.certificate) kept.2
          (record { made = c.in_ok-certificate.ensures.made; all_matrices = c.in_ok-certificate.ensures.all_matrices }),
    )
