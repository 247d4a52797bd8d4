use Rattle.std.proofs.Common.{◌≡◌, [], ◌∷◌, sym, ap, subst, ◌∙◌}
use Rattle.std.proofs.lemmas.Result.{IfOk-weaker}
use Rattle.te_model.specs.PathRouting.{IsPathRouting}
use Rattle.routing.specs.Routes.{HasFewPaths}
use Rattle.local_recovery.specs.Rates.{pairs_of}
use Rattle.sample_networks.specs.Literals.{pair_of}
use Rattle.sample_networks.specs.Networks.{four_nodes}
use Rattle.simulation_tests.proofs.FlowSimLaws.{two_ways_routing, two_ways_few, there_rates}
use Rattle.simulation_tests.proofs.flow_sim_tests.left_of_two_ways.Goals as goal

pub recover-requires-clause-routing : goal.recover-requires-clause-routing
recover-requires-clause-routing c =
    subst (λ n. IsPathRouting n c.in_ok-routes.routes) (sym c.requires.network)
    (subst (IsPathRouting four_nodes) (sym c.in_ok-routes.ensures) two_ways_routing)

pub recover-requires-clause-few : goal.recover-requires-clause-few
recover-requires-clause-few c = subst (HasFewPaths 4096) (sym c.in_ok-routes.ensures) two_ways_few

pub returns-clause-pairs : goal.returns-clause-pairs
returns-clause-pairs c =
    IfOk-weaker c.recover.result _ (λ r. pairs_of r.routes ≡ pair_of (0, 1) ∷ []) (λ r same. same ∙ ap pairs_of c.in_ok-routes.ensures) c.recover.ensures.pairs

pub returns-clause-rates : goal.returns-clause-rates
returns-clause-rates c = there_rates c.args.net.now c.recover.result c.requires.network
    (IfOk-weaker c.recover.result _ (λ r. pairs_of r.routes ≡ pair_of (0, 1) ∷ []) (λ r same. same ∙ ap pairs_of c.in_ok-routes.ensures) c.recover.ensures.pairs)
    c.recover.ensures.paths c.recover.ensures.few
