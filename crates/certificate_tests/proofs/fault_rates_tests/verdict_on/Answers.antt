use Rattle.std.proofs.Common.{List, length, sym, subst, refl}
use Rattle.std.specs.Prelude.{IsTrue}
use Rattle.te_model.specs.declared.network.Network.{Network}
use Rattle.te_model.specs.declared.route.PairRoutes.{PairRoutes}
use Rattle.te_model.specs.Network.{is_well_formed}
use Rattle.te_model.specs.Pairs.{AreDemands}
use Rattle.certificate_tests.proofs.RatioCertificateLaws.{sample_within}
use Rattle.certificate_tests.proofs.fault_rates_tests.verdict_on.Goals as goal

pub judge-requires-clause-network : goal.judge-requires-clause-network
judge-requires-clause-network c = subst (λ (n : Network). IsTrue (is_well_formed n)) (sym c.in_ok-net.ensures) refl

pub judge-requires-clause-routing : goal.judge-requires-clause-routing
judge-requires-clause-routing c = (sample_within _ _ c.in_ok-net.ensures c.requires.routing).splits

pub judge-requires-clause-few : goal.judge-requires-clause-few
judge-requires-clause-few c = (sample_within _ _ c.in_ok-net.ensures c.requires.routing).few_paths

pub judge-requires-clause-pairs : goal.judge-requires-clause-pairs
judge-requires-clause-pairs c = (sample_within _ _ c.in_ok-net.ensures c.requires.routing).few

pub judge-requires-clause-demands : goal.judge-requires-clause-demands
judge-requires-clause-demands c =
    subst (λ (rs : List PairRoutes). AreDemands (length rs) c.in_ok-matrix.matrix.demand) (sym c.requires.routing) c.in_ok-matrix.ensures
