use Rattle.std.proofs.Common.{List, length, sym, subst, refl}
use Rattle.std.specs.Prelude.{IsTrue}
use Rattle.te_model.specs.declared.network.Network.{Network}
use Rattle.te_model.specs.declared.route.PairRoutes.{PairRoutes}
use Rattle.te_model.specs.Network.{is_well_formed}
use Rattle.te_model.specs.Pairs.{AreDemands}
use Rattle.certificate_tests.proofs.RatioCertificateLaws.{sample_within}
use Rattle.certificate_tests.proofs.fault_rates_tests.made_rates.Goals as goal

pub protect-requires-clause-network : goal.protect-requires-clause-network
protect-requires-clause-network c = subst (λ (n : Network). IsTrue (is_well_formed n)) (sym c.in_ok-net.ensures) refl

pub protect-requires-clause-routing : goal.protect-requires-clause-routing
protect-requires-clause-routing c = (sample_within _ _ c.in_ok-net.ensures c.requires.routing).splits

pub protect-requires-clause-few : goal.protect-requires-clause-few
protect-requires-clause-few c = (sample_within _ _ c.in_ok-net.ensures c.requires.routing).few_paths

pub protect-requires-clause-pairs : goal.protect-requires-clause-pairs
protect-requires-clause-pairs c = (sample_within _ _ c.in_ok-net.ensures c.requires.routing).few

pub protect-requires-clause-demands : goal.protect-requires-clause-demands
protect-requires-clause-demands c =
    subst (λ (rs : List PairRoutes). AreDemands (length rs) c.in_ok-matrix.matrix.demand) (sym c.requires.routing) c.in_ok-matrix.ensures
