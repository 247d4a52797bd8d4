use Rattle.std.proofs.Common.{List, length, arith, sym, subst, refl, ◌<◌, ◌^◌}
use Rattle.std.specs.Prelude.{IsTrue}
use Rattle.te_model.specs.declared.network.Network.{Network}
use Rattle.te_model.specs.declared.route.PairRoutes.{PairRoutes}
use Rattle.te_model.specs.Network.{is_well_formed}
use Rattle.certificate_tests.proofs.RatioCertificateLaws.{sample_within}
use Rattle.certificate_tests.proofs.hose_bound_tests.has_bound.Goals as goal

pub make-requires-clause-network : goal.make-requires-clause-network
make-requires-clause-network c = subst (λ (n : Network). IsTrue (is_well_formed n)) (sym c.requires.network) refl

pub make-requires-clause-routing : goal.make-requires-clause-routing
make-requires-clause-routing c = (sample_within _ _ c.requires.network c.in_ok-routing.ensures).splits

pub make-requires-clause-pairs : goal.make-requires-clause-pairs
make-requires-clause-pairs c = (sample_within _ _ c.requires.network c.in_ok-routing.ensures).nodes

pub make-requires-clause-few : goal.make-requires-clause-few
make-requires-clause-few c = subst (λ (rs : List PairRoutes). length rs < 2 ^ 32) (sym c.in_ok-routing.ensures) (omega arith)

pub judge-requires-clause-network : goal.judge-requires-clause-network
judge-requires-clause-network c = subst (λ (n : Network). IsTrue (is_well_formed n)) (sym c.requires.network) refl

pub judge-requires-clause-routing : goal.judge-requires-clause-routing
judge-requires-clause-routing c = (sample_within _ _ c.requires.network c.in_ok-routing.ensures).splits

pub judge-requires-clause-pairs : goal.judge-requires-clause-pairs
judge-requires-clause-pairs c = (sample_within _ _ c.requires.network c.in_ok-routing.ensures).nodes

pub judge-requires-clause-cert : goal.judge-requires-clause-cert
judge-requires-clause-cert c = c.in_ok-cert.ensures.made.valid

pub is_read_back-requires-clause-cert : goal.is_read_back-requires-clause-cert
is_read_back-requires-clause-cert c = c.in_ok-cert.ensures.made.valid
