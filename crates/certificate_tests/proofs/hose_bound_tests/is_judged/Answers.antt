use Rattle.std.proofs.Common.{arith, sym, subst, refl, ◌<◌, ◌^◌}
use Rattle.std.specs.Prelude.{IsTrue}
use Rattle.te_model.specs.declared.network.Network.{Network}
use Rattle.te_model.specs.Network.{is_well_formed, link_count, node_count}
use Rattle.certificate_tests.proofs.RatioCertificateLaws.{sample_within}
use Rattle.certificate_tests.proofs.hose_bound_tests.is_judged.Goals as goal

pub read-requires-clause-nodes : goal.read-requires-clause-nodes
read-requires-clause-nodes c = subst (λ (n : Network). node_count n < 2 ^ 32) (sym c.requires.network) (omega arith)

pub read-requires-clause-links : goal.read-requires-clause-links
read-requires-clause-links c = subst (λ (n : Network). link_count n < 2 ^ 32) (sym c.requires.network) (omega arith)

pub judge-requires-clause-network : goal.judge-requires-clause-network
judge-requires-clause-network c = subst (λ (n : Network). IsTrue (is_well_formed n)) (sym c.requires.network) refl

pub judge-requires-clause-routing : goal.judge-requires-clause-routing
judge-requires-clause-routing c = (sample_within _ _ c.requires.network c.requires.routing).splits

pub judge-requires-clause-pairs : goal.judge-requires-clause-pairs
judge-requires-clause-pairs c = (sample_within _ _ c.requires.network c.requires.routing).nodes
