use Rattle.std.proofs.Common.{arith, sym, subst, ◌<◌, ◌^◌}
use Rattle.te_model.specs.declared.network.Network.{Network}
use Rattle.te_model.specs.Network.{link_count, node_count}
use Rattle.certificate_tests.proofs.hose_bound_tests.is_read_back.Goals as goal

pub print_and_read-requires-clause-nodes : goal.print_and_read-requires-clause-nodes
print_and_read-requires-clause-nodes c = subst (λ (n : Network). node_count n < 2 ^ 32) (sym c.requires.network) (omega arith)

pub print_and_read-requires-clause-links : goal.print_and_read-requires-clause-links
print_and_read-requires-clause-links c = subst (λ (n : Network). link_count n < 2 ^ 32) (sym c.requires.network) (omega arith)
