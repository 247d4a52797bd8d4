use Rattle.std.proofs.Common.{arith, sym, subst, ◌<◌, ◌^◌}
use Rattle.te_model.specs.declared.network.Network.{Network}
use Rattle.te_model.specs.Network.{link_count, node_count}
use Rattle.certificate_tests.proofs.hose_bound_tests.is_printed_again.Goals as goal

pub read_and_print-requires-clause-nodes : goal.read_and_print-requires-clause-nodes
read_and_print-requires-clause-nodes c = subst (λ (n : Network). node_count n < 2 ^ 32) (sym c.requires) (omega arith)

pub read_and_print-requires-clause-links : goal.read_and_print-requires-clause-links
read_and_print-requires-clause-links c = subst (λ (n : Network). link_count n < 2 ^ 32) (sym c.requires) (omega arith)
