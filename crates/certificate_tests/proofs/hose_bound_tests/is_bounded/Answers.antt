use Rattle.std.proofs.Common.{arith, sym, subst, ◌<◌, ◌^◌}
use Rattle.te_model.specs.declared.network.Network.{Network}
use Rattle.te_model.specs.Network.{node_count}
use Rattle.certificate_tests.proofs.hose_bound_tests.is_bounded.Goals as goal

pub read_bounds-requires : goal.read_bounds-requires
read_bounds-requires c =
    let few = subst (λ (n : Network). node_count n < 2 ^ 32) (sym c.in_ok-net.ensures) (omega arith) in
    omega (arith, few)
