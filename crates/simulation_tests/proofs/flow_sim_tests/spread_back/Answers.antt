use Rattle.std.proofs.Common.{[], ◌∷◌, sym, subst}
use Rattle.local_recovery.specs.Spread.{IsSublist}
use Rattle.sample_networks.specs.Literals.{pair_of}
use Rattle.simulation_tests.proofs.FlowSimLaws.{there_of_both}
use Rattle.simulation_tests.proofs.flow_sim_tests.spread_back.Goals as goal

pub spread-requires : goal.spread-requires
spread-requires c =
    subst (λ ps. IsSublist ps c.in_ok-pairs.pairs.list) (sym c.requires)
    (subst (IsSublist (pair_of (0, 1) ∷ [])) (sym c.in_ok-pairs.ensures) there_of_both)
