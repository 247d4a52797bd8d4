-- Lowered rates leave the paths of the pairs.
use Rattle.std.proofs.Common.{ℕ, List, arith, sym, ◌∙◌, subst}
use Rattle.te_model.specs.declared.network.Network.{Network}
use Rattle.te_model.specs.declared.route.Pair.{Pair}
use Rattle.scheme.specs.Reach.{pair_at}
use Rattle.robust_routing.specs.declared.sweep.Sweep.{Sweep}
use Rattle.robust_routing.specs.declared.tables.Tables.{Tables}
use Rattle.robust_routing.specs.Joint.{ArePathsOfPairs, ArePathsWithin}
use Rattle.robust_routing.specs.Lowering.{AreLowerings}
use Rattle.robust_routing.specs.Rates.{PathsWithRates}

pub paths_stay : (net : Network) (limit : ℕ) (pairs : List Pair) (s : Sweep) (t : Tables) (old new : List PathsWithRates) →
    AreLowerings s t old new → ArePathsOfPairs net limit pairs old → ArePathsOfPairs net limit pairs new
paths_stay net limit pairs s t old new lowered are = record {
  count = lowered.count ∙ are.count;
  each = λ p below. subst (ArePathsWithin net limit (pair_at pairs p)) (sym (lowered.each p (omega (arith, below, lowered.count))).paths) (are.each p (omega (arith, below, lowered.count)));
}
