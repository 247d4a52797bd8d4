-- The k least paths with even weights are a split of the pair.
use Rattle.std.proofs.Common.{◌≡◌, inl, inr, ℕ, ◌≤◌, List, [], length, arith, ap}
use Rattle.te_model.specs.declared.network.Network.{Network}
use Rattle.te_model.specs.declared.route.Pair.{Pair}
use Rattle.te_model.specs.declared.route.PathShare.{PathShare}
use Rattle.shortest_path.specs.Paths.{HasPath}
use Rattle.shortest_path.proofs.LeastSums.{path_of_chains}
use Rattle.scheme.specs.Fixed.{IsSplitBy}
use Rattle.routing.specs.Even.{IsEvenMix}
use Rattle.routing.proofs.EvenSplits.{even_few, even_split}
use Rattle.k_paths.specs.Classes.{AreLeast}
use Rattle.k_paths.specs.Even.{IsEvenSplit}

pub none_least : (net : Network) (s t k : ℕ) (order : List (List ℕ)) → 1 ≤ k → AreLeast net s t k order → order ≡ [] → HasPath net s t → ⊥
none_least net s t k order some least none (links, more, chain) =
    let (p, path) = path_of_chains net s t links chain in
    elim (least.others p path) [
      | inl there ↦ omega (arith, there.1, ap (λ (l : List (List ℕ)). length l) none)
      | inr full ↦ omega (arith, full.0, some, ap (λ (l : List (List ℕ)). length l) none)
    ]

pub least_split : (net : Network) (pair : Pair) (k : ℕ) (order : List (List ℕ)) (merged : List PathShare) → k ≤ 32 → 1 ≤ length order →
    AreLeast net pair.src pair.dst k order → IsEvenMix order merged → IsSplitBy (IsEvenSplit k) 32 net (record { pair = pair; paths = merged })
least_split net pair k order merged small some least so = record {
  split = even_split net pair order merged some (omega (arith, least.few, small)) least.sound so;
  few = omega (arith, even_few order merged so, least.few, small);
  by_rule = (order, least, so);
}
