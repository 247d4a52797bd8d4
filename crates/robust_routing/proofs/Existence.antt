-- Pairs with paths have a plan within each limit: the routing of the least paths, and weights of 1.
use Rattle.std.proofs.Common.{◌≡◌, ℕ, ◌<◌, List, length, replicate, slice_index, arith}
use Rattle.std.proofs.lemmas.List.{get_or-replicate, length-replicate}
use Rattle.std.proofs.lemmas.List.Elements.{All-replicate}
use Rattle.te_model.specs.declared.network.Network.{Network}
use Rattle.te_model.specs.Network.{link_count}
use Rattle.routing.proofs.Splits.{splits_of}
use Rattle.scheme.specs.Least.{IsLeastSplit}
use Rattle.scheme.proofs.Existence.{least_splits_exist, routings_by_rules_exist}
use Rattle.robust_routing.specs.Laws.{RobustPlansExist}
use Rattle.robust_routing.specs.Robust.{ways_of}
use Rattle.robust_routing.specs.Weights.{AreLinkWeights, AreWeightsOfLinks}
use Rattle.routing.proofs.FewPaths.{few_more}

one_at : (n h : ℕ) → h < length (replicate {A = ℕ} n 1) → slice_index (replicate n 1) h ≡ 1
one_at n h below = get_or-replicate n h 1 0 (omega (arith, below, length-replicate {A = ℕ} n 1))

ones : (net : Network) → AreLinkWeights net (replicate (link_count net) 1)
ones net =
    let n = link_count net in
    record {
      count = length-replicate {A = ℕ} n 1;
      limits = record {
        some = λ h below. let is = one_at n h below in omega (arith, is);
        small = λ h below. let is = one_at n h below in omega (arith, is);
      };
    }

-- weights that are all 1, for each link
ones_of_links : (net : Network) → AreWeightsOfLinks net (replicate (link_count net) (replicate (link_count net) 1))
ones_of_links net =
    let n = link_count net in
    record { count = length-replicate {A = List ℕ} n (replicate {A = ℕ} n 1); each = All-replicate (AreLinkWeights net) n (replicate n 1) (ones net) }

pub robust_plans_exist : RobustPlansExist
robust_plans_exist net formed pairs are reached asked =
    let (routes, by) = routings_by_rules_exist IsLeastSplit 1 net (least_splits_exist net formed) pairs are reached in (
      record { routing = record { routes = routes; splits = splits_of net routes by.routing.splits }; weights = replicate (link_count net) (replicate (link_count net) 1) },
      record { routing = by.routing; few = few_more 1 (ways_of asked) routes (omega arith) by.few; weights = ones_of_links net },
    )
