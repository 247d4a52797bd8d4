-- The routing of the three-node example is within the limits, and so are the numbers of its best blocks.
use Rattle.std.proofs.Common.{◌≡◌, ℕ, zero, suc, ◌^◌, ◌<◌, ◌≤◌, List, length, arith, refl, ap, sym, subst, ◌∙◌}
use Rattle.std.specs.Prelude.{All, IsTrue}
use Rattle.std.proofs.lemmas.List.Elements.{All-from_get_or}
use Rattle.te_model.specs.declared.network.Network.{Network}
use Rattle.te_model.specs.declared.route.PairRoutes.{PairRoutes}
use Rattle.te_model.specs.declared.certificate.Block.{Block}
use Rattle.te_model.specs.declared.certificate.Head.{Head}
use Rattle.te_model.specs.declared.demand.DemandSet.{DemandSet}
use Rattle.te_model.specs.Laws.{PairsJoinNodes}
use Rattle.te_model.specs.Path.{routes_at, no_routes, source_of, destination_of}
use Rattle.te_model.specs.Validity.{pair_below}
use Rattle.te_model.specs.ThreeNodes.{three_nodes, straight_routes}
use Rattle.best_blocks.specs.Best.{IsBestBlock}
use Rattle.best_blocks.specs.Conditions.{IsRoutingWithin}
use Rattle.best_blocks.specs.Need.{HasNumbers}
use Rattle.best_blocks.specs.Sharing.{HasShare}
use Rattle.best_blocks.proofs.BlockValid.{best_valid}
use Rattle.sample_networks.proofs.PathRoutings.{path_routing}

abbrev head_of_set : DemandSet → Head
head_of_set wanted = record { format = 1; network = three_nodes; routes = straight_routes; set = wanted; ratio = 0 }

joined : PairsJoinNodes three_nodes straight_routes
joined zero below = (omega arith, omega arith)
joined (suc zero) below = (omega arith, omega arith)
joined (suc (suc p)) below = absurd (omega arith)

apart : (p : ℕ) → p < 2 → source_of straight_routes p ≡ destination_of straight_routes p → ⊥
apart zero below same = omega arith
apart (suc zero) below same = omega arith
apart (suc (suc p)) below same = omega arith

ascending : (k : ℕ) → suc k < 2 → IsTrue (pair_below straight_routes k (suc k))
ascending zero below = refl
ascending (suc k) below = absurd (omega arith)

straight_within : IsRoutingWithin three_nodes straight_routes
straight_within = record {
  splits = path_routing three_nodes straight_routes refl;
  nodes = joined;
  apart = apart;
  ascending = ascending;
  few = omega arith;
  few_paths = All-from_get_or (λ (r : PairRoutes). length r.paths ≤ 32) straight_routes no_routes few_each;
}
  where
    few_each : (p : ℕ) → p < 2 → length (routes_at straight_routes p).paths ≤ 32
    few_each zero below = omega arith
    few_each (suc zero) below = omega arith
    few_each (suc (suc p)) below = omega arith

pub sample_within : (net : Network) (routes : List PairRoutes) → net ≡ three_nodes → routes ≡ straight_routes → IsRoutingWithin net routes
sample_within net routes is_net is_routes = rw (is_net, is_routes) straight_within

-- each of the first two links carries the demand of one pair
pub straight_shares : (e : ℕ) → e < 2 → HasShare straight_routes e
straight_shares zero below = (0, omega arith, omega arith)
straight_shares (suc zero) below = (1, omega arith, omega arith)
straight_shares (suc (suc e)) below = absurd (omega arith)

pub best_numbers : (net : Network) (routes : List PairRoutes) (wanted : DemandSet) (e : ℕ) (weights : List ℕ) (block : Block) → e < 2 → net ≡ three_nodes → routes ≡ straight_routes →
    length weights ≡ 4 → All (λ w. w ≤ 2 ^ 28) weights → IsBestBlock net routes wanted e weights block → HasNumbers net block
best_numbers net routes wanted e weights block below is_net is_routes count small best =
    let best_of_straight = subst (λ r. IsBestBlock three_nodes r wanted e weights block) is_routes (subst (λ n. IsBestBlock n routes wanted e weights block) is_net best) in
    let valid = best_valid (head_of_set wanted) e weights block refl straight_within (omega arith) (omega arith) count small best_of_straight in
    subst (λ n. HasNumbers n block) (sym is_net) (record {
      numbers = valid.numbers;
      small = valid.small;
      weights = ap (λ (ws : List ℕ). length ws) best_of_straight.weights_are ∙ count;
    })
