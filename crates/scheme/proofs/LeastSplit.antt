-- The least path with the whole weight is a split of the pair.
use Rattle.std.proofs.Common.{ℕ, ◌≤◌, List, [], ◌∷◌, Some, None, arith, refl, ◌≡◌, Option, subst}
use Rattle.std.specs.Prelude.{IsTrue}
use Rattle.std.proofs.lemmas.List.Elements.{All-cons, All-nil, All-get_or}
use Rattle.te_model.specs.declared.network.Network.{Network}
use Rattle.te_model.specs.declared.route.Pair.{Pair}
use Rattle.te_model.specs.declared.route.PathShare.{PathShare}
use Rattle.te_model.specs.declared.units.TheConstants.{SHARE_UNIT}
use Rattle.te_model.specs.Path.{is_path}
use Rattle.shortest_path.specs.Costs.{costs_of}
use Rattle.shortest_path.specs.Paths.{HasPath, IsLeastPath}
use Rattle.shortest_path.specs.declared.ways.Ways.{Ways}
use Rattle.shortest_path.specs.Ways.{AreWays, IsLeastWay}
use Rattle.shortest_path.specs.Links.{every_link}
use Rattle.shortest_path.proofs.LeastSums.{all_open, least_path_of_walk}
use Rattle.scheme.specs.Fixed.{IsSplitBy}
use Rattle.scheme.specs.Least.{IsLeastSplit}

pub least_split : (net : Network) (pair : Pair) (links : List ℕ) → IsLeastPath net (costs_of net) pair.src pair.dst (Some links) →
    IsSplitBy IsLeastSplit 1 net (record { pair = pair; paths = record { links = links; weight = SHARE_UNIT } ∷ [] })
least_split net pair links least =
    let whole : PathShare = record { links = links; weight = SHARE_UNIT } in
    record {
      split = record {
        paths = All-cons (λ (s : PathShare). IsTrue (is_path net pair.src pair.dst s.links)) whole [] least.0 (All-nil (λ (s : PathShare). IsTrue (is_path net pair.src pair.dst s.links)));
        distinct = refl;
        weights = All-cons (λ (s : PathShare). 1 ≤ s.weight) whole [] (omega arith) (All-nil (λ (s : PathShare). 1 ≤ s.weight));
        whole = refl;
      };
      few = omega arith;
      by_rule = (links, least, refl);
    }

pub no_least : (net : Network) (lengths : List ℕ) (s t : ℕ) → IsLeastPath net lengths s t None → HasPath net s t → ⊥
no_least net lengths s t none (links, some, chain) = none links chain

-- the least way by cost is the least path
pub least_way_path : (net : Network) (ways : Ways) (s t : ℕ) (way : Option (List ℕ)) → AreWays net ways → ways.dst ≡ t → IsLeastWay net ways s way →
    IsLeastPath net (costs_of net) s t way
least_way_path net ways s t way are to least =
    subst (λ d. IsLeastPath net (costs_of net) s d way) to
    (subst (λ l. IsLeastPath net l s ways.dst way) are.costs.are
    (least_path_of_walk net ways.costs (every_link net) s ways.dst way (all_open net)
    (λ h below. All-get_or (λ l. 1 ≤ l) ways.costs h 0 (omega (arith, below, are.costs.count)) are.costs.positive) least))
