-- The first paths of two nodes exist, and so does the even split over them.
use Rattle.std.proofs.Common.{◌≡◌, ℕ, ◌≤◌, true, List, [], ◌∷◌, length, take, length-take, arith, refl}
use Rattle.std.specs.Prelude.{IsTrue}
use Rattle.std.proofs.lemmas.Bool.{and_parts}
use Rattle.std.proofs.lemmas.List.Elements.{All-take, All-weaker}
use Rattle.te_model.specs.declared.network.Network.{Network}
use Rattle.te_model.specs.Path.{chains, is_distinct, is_path, nodes_visited}
use Rattle.te_model.proofs.WellFormed.{links_join}
use Rattle.shortest_path.specs.Costs.{IsBefore, costs_of}
use Rattle.shortest_path.specs.Links.{every_link}
use Rattle.shortest_path.proofs.LeastSums.{all_open, path_of_walk}
use Rattle.shortest_path.proofs.Ordered.{ascending-take, first_or_after}
use Rattle.shortest_path.proofs.SimpleWalks.{IsSimpleWalk, simple_walks_exist}
use Rattle.shortest_path.proofs.Walks.{walk_of_chains}
use Rattle.routing.specs.Even.{of_weight_one}
use Rattle.routing.specs.Normal.{with_whole_weight}
use Rattle.routing.proofs.MergesMade.{merge_exists}
use Rattle.k_paths.specs.Classes.{AreLeast}
use Rattle.k_paths.specs.Laws.{EvenSplitsExist, FirstPathsExist}
use Rattle.k_paths.proofs.EvenSplits.{least_split, none_least}

simple_of_path : (net : Network) (s t : ℕ) (p : List ℕ) → is_path net s t p ≡ true → IsSimpleWalk net (every_link net) s t p
simple_of_path net s t p path =
    let both = and_parts (chains net s t p) (is_distinct (nodes_visited net s p)) path in
    (walk_of_chains net (every_link net) s t p (all_open net) both.0, both.1)

pub first_paths_exist : FirstPathsExist
first_paths_exist net formed s t k inside inside_t =
    let (walks, are) = simple_walks_exist net (costs_of net) (every_link net) s t (links_join net formed) inside in
    let path : (p : List ℕ) → IsSimpleWalk net (every_link net) s t p → is_path net s t p ≡ true =
    λ p simple. path_of_walk net (every_link net) s t p simple.0 simple.1
    in (
      take k walks,
      record {
        few = omega (arith, length-take k walks);
        sound = All-take (λ p. IsTrue (is_path net s t p)) k walks
            (All-weaker (IsSimpleWalk net (every_link net) s t) (λ p. IsTrue (is_path net s t p)) path walks are.sound);
        ascending = ascending-take (IsBefore net) k walks are.ascending;
        others = λ q is. first_or_after (IsBefore net) k walks are.ascending q (are.complete q (simple_of_path net s t q is));
      },
    )

pub even_splits_exist : EvenSplitsExist
even_splits_exist net formed k some small pair ends has =
    let (order, least) = first_paths_exist net formed pair.src pair.dst k ends.src_inside ends.dst_inside in
    let (merged, is) = merge_exists (with_whole_weight (of_weight_one order)) in
    (merged, least_split net pair k order merged small (more order least) least is)
  where
    more : (order : List (List ℕ)) → AreLeast net pair.src pair.dst k order → 1 ≤ length order
    more [] least = absurd (none_least net pair.src pair.dst k [] some least refl has)
    more (p ∷ order) least = omega arith
