-- Each network and seed have a plan of 1 to 16 trees for pairs that all have a path.
use Rattle.std.proofs.Common.{◌≡◌, ℕ, ◌<◌, ◌≤◌, true, List, [], Some, All, length, arith, ap, subst}
use Rattle.std.proofs.lemmas.List.Elements.{All-from_get_or}
use Rattle.te_model.specs.declared.network.Network.{Network}
use Rattle.te_model.specs.declared.route.Pair.{Pair}
use Rattle.te_model.specs.declared.route.PathShare.{PathShare}
use Rattle.te_model.specs.Network.{is_well_formed, node_count}
use Rattle.te_model.specs.Path.{is_path}
use Rattle.te_model.proofs.Choices.{list_exists}
use Rattle.shortest_path.specs.Paths.{HasPath}
use Rattle.routing.proofs.MergesMade.{even_mix_exists}
use Rattle.scheme.specs.Fixed.{IsSplitBy}
use Rattle.scheme.specs.Reach.{IsPairOf}
use Rattle.scheme.proofs.Existence.{routings_by_rules_exist}
use Rattle.tree_embed.specs.TreePaths.{IsTreePath}
use Rattle.tree_embed.proofs.Existence.{tree_paths_exist}
use Rattle.racke_mix.specs.declared.round.Round.{Round}
use Rattle.racke_mix.specs.Laws.{RackePlansExist}
use Rattle.racke_mix.specs.Mix.{AreTreePaths, IsMix, IsMixSplit, round_at}
use Rattle.racke_mix.proofs.MixesExist.{embedding_of_mix, mixes_exist}
use Rattle.racke_mix.proofs.TreeSplits.{mix_split}

-- the tree paths of a pair that has a path
record TreePathsOf (net : Network) (rounds : List Round) (pair : Pair) : Type 0 where
  paths : List (List ℕ)
  are : AreTreePaths rounds pair.src pair.dst paths
  sound : All (λ p. is_path net pair.src pair.dst p ≡ true) paths

paths_of : (net : Network) (trees seed : ℕ) (rounds : List Round) → is_well_formed net ≡ true → IsMix net trees seed rounds →
    (pair : Pair) → IsPairOf net pair → HasPath net pair.src pair.dst → TreePathsOf net rounds pair
paths_of net trees seed rounds formed mix pair ends has =
    let (paths, count, each) =
    list_exists (λ j path. IsTreePath (round_at rounds j).tree pair.src pair.dst (Some path) × (is_path net pair.src pair.dst path ≡ true)) [] (length rounds) path
    in
    record {
      paths = paths;
      are = record { count = count; each = λ j below. (each j below).0 };
      sound = All-from_get_or (λ p. is_path net pair.src pair.dst p ≡ true) paths [] (λ j below. (each j (omega (arith, count, below))).1);
    }
  where
    path : (j : ℕ) → j < length rounds →
        (path : List ℕ) × (IsTreePath (round_at rounds j).tree pair.src pair.dst (Some path) × (is_path net pair.src pair.dst path ≡ true))
    path j below =
        let inside : j < trees = omega (arith, mix.count, below) in
        let tree = (round_at rounds j).tree in
        let own : tree.network ≡ net = ap (λ t. t.network) (mix.each j inside).tree in
        let (p, leads, sound) =
        subst (λ n. pair.src < node_count n → pair.dst < node_count n → (pair.src ≡ pair.dst → ⊥) → HasPath n pair.src pair.dst →
        (path : List ℕ) × IsTreePath tree pair.src pair.dst (Some path) × (is_path n pair.src pair.dst path ≡ true)) own
        (tree_paths_exist tree (embedding_of_mix net trees seed rounds formed mix j inside) pair.src pair.dst)
        ends.src_inside ends.dst_inside ends.apart has
        in
        (p, (leads, sound))

split_exists : (net : Network) (trees seed : ℕ) (rounds : List Round) → is_well_formed net ≡ true → 1 ≤ trees → trees ≤ 16 →
    IsMix net trees seed rounds → (pair : Pair) → IsPairOf net pair → HasPath net pair.src pair.dst →
    (paths : List PathShare) × IsSplitBy (IsMixSplit rounds) 16 net (record { pair = pair; paths = paths })
split_exists net trees seed rounds formed some few mix pair ends has =
    let r = paths_of net trees seed rounds formed mix pair ends has in
    let count = r.are.count in
    let (merged, even, split, fewer) = even_mix_exists net pair r.paths (omega (arith, count, mix.count)) (omega (arith, count, mix.count)) r.sound in
    (merged, mix_split net rounds pair r.paths merged (omega (arith, mix.count)) (omega (arith, mix.count)) r.are r.sound even)

pub racke_plans_exist : RackePlansExist
racke_plans_exist net formed trees seed some few pairs are reached =
    let (rounds, mix) = mixes_exist net formed trees seed in
    let (routes, routing) = routings_by_rules_exist (IsMixSplit rounds) 16 net (split_exists net trees seed rounds formed some few mix) pairs are reached in
    (rounds, routes, record { mix = mix; routing = routing })
