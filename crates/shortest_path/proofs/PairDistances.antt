-- The potentials of nodes that links lead to are their distances, and each pair of a path routing has a path.
use Rattle.std.proofs.Common.{◌≡◌, ℕ, ◌<◌, true, List, [], ◌∷◌, Option, Some, None, length, arith, ap, sym, subst, ◌∙◌, get_or, slice_index, slice_index_or, sum_by}
use Rattle.std.specs.Prelude.{All, IsTrue, unwrap_or}
use Rattle.std.proofs.lemmas.List.{get_or-map, length-map}
use Rattle.std.proofs.lemmas.List.Elements.{All-head}
use Rattle.te_model.specs.declared.network.Network.{Network}
use Rattle.te_model.specs.declared.route.PathShare.{PathShare}
use Rattle.te_model.specs.declared.route.PairRoutes.{PairRoutes}
use Rattle.te_model.specs.declared.units.TheConstants.{SHARE_UNIT}
use Rattle.te_model.specs.Network.{node_count}
use Rattle.te_model.specs.Path.{chains, is_path}
use Rattle.te_model.specs.PathRouting.{IsPathSplit}
use Rattle.te_model.proofs.Chains.{chains_of_path}
use Rattle.shortest_path.specs.Paths.{IsDistance, ArePotentials, greatest}

-- where links lead to a node, its potential is its distance
pub distance_known : (net : Network) (lengths : List ℕ) (i v : ℕ) (potentials links : List ℕ) → ArePotentials net lengths i potentials →
    v < node_count net → chains net i v links ≡ true → IsDistance net lengths i v (Some (slice_index potentials v))
distance_known net lengths i v potentials links are inside chain =
    let (distances, found, is) = are.values in
    let g = greatest distances in
    let at : slice_index potentials v ≡ unwrap_or (slice_index_or distances v None) g =
    ap (λ (xs : List ℕ). get_or xs v 0) is ∙ get_or-map (λ d. unwrap_or d g) distances v None 0 (omega (arith, inside, found.count))
    in
    subst (λ x. IsDistance net lengths i v (Some x)) (sym at) (go g (slice_index_or distances v None) (found.each v inside))
  where
    go : (g : ℕ) (o : Option ℕ) → IsDistance net lengths i v o → IsDistance net lengths i v (Some (unwrap_or o g))
    go g None none = absurd (none links chain)
    go g (Some d) is = is

pub potentials_count : (net : Network) (lengths : List ℕ) (i : ℕ) (potentials : List ℕ) → ArePotentials net lengths i potentials → length potentials ≡ node_count net
potentials_count net lengths i potentials are =
    let (distances, found, is) = are.values in
    ap (λ (xs : List ℕ). length xs) is ∙ length-map distances (λ d. unwrap_or d (greatest distances)) ∙ found.count

-- a pair of a path routing has a path
pub path_of_pair : (net : Network) (r : PairRoutes) → IsPathSplit net r → (links : List ℕ) × (chains net r.pair.src r.pair.dst links ≡ true)
path_of_pair net r split = go r.paths split.paths split.whole
  where
    go : (paths : List PathShare) → All (λ s. IsTrue (is_path net r.pair.src r.pair.dst s.links)) paths → sum_by (λ s. s.weight) paths ≡ SHARE_UNIT →
        (links : List ℕ) × (chains net r.pair.src r.pair.dst links ≡ true)
    go [] all whole = let none : 0 ≡ 1000000 = whole in absurd (omega (arith, none))
    go (s ∷ ss) all whole =
        let path = All-head (λ s. IsTrue (is_path net r.pair.src r.pair.dst s.links)) s ss all in
        (s.links, chains_of_path net r.pair.src r.pair.dst s.links path)
