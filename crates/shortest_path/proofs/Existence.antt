-- Least paths, least walks, distances and potentials exist.
use Rattle.std.proofs.Common.{inl, inr, ℕ, ◌<◌, ◌≤◌, Bool, List, [], ◌∷◌, Option, Some, None, map, arith, refl, ap, sym, ◌∙◌, subst, slice_index}
use Rattle.std.specs.Prelude.{unwrap_or}
use Rattle.std.proofs.lemmas.List.Elements.{All-head, All-get_or}
use Rattle.te_model.specs.declared.network.Network.{Network}
use Rattle.te_model.specs.Network.{node_count, link_count}
use Rattle.te_model.specs.Laws.{LinksJoinNodes}
use Rattle.te_model.proofs.Choices.{list_exists}
use Rattle.te_model.proofs.WellFormed.{links_join}
use Rattle.shortest_path.specs.Laws.{DistancesExist, LeastPathsExist, LeastWalksExist, PotentialsExist}
use Rattle.shortest_path.specs.Least.{IsLeastWalk}
use Rattle.shortest_path.specs.Links.{every_link}
use Rattle.shortest_path.specs.Paths.{AreDistances, IsBelow, IsDistance, greatest, sum_along}
use Rattle.shortest_path.proofs.Filling.{potentials_of_distances}
use Rattle.shortest_path.proofs.LeastSums.{all_open, least_path_of_walk, path_of_walk}
use Rattle.shortest_path.proofs.Loops.{without_loops}
use Rattle.shortest_path.proofs.Sound.{sound}
use Rattle.shortest_path.proofs.Walks.{walk_of_chains}
use Rattle.shortest_path.proofs.SimpleWalks.{AreSimpleWalks, IsSimpleWalk, first_least, simple_walks_exist}

-- where a loop less makes a walk shorter, no walk comes before the first simple one
least_of_first : (net : Network) (lengths : List ℕ) (marks : List Bool) (s t : ℕ) (p : List ℕ) (rest : List (List ℕ)) →
    ((h : ℕ) → h < link_count net → 1 ≤ slice_index lengths h) → AreSimpleWalks net lengths marks s t (p ∷ rest) → IsLeastWalk net lengths marks s t (Some p)
least_of_first net lengths marks s t p rest long are = (
  (All-head (IsSimpleWalk net marks s t) p rest are.sound).0,
  λ links walk.
      let (q, walk_q, apart, less) = without_loops net lengths marks 1 s t links long walk in
      elim (first_least net lengths marks s t p rest are q (walk_q, apart)) [
        | inl same ↦ elim less [
          | inl e ↦ inl (sym e ∙ same)
          | inr lt ↦ inr (inl (omega (arith, lt, ap (sum_along lengths) same)))
        ]
        | inr below ↦ elim less [
          | inl e ↦ inr (subst (IsBelow lengths p) e below)
          | inr lt ↦ inr (inl (omega (arith, lt, sum_below p q below)))
        ]
      ],
)
  where
    sum_below : (x y : List ℕ) → IsBelow lengths x y → sum_along lengths x ≤ sum_along lengths y
    sum_below x y below = elim below [ inl lt ↦ omega arith | inr same ↦ omega (arith, same.0) ]

pub least_walks_exist : LeastWalksExist
least_walks_exist net lengths formed count positive marks s t inside inside_t =
    let (walks, are) = simple_walks_exist net lengths marks s t (links_join net formed) inside in
    go walks are
  where
    long : (h : ℕ) → h < link_count net → 1 ≤ slice_index lengths h
    long h below = All-get_or (λ l. 1 ≤ l) lengths h 0 (omega (arith, below, count)) positive

    go : (walks : List (List ℕ)) → AreSimpleWalks net lengths marks s t walks → (r : Option (List ℕ)) × IsLeastWalk net lengths marks s t r
    go [] are = (
      None,
      λ links walk.
          let (q, walk_q, apart, less) = without_loops net lengths marks 1 s t links long walk in
          omega (arith, (are.complete q (walk_q, apart)).1),
    )
    go (p ∷ rest) are = (Some p, least_of_first net lengths marks s t p rest long are)

pub least_paths_exist : LeastPathsExist
least_paths_exist net lengths formed count positive s t inside inside_t =
    let (p, least) = least_walks_exist net lengths formed count positive (every_link net) s t inside inside_t in (
      p,
      least_path_of_walk net lengths (every_link net) s t p (all_open net)
          (λ h below. All-get_or (λ l. 1 ≤ l) lengths h 0 (omega (arith, below, count)) positive) least,
    )

-- a distance needs no length to be positive, and no node but the source to be there
pub distance_exists : (net : Network) (lengths : List ℕ) (s t : ℕ) → LinksJoinNodes net → s < node_count net → (d : Option ℕ) × IsDistance net lengths s t d
distance_exists net lengths s t joins inside =
    let (walks, are) = simple_walks_exist net lengths (every_link net) s t joins inside in
    go walks are
  where
    go : (walks : List (List ℕ)) → AreSimpleWalks net lengths (every_link net) s t walks → (d : Option ℕ) × IsDistance net lengths s t d
    go [] are = (
      None,
      λ links chain.
          let walk = walk_of_chains net (every_link net) s t links (all_open net) chain in
          let (q, walk_q, apart, less) = without_loops net lengths (every_link net) 0 s t links (λ h below. omega arith) walk in
          omega (arith, (are.complete q (walk_q, apart)).1),
    )
    go (p ∷ rest) are =
        let simple = All-head (IsSimpleWalk net (every_link net) s t) p rest are.sound in (
          Some (sum_along lengths p),
          (
            (p, path_of_walk net (every_link net) s t p simple.0 simple.1, refl),
            λ links chain.
                let walk = walk_of_chains net (every_link net) s t links (all_open net) chain in
                let (q, walk_q, apart, less) = without_loops net lengths (every_link net) 0 s t links (λ h below. omega arith) walk in
                let low : sum_along lengths p ≤ sum_along lengths q = elim (first_least net lengths (every_link net) s t p rest are q (walk_q, apart)) [
                  | inl same ↦ omega (arith, ap (sum_along lengths) same)
                  | inr below ↦ elim below [ inl lt ↦ omega arith | inr both ↦ omega (arith, both.0) ]
                ]
                in
                elim less [ inl e ↦ omega (arith, low, ap (sum_along lengths) e) | inr lt ↦ omega (arith, low, lt) ],
          ),
        )

pub distances_exist : DistancesExist
distances_exist net lengths formed count s t inside inside_t = distance_exists net lengths s t (links_join net formed) inside

pub all_distances_exist : (net : Network) (lengths : List ℕ) (s : ℕ) → LinksJoinNodes net → s < node_count net →
    (distances : List (Option ℕ)) × AreDistances net lengths s distances
all_distances_exist net lengths s joins inside =
    let (distances, count, each) = list_exists (λ v d. IsDistance net lengths s v d) None (node_count net) (λ v below. distance_exists net lengths s v joins inside) in
    (distances, record { count = count; each = each })

pub potentials_exist : PotentialsExist
potentials_exist net lengths formed count s inside =
    let (distances, are) = all_distances_exist net lengths s (links_join net formed) inside in
    (map (λ d. unwrap_or d (greatest distances)) distances, potentials_of_distances net lengths s distances (sound net formed) inside are)
