-- Each embedding has a tree path from each node to another that some links lead to.
use Rattle.std.proofs.Common.{inl, inr, ◌≡◌, ℕ, zero, suc, ◌+◌, ◌-◌, ◌<◌, ◌≤◌, true, List, [], ◌∷◌, ◌++◌, Option, Some, None, All, length, nat_eq, arith, refl, sym, subst}
use Rattle.std.specs.List.{dedup}
use Rattle.std.proofs.lemmas.Bool.{cases_eq}
use Rattle.std.proofs.lemmas.List.Elements.{All-head, All-tail}
use Rattle.te_model.specs.declared.network.Network.{Network}
use Rattle.te_model.specs.Network.{is_well_formed, link_count, node_count}
use Rattle.te_model.specs.Path.{is_path}
use Rattle.te_model.proofs.Chains.{chains_of_path}
use Rattle.shortest_path.specs.Paths.{IsLeastPath}
use Rattle.shortest_path.proofs.Existence.{least_paths_exist}
use Rattle.routing.proofs.Cutting.{cut_is_path}
use Rattle.routing.proofs.CutsMade.{cut_exists}
use Rattle.tree_embed.specs.declared.centers.TheConstants.{TOP_LEVEL}
use Rattle.tree_embed.specs.Chains.{IsChainOf, IsLowestShared, Share, centers_between}
use Rattle.tree_embed.specs.Laws.{TreePathsExist}
use Rattle.tree_embed.specs.Tables.{AreTables, center_in}
use Rattle.tree_embed.specs.TreePaths.{IsJoin, IsTreePath}
use Rattle.tree_embed.proofs.Centering.{center_rows, tables_made, top_agrees}
use Rattle.tree_embed.proofs.Leading.{chain_within, tree_of_least, tree_of_walk, walk_chains}
use Rattle.tree_embed.proofs.Levels.{lowest_here, lowest_zero, share_more, share_top}
use Rattle.tree_embed.proofs.SumsExist.{sums_exist}

-- the lowest of the levels up to one that are all shared above it
lowest_below : (center : ℕ → ℕ → ℕ) (v w level : ℕ) → level ≤ TOP_LEVEL → Share center v w level → (a : ℕ) × IsLowestShared center v w a
lowest_below center v w zero few share = (0, lowest_zero center v w 0 share refl)
lowest_below center v w (suc level) few share =
    let e : suc level - 1 ≡ level = omega arith in
    elim (cases_eq (center level v) (center level w)) [
      | inl agree ↦
          let agrees : center (suc level - 1) v ≡ center (suc level - 1) w = subst (λ k. center k v ≡ center k w) (sym e) agree in
          lowest_below center v w level (omega arith)
          (subst (Share center v w) e (share_more center v w (suc level) share (omega arith) agrees))
      | inr differ ↦
          let differs : center (suc level - 1) v ≡ center (suc level - 1) w → ⊥ = λ same. differ (subst (λ k. center k v ≡ center k w) e same) in
          (suc level - 1 + 1, lowest_here center v w (suc level) few share (omega arith) differs)
    ]

-- two nodes with one center at the top level have a chain
chain_exists : (center : ℕ → ℕ → ℕ) (v w : ℕ) → center TOP_LEVEL v ≡ center TOP_LEVEL w → (chain : List ℕ) × IsChainOf center v w chain
chain_exists center v w agree =
    let high : TOP_LEVEL ≤ TOP_LEVEL = omega arith in
    let (a, lowest) = lowest_below center v w TOP_LEVEL high (share_top center v w agree) in
    (dedup nat_eq (v ∷ (centers_between center v w a ++ w ∷ [])), (a, lowest, refl))

-- a chain of nodes of the network has a walk, or none
join_exists : (net : Network) (lengths : List ℕ) → is_well_formed net ≡ true → length lengths ≡ link_count net → All (λ l. 1 ≤ l) lengths →
    (chain : List ℕ) → All (λ v. v < node_count net) chain → (walk : Option (List ℕ)) × IsJoin net lengths chain walk
join_exists net lengths formed count positive [] inside = (Some [], refl)
join_exists net lengths formed count positive (u ∷ []) inside = (Some [], refl)
join_exists net lengths formed count positive (u ∷ v ∷ chain) inside =
    let later : All (λ v. v < node_count net) (v ∷ chain) = All-tail (λ v. v < node_count net) u (v ∷ chain) inside in
    let u_below : u < node_count net = All-head (λ v. v < node_count net) u (v ∷ chain) inside in
    let v_below : v < node_count net = All-head (λ v. v < node_count net) v chain later in
    let (path, is) = least_paths_exist net lengths formed count positive u v u_below v_below in
    let (rest, on) = join_exists net lengths formed count positive (v ∷ chain) later in
    go path rest is on
  where
    go : (path rest : Option (List ℕ)) → IsLeastPath net lengths u v path → IsJoin net lengths (v ∷ chain) rest →
        (walk : Option (List ℕ)) × IsJoin net lengths (u ∷ v ∷ chain) walk
    go None rest is on = (None, λ walk joined. is joined.0 (chains_of_path net u v joined.0 joined.2.0))
    go (Some path) None is on = (None, λ walk joined. on joined.1 joined.3)
    go (Some path) (Some rest) is on = (Some (path ++ rest), (path, rest, is, on, refl))

pub tree_paths_exist : TreePathsExist
tree_paths_exist e is s t below_s below_t apart has =
    let net = e.network in
    let lengths = e.lengths in
    let (sums, are) = sums_exist net lengths is.formed is.count in
    let centers = center_rows sums e.order e.scale (length sums) in
    let tables : AreTables e sums centers =
    tables_made net net lengths lengths e.order e.order e.scale sums sums centers centers is are refl refl refl refl refl refl
    in
    let (chain, made) = chain_exists (center_in centers) s t (top_agrees e (center_in centers) tables.centers_are s t below_s below_t) in
    let (walk, join) = join_exists net lengths is.formed is.count is.positive chain (chain_within e sums centers net tables refl s t below_s below_t chain made) in
    let (path, shortest) = least_paths_exist net lengths is.formed is.count is.positive s t below_s below_t in
    go sums centers tables chain made walk join path shortest
  where
    go : (sums : List (List (Option ℕ))) (centers : List (List ℕ)) → AreTables e sums centers → (chain : List ℕ) → IsChainOf (center_in centers) s t chain →
        (walk : Option (List ℕ)) → IsJoin e.network e.lengths chain walk → (path : Option (List ℕ)) → IsLeastPath e.network e.lengths s t path →
        (path : List ℕ) × IsTreePath e s t (Some path) × (is_path e.network s t path ≡ true)
    go sums centers tables chain made (Some walk) joined path shortest =
        let leads = walk_chains e.network e.lengths (center_in centers) s t chain walk made joined in
        let (cut, loops) = cut_exists e.network s t walk leads in
        (cut, tree_of_walk e sums centers e.network e.lengths tables refl refl s t chain walk cut made joined loops, cut_is_path e.network s t walk cut leads loops)
    go sums centers tables chain made None none None shortest = absurd (shortest has.0 has.2)
    go sums centers tables chain made None none (Some path) shortest =
        (path, tree_of_least e sums centers e.network e.lengths tables refl refl s t chain (Some path) made none shortest, shortest.0)
