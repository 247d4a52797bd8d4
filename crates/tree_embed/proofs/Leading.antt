-- The walk of a chain leads from its first node to its last, and without its loops it is the tree path.
use Rattle.std.proofs.Common.{◌≡◌, ℕ, ◌<◌, true, List, Option, Some, None, All, arith, refl, ap, sym, subst}
use Rattle.te_model.specs.declared.network.Network.{Network}
use Rattle.te_model.specs.Network.{node_count}
use Rattle.te_model.specs.Path.{chains}
use Rattle.shortest_path.specs.Paths.{IsLeastPath}
use Rattle.routing.specs.Loops.{IsCut, end_of}
use Rattle.routing.proofs.Cutting.{chains_end}
use Rattle.tree_embed.specs.Embedding.{Embedding}
use Rattle.tree_embed.specs.Chains.{IsChainOf}
use Rattle.tree_embed.specs.Tables.{AreTables, center_in}
use Rattle.tree_embed.specs.TreePaths.{AreJoined, IsJoin, IsTreePath}
use Rattle.tree_embed.proofs.Joining.{joined_chains}
use Rattle.tree_embed.proofs.Ends.{chain_leads, chain_inside}

pub walk_chains : (net : Network) (lengths : List ℕ) (center : ℕ → ℕ → ℕ) (s t : ℕ) (chain walk : List ℕ) → IsChainOf center s t chain →
    AreJoined net lengths chain walk → chains net s t walk ≡ true
walk_chains net lengths center s t chain walk is joined =
    let r = chain_leads center s t chain is in
    subst (λ u. chains net s u walk ≡ true) r.ends
    (joined_chains net lengths s r.rest walk (subst (λ c. AreJoined net lengths c walk) r.begins joined))

pub walk_ends : (net : Network) (lengths : List ℕ) (center : ℕ → ℕ → ℕ) (s t : ℕ) (chain walk : List ℕ) → IsChainOf center s t chain →
    AreJoined net lengths chain walk → end_of net s walk ≡ t
walk_ends net lengths center s t chain walk is joined = chains_end net s t walk (walk_chains net lengths center s t chain walk is joined)

pub walk_to_end : (net : Network) (lengths : List ℕ) (center : ℕ → ℕ → ℕ) (s t : ℕ) (chain walk : List ℕ) → IsChainOf center s t chain →
    AreJoined net lengths chain walk → chains net s (end_of net s walk) walk ≡ true
walk_to_end net lengths center s t chain walk is joined =
    subst (λ u. chains net s u walk ≡ true) (sym (walk_ends net lengths center s t chain walk is joined))
    (walk_chains net lengths center s t chain walk is joined)

-- the chain leads over nodes of the network
pub chain_within : (e : Embedding) (sums : List (List (Option ℕ))) (centers : List (List ℕ)) (net : Network) → AreTables e sums centers → e.network ≡ net →
    (s t : ℕ) → s < node_count net → t < node_count net → (chain : List ℕ) → IsChainOf (center_in centers) s t chain → All (λ v. v < node_count net) chain
chain_within e sums centers net tables own s t below_s below_t chain is =
    subst (λ n. All (λ v. v < node_count n) chain) own
    (chain_inside (node_count e.network) centers tables.table s t (omega (arith, ap node_count own)) (omega (arith, ap node_count own)) chain is)

-- the tree path is the walk without its loops
pub tree_of_walk : (e : Embedding) (sums : List (List (Option ℕ))) (centers : List (List ℕ)) (net : Network) (lengths : List ℕ) →
    AreTables e sums centers → e.network ≡ net → e.lengths ≡ lengths →
    (s t : ℕ) (chain walk cut : List ℕ) → IsChainOf (center_in centers) s t chain → AreJoined net lengths chain walk → IsCut net s walk cut →
    IsTreePath e s t (Some cut)
tree_of_walk e sums centers net lengths tables own same s t chain walk cut is joined loops = (
  chain,
  Some walk,
  (center_in centers, tables.centers_are, is),
  subst (λ n. AreJoined n e.lengths chain walk) (sym own) (subst (λ l. AreJoined net l chain walk) (sym same) joined),
  (cut, subst (λ n. IsCut n s walk cut) (sym own) loops, refl),
)

-- where there is no walk, it is the least path
pub tree_of_least : (e : Embedding) (sums : List (List (Option ℕ))) (centers : List (List ℕ)) (net : Network) (lengths : List ℕ) →
    AreTables e sums centers → e.network ≡ net → e.lengths ≡ lengths →
    (s t : ℕ) (chain : List ℕ) (path : Option (List ℕ)) → IsChainOf (center_in centers) s t chain → IsJoin net lengths chain None →
    IsLeastPath net lengths s t path → IsTreePath e s t path
tree_of_least e sums centers net lengths tables own same s t chain path is none least = (
  chain,
  None,
  (center_in centers, tables.centers_are, is),
  subst (λ n. IsJoin n e.lengths chain None) (sym own) (subst (λ l. IsJoin net l chain None) (sym same) none),
  subst (λ n. IsLeastPath n e.lengths s t path) (sym own) (subst (λ l. IsLeastPath net l s t path) (sym same) least),
)
