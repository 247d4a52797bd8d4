-- The rounds of the mix, and the paths that their trees give to a pair (Räcke, 2008).
use Rattle.std.specs.Prelude.{◌≡◌, ℕ, ◌+◌, ◌*◌, ◌<◌, List, [], Some, length, slice_index_or}
use Rattle.rand_chacha.specs.ChaCha.{ChaCha}
use Rattle.te_model.specs.declared.network.Network.{Network}
use Rattle.te_model.specs.declared.route.Pair.{Pair}
use Rattle.te_model.specs.declared.route.PathShare.{PathShare}
use Rattle.te_model.specs.Network.{node_count, link_count, tail_of, head_of, capacity_of}
use Rattle.random_words.specs.Words.{generator, word_on}
use Rattle.routing.specs.Even.{IsEvenMix}
use Rattle.multiplicative_lengths.specs.Growth.{greatest_usage, lengths_of, multipliers_after}
use Rattle.multiplicative_lengths.specs.Loads.{loads_of}
use Rattle.tree_embed.specs.Embedding.{Embedding}
use Rattle.tree_embed.specs.TreePaths.{IsTreePath}
use Rattle.racke_mix.specs.declared.round.Round.{Round}
use Rattle.racke_mix.specs.Draws.{IsOrderBy, scale_by}

-- the round of these multipliers: it draws a word for each node, then one for its scale
pub record IsTreeRound (net : Network) (rng : ChaCha) (multipliers : List ℕ) (round : Round) : Type 0 where
  pub lengths : round.lengths ≡ lengths_of net multipliers
  pub order : IsOrderBy (word_on rng) (node_count net) round.order
  pub scale : round.scale ≡ scale_by (word_on rng (node_count net))
  pub tree : round.tree ≡ record { network = net; lengths = round.lengths; order = round.order; scale = round.scale }

-- what stands for a round that is not there
abbrev pub no_round : Round
no_round = record {
  lengths = [];
  order = [];
  scale = 0;
  tree = record { network = record { names = []; links = [] }; lengths = []; order = []; scale = 0 };
}

abbrev pub round_at : List Round → ℕ → Round
round_at rounds j = slice_index_or rounds j no_round

-- the generator of the seed for the purpose 0, once the rounds before round j have drawn their words
abbrev pub generator_at : Network → ℕ → ℕ → ChaCha
generator_at net seed j = generator seed 0 (j * (node_count net + 1))

-- for each link the tree path between its ends
pub record AreLinkPaths (net : Network) (tree : Embedding) (paths : List (List ℕ)) : Type 0 where
  pub count : length paths ≡ link_count net
  pub each : (h : ℕ) → h < link_count net → IsTreePath tree (tail_of net h) (head_of net h) (Some (slice_index_or paths h []))

-- the loads of a tree: each link puts its capacity on every link of the tree path between its ends
abbrev pub AreTreeLoads : Network → Embedding → List ℕ → Type 0
AreTreeLoads net tree loads = (paths : List (List ℕ)) × AreLinkPaths net tree paths × (loads ≡ loads_of net (capacity_of net) paths)

-- the loads of round j
abbrev pub loads_at : List (List ℕ) → ℕ → List ℕ
loads_at loads j = slice_index_or loads j []

-- the multipliers of round j: the first ones, grown by the loads of each round before over their greatest usage
abbrev pub tree_multipliers : Network → List (List ℕ) → ℕ → List ℕ
tree_multipliers net loads j = multipliers_after net (loads_at loads) (λ i. greatest_usage net (loads_at loads i)) j

-- as many rounds as there are trees, and the loads of each tree
pub record IsMix (net : Network) (trees seed : ℕ) (rounds : List Round) : Type 0 where
  pub count : length rounds ≡ trees
  pub loads : List (List ℕ)
  pub are_loads : (j : ℕ) → j < trees → AreTreeLoads net (round_at rounds j).tree (loads_at loads j)
  pub each : (j : ℕ) → j < trees → IsTreeRound net (generator_at net seed j) (tree_multipliers net loads j) (round_at rounds j)

-- the tree path from s to t in each round
pub record AreTreePaths (rounds : List Round) (s t : ℕ) (paths : List (List ℕ)) : Type 0 where
  pub count : length paths ≡ length rounds
  pub each : (j : ℕ) → j < length rounds → IsTreePath (round_at rounds j).tree s t (Some (slice_index_or paths j []))

-- the demand of a pair goes in even parts over its tree paths
abbrev pub IsMixSplit : List Round → Network → Pair → List PathShare → Type 0
IsMixSplit rounds net pair shares =
    (paths : List (List ℕ)) × AreTreePaths rounds pair.src pair.dst paths × IsEvenMix paths shares
