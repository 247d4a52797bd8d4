-- What is known of every tree, as statements.
use Rattle.std.specs.Prelude.{◌≡◌, ℕ, ◌<◌, IsTrue, List, Some}
use Rattle.te_model.specs.Network.{node_count}
use Rattle.te_model.specs.Path.{is_path}
use Rattle.shortest_path.specs.Paths.{HasPath}
use Rattle.tree_embed.specs.Embedding.{Embedding, IsEmbedding}
use Rattle.tree_embed.specs.TreePaths.{IsTreePath}

-- from each node to another that some links lead to there is a tree path, and it is a path of the network
abbrev pub TreePathsExist : Type 0
TreePathsExist =
    (e : Embedding) → IsEmbedding e → (s t : ℕ) → s < node_count e.network → t < node_count e.network → (s ≡ t → ⊥) → HasPath e.network s t →
    (path : List ℕ) × IsTreePath e s t (Some path) × IsTrue (is_path e.network s t path)
