-- The loads of a tree, link by link.
use Rattle.std.proofs.Common.{◌≡◌, ℕ, ◌+◌, ◌^◌, ◌<◌, ◌≤◌, List, [], ◌∷◌, ◌++◌, Some, length, get_or, replicate, arith, refl, ap, sym, ◌∙◌}
use Rattle.std.proofs.lemmas.List.{get_or_push}
use Rattle.te_model.specs.declared.network.Network.{Network}
use Rattle.te_model.specs.declared.limits.TheConstants.{FORMAT_2}
use Rattle.te_model.specs.Network.{link_count, capacity_of, tail_of, head_of}
use Rattle.te_model.specs.Path.{amount_on}
use Rattle.te_model.proofs.Choices.{pushed_count, pushed_each}
use Rattle.tree_embed.specs.Embedding.{Embedding}
use Rattle.tree_embed.specs.TreePaths.{IsTreePath}
use Rattle.multiplicative_lengths.proofs.Loading.{LoadsSoFar, length-loads_of, loads_done, loads_kept, loads_more, loads_none}
use Rattle.racke_mix.specs.Mix.{AreTreeLoads}

-- the loads of the tree paths of the first h links
pub record TreeLoadsSoFar (net : Network) (tree : Embedding) (h : ℕ) (loads : List ℕ) : Type 0 where
  pub paths : List (List ℕ)
  pub count : length paths ≡ h
  pub each : (k : ℕ) → k < h → IsTreePath tree (tail_of net k) (head_of net k) (Some (get_or paths k []))
  pub loaded : LoadsSoFar net (capacity_of net) (2 ^ 32) paths h loads

pub tree_loads_none : (net : Network) (tree : Embedding) (n : ℕ) (loads : List ℕ) → n ≡ link_count net → loads ≡ replicate n 0 → TreeLoadsSoFar net tree 0 loads
tree_loads_none net tree n loads same are = record {
  paths = [];
  count = refl;
  each = λ k below. absurd (omega arith);
  loaded = loads_none net (capacity_of net) (2 ^ 32) [] n loads same are;
}

-- one link more
pub tree_loads_more : (net : Network) (tree : Embedding) (h : ℕ) (loads next path : List ℕ) → TreeLoadsSoFar net tree h loads → length next ≡ length loads →
    IsTreePath tree (tail_of net h) (head_of net h) (Some path) → capacity_of net h ≤ 2 ^ 32 →
    ((e : ℕ) → get_or next e 0 ≡ get_or loads e 0 + amount_on path (capacity_of net h) e) → TreeLoadsSoFar net tree (h + 1) next
tree_loads_more net tree h loads next path far kept is small added = record {
  paths = far.paths ++ path ∷ [];
  count = pushed_count far.paths path h far.count;
  each = pushed_each (λ k p. IsTreePath tree (tail_of net k) (head_of net k) (Some p)) far.paths path [] h far.count far.each is;
  loaded = loads_more net (capacity_of net) (2 ^ 32) (far.paths ++ path ∷ []) h loads next path
      (loads_kept net (capacity_of net) (2 ^ 32) far.paths (path ∷ []) h loads far.loaded far.count) kept (get_or_push far.paths path [] h far.count) small added;
}

pub tree_loads_done : (net : Network) (tree : Embedding) (h : ℕ) (loads : List ℕ) → TreeLoadsSoFar net tree h loads → h ≡ link_count net → AreTreeLoads net tree loads
tree_loads_done net tree h loads far done = (
  far.paths,
  record {
    count = far.count ∙ done;
    each = λ k below. far.each k (omega (arith, done, below));
  },
  loads_done net (capacity_of net) (2 ^ 32) far.paths h loads far.loaded (sym far.count),
)

pub tree_loads_small : (net : Network) (tree : Embedding) (h : ℕ) (loads : List ℕ) → TreeLoadsSoFar net tree h loads → h ≤ FORMAT_2.links → (e : ℕ) → get_or loads e 0 ≤ 2 ^ 42
tree_loads_small net tree h loads far few e = omega (arith, far.loaded.small e, few)

pub loads_count : (net : Network) (tree : Embedding) (loads : List ℕ) → AreTreeLoads net tree loads → length loads ≡ link_count net
loads_count net tree loads (paths, are, is) = ap (λ (l : List ℕ). length l) is ∙ length-loads_of net (capacity_of net) paths
