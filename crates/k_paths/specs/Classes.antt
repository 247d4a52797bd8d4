-- The order of paths, the first of them, and classes of paths by how they begin.
use Rattle.std.specs.Prelude.{if◌then◌else◌, ◌≡◌, ◌⊎◌, MatchOption, Option, Vec, ℕ, ◌<◌, ◌≤◌, ◌++◌, ◌&&◌, ◌||◌, slice_index_or, ◌==◌, not, IsTrue, Bool, true, false, List, [], ◌∷◌, length, take, slice_index, All}
use Rattle.std.specs.declared.alloc.Global.{Global}
use Rattle.std.specs.List.{AllPairs, Contains, list_any}
use Rattle.te_model.specs.declared.network.Network.{Network}
use Rattle.te_model.specs.Network.{link_count, tail_of, head_of, no_link}
use Rattle.te_model.specs.declared.network.Link.{Link}
use Rattle.te_model.specs.Path.{chains, is_distinct, is_path, has_number, nodes_visited}
use Rattle.shortest_path.specs.Costs.{IsBefore}
use Rattle.shortest_path.specs.Links.{is_open}

-- the first k of all paths from s to t, or all of them where there are fewer
pub record AreLeast (net : Network) (s t k : ℕ) (paths : List (List ℕ)) : Type 0 where
  pub few : length paths ≤ k
  pub sound : All (λ p. IsTrue (is_path net s t p)) paths
  pub ascending : AllPairs (IsBefore net) paths
  pub others : (q : List ℕ) → IsTrue (is_path net s t q) → Contains paths q ⊎ ((length paths ≡ k) × All (λ p. IsBefore net p q) paths)

-- a path that begins with these links and goes on with a link that is not excluded
pub record InClass (net : Network) (s t : ℕ) (prefix excluded q : List ℕ) : Type 0 where
  pub sound : is_path net s t q ≡ true
  pub next : ℕ
  pub rest : List ℕ
  pub is : q ≡ prefix ++ next ∷ rest
  pub allowed : has_number excluded next ≡ false

-- the least path of the class of those that begin with its first links, as many as are fixed
pub record IsLeastOfClass (net : Network) (s t : ℕ) (links : List ℕ) (fixed : ℕ) (excluded : List ℕ) : Type 0 where
  pub inside : fixed < length links
  pub member : InClass net s t (take fixed links) excluded links
  pub least : (q : List ℕ) → InClass net s t (take fixed links) excluded q → (q ≡ links) ⊎ IsBefore net links q

-- the first links of a path from s to t, which lead to v before t
pub record IsPrefix (net : Network) (s t v : ℕ) (prefix : List ℕ) : Type 0 where
  pub chain : chains net s v prefix ≡ true
  pub apart : is_distinct (nodes_visited net s prefix) ≡ true
  pub differ : v ≡ t → ⊥

-- the least path of the class of those that begin with the prefix, or none where there is no path of the class
abbrev pub IsLeastIn : Network → ℕ → ℕ → List ℕ → List ℕ → Option (Vec ℕ Global) → Type 0
IsLeastIn net s t prefix excluded found =
    MatchOption found ((q : List ℕ) → InClass net s t prefix excluded q → ⊥)
    (λ m. IsLeastOfClass net s t m.items (length prefix) excluded × (take (length prefix) m.items ≡ prefix))

-- the marks of the links over which a class's paths may go on from v
abbrev pub AreClassMarks : Network → ℕ → ℕ → List ℕ → List ℕ → List Bool → Type 0
AreClassMarks net s v prefix excluded marks =
    (h : ℕ) → h < link_count net →
    is_open marks h ≡ (not (has_number (nodes_visited net s prefix) (head_of net h)) && not (tail_of net h == v && has_number excluded h))

-- what is excluded for the paths that leave the links at place i, and not before
abbrev pub excluded_at : List ℕ → ℕ → List ℕ → ℕ → List ℕ
excluded_at links fixed excluded i = (if i == fixed then excluded else []) ++ slice_index links i ∷ []

-- whether the link leads to no node of the prefix, and is not one that is excluded at v
abbrev pub is_allowed_link : List Link → ℕ → List ℕ → List ℕ → ℕ → ℕ → Bool
is_allowed_link links s prefix excluded v h =
    not (s == (slice_index_or links h no_link).head || list_any (λ k. (slice_index_or links k no_link).head == (slice_index_or links h no_link).head) prefix)
    && not ((slice_index_or links h no_link).tail == v && has_number excluded h)
