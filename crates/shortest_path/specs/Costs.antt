-- The costs of links as lengths, and the order of paths by cost.
use Rattle.std.specs.Prelude.{◌≡◌, ℕ, ◌≤◌, All, List, length, map}
use Rattle.te_model.specs.declared.network.Network.{Network}
use Rattle.te_model.specs.Network.{link_count}
use Rattle.shortest_path.specs.Paths.{IsBelow}

abbrev pub costs_of : Network → List ℕ
costs_of net = map (λ l. l.cost) net.links

-- the order of paths: by the sum of costs, then by the list of links
abbrev pub IsBefore : Network → List ℕ → List ℕ → Type 0
IsBefore net p q = IsBelow (costs_of net) p q

-- the costs of the links, which are within their limits
pub record HasCosts (net : Network) (costs : List ℕ) : Type 0 where
  pub are : costs ≡ costs_of net
  pub count : length costs ≡ link_count net
  pub positive : All (λ c. 1 ≤ c) costs
  pub small : All (λ c. c ≤ 65535) costs
