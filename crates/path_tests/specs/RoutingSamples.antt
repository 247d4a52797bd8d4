-- Networks and a routing that tests use.
use Rattle.std.specs.Prelude.{ℕ, List, [], ◌∷◌, codes}
use Rattle.te_model.specs.declared.network.Network.{Network}
use Rattle.te_model.specs.declared.route.PathShare.{PathShare}
use Rattle.te_model.specs.declared.route.PairRoutes.{PairRoutes}
use Rattle.sample_networks.specs.Literals.{network_with, routes_of, share_of}

-- the nodes s, t and x, a straight link from s to t, a way over x, and a link from x back to s
abbrev pub way_and_back : Network
way_and_back = network_with (codes "s" ∷ codes "t" ∷ codes "x" ∷ []) ((0, 1, 10, 1) ∷ (0, 2, 10, 1) ∷ (2, 1, 10, 1) ∷ (2, 0, 10, 1) ∷ [])

-- the nodes s, t, x, y and z, with links from s to each of x, y and z, and from each of these to t
abbrev pub three_middles : Network
three_middles = network_with (codes "s" ∷ codes "t" ∷ codes "x" ∷ codes "y" ∷ codes "z" ∷ [])
    ((0, 2, 10, 1) ∷ (0, 3, 10, 1) ∷ (0, 4, 10, 1) ∷ (2, 1, 10, 1) ∷ (3, 1, 10, 1) ∷ (4, 1, 10, 1) ∷ [])

-- a third of a million over each of x, y and z
abbrev pub thirds : List ℕ
thirds = 333334 ∷ 333333 ∷ 333333 ∷ 333334 ∷ 333333 ∷ 333333 ∷ []

-- the nodes a, m and b: a link from a to m, two from m to b, and one from b back to a
abbrev pub fork : Network
fork = network_with (codes "a" ∷ codes "m" ∷ codes "b" ∷ []) ((0, 1, 10, 1) ∷ (1, 2, 10, 1) ∷ (1, 2, 10, 1) ∷ (2, 0, 10, 1) ∷ [])

-- half of the demand on each of two paths
abbrev pub half_each : List ℕ → List ℕ → List PathShare
half_each first second = share_of first 500000 ∷ share_of second 500000 ∷ []

-- from a to b and from m to b, each in halves over the two links from m to b
abbrev pub halves : List PairRoutes
halves = routes_of 0 2 (half_each (0 ∷ 1 ∷ []) (0 ∷ 2 ∷ [])) ∷ routes_of 1 2 (half_each (1 ∷ []) (2 ∷ [])) ∷ []
