-- The networks that more than one library is tested on.
use Rattle.std.specs.Prelude.{ℕ, [], ◌∷◌, codes}
use Rattle.te_model.specs.declared.network.Network.{Network}
use Rattle.sample_networks.specs.Literals.{network_with}

-- the nodes a and b, with a link there and one back
abbrev pub two_nodes : Network
two_nodes = network_with (codes "a" ∷ codes "b" ∷ []) ((0, 1, 10, 1) ∷ (1, 0, 10, 1) ∷ [])

-- the nodes a and b, with two links from a to b, of the capacities 10 and 30
abbrev pub parallel_links : Network
parallel_links = network_with (codes "a" ∷ codes "b" ∷ []) ((0, 1, 10, 1) ∷ (0, 1, 30, 1) ∷ [])

-- the nodes a, b and c, with a link from a to b and one from b to c
abbrev pub one_way : Network
one_way = network_with (codes "a" ∷ codes "b" ∷ codes "c" ∷ []) ((0, 1, 10, 1) ∷ (1, 2, 10, 1) ∷ [])

-- the nodes s, t, x and y: a straight link from s to t, a way over x, and a narrow way over y to x
abbrev pub four_nodes : Network
four_nodes = network_with (codes "s" ∷ codes "t" ∷ codes "x" ∷ codes "y" ∷ [])
    ((0, 1, 10, 1) ∷ (0, 2, 10, 1) ∷ (2, 1, 10, 1) ∷ (0, 3, 3, 3) ∷ (3, 2, 3, 3) ∷ [])

-- the nodes s, x, y, z and t: three ways of two links from s to t, of which the last link has this cost
abbrev pub three_ways : ℕ → Network
three_ways last = network_with (codes "s" ∷ codes "x" ∷ codes "y" ∷ codes "z" ∷ codes "t" ∷ [])
    ((0, 1, 10, 1) ∷ (0, 2, 10, 1) ∷ (0, 3, 10, 1) ∷ (1, 4, 10, 1) ∷ (2, 4, 10, 1) ∷ (3, 4, 10, last) ∷ [])
