-- Networks, pairs and paths by names and numbers.
use Rattle.std.specs.Prelude.{ℕ, List, map}
use Rattle.te_model.specs.declared.network.Link.{Link}
use Rattle.te_model.specs.declared.network.Network.{Network}
use Rattle.te_model.specs.declared.route.Pair.{Pair}
use Rattle.te_model.specs.declared.route.PathShare.{PathShare}
use Rattle.te_model.specs.declared.route.PairRoutes.{PairRoutes}

-- the link with this tail, head, capacity and cost
abbrev pub link_of : ℕ × ℕ × ℕ × ℕ → Link
link_of l = record { tail = l.0; head = l.1; capacity = l.2; cost = l.3 }

-- the network of these nodes and links
abbrev pub network_with : List (List ℕ) → List (ℕ × ℕ × ℕ × ℕ) → Network
network_with nodes ends = record { names = nodes; links = map link_of ends }

-- the pair of this source and this destination
abbrev pub pair_of : ℕ × ℕ → Pair
pair_of p = record { src = p.0; dst = p.1 }

-- the path of these links, with this weight
abbrev pub share_of : List ℕ → ℕ → PathShare
share_of links weight = record { links = links; weight = weight }

-- the pair of this source and this destination, with these paths
abbrev pub routes_of : ℕ → ℕ → List PathShare → PairRoutes
routes_of src dst paths = record { pair = pair_of (src, dst); paths = paths }
