-- The network that a seed draws: a ring of nodes, and chords between nodes that are not beside each other. Its words are those of the
-- seed for the purpose 2, taken in order.
use Rattle.std.specs.Prelude.{ℕ, ◌+◌, ◌-◌, ◌*◌, ◌/◌, ◌%◌, nat_le, List, [], ◌∷◌, ◌++◌, map, flat_map, codes, decimal, if◌then◌else◌}
use Rattle.std.specs.List.{range_with_len}
use Rattle.te_model.specs.declared.network.Link.{Link}
use Rattle.te_model.specs.declared.network.Network.{Network}
use Rattle.te_model.specs.declared.route.Pair.{Pair}
use Rattle.te_model.specs.Network.{node_count}
use Rattle.te_model.specs.Pairs.{IsPairAmong}
use Rattle.shortest_path.specs.Paths.{HasPath}
use Rattle.random_words.specs.Words.{word_of_seed}

-- n0, n1 and so on
abbrev pub node_names : ℕ → List (List ℕ)
node_names n = map (λ i. codes "n" ++ decimal i) (range_with_len 0 n)

-- two links between two nodes, there and back, with the capacity and the cost of two words
abbrev pub both_ways : ℕ → ℕ → ℕ → ℕ → List Link
both_ways i j w v =
    record { tail = i; head = j; capacity = 1000 * (1 + w % 10); cost = 1 + v % 10 }
    ∷ record { tail = j; head = i; capacity = 1000 * (1 + w % 10); cost = 1 + v % 10 } ∷ []

-- node i and the next one of the ring
abbrev pub ring_links : ℕ → ℕ → ℕ → List Link
ring_links n seed i = both_ways i ((i + 1) % n) (word_of_seed seed 2 (2 * i)) (word_of_seed seed 2 (2 * i + 1))

abbrev pub ring_of : ℕ → ℕ → List Link
ring_of n seed = flat_map (ring_links n seed) (range_with_len 0 n)

-- node i and one that is not beside it
abbrev pub chord_links : ℕ → ℕ → ℕ → List Link
chord_links n seed i =
    let first = 2 * n + 3 * i in
    both_ways i ((i + 2 + word_of_seed seed 2 first % (n - 3)) % n) (word_of_seed seed 2 (first + 1)) (word_of_seed seed 2 (first + 2))

-- of the first half of the nodes, where there are four or more
abbrev pub chords_of : ℕ → ℕ → List Link
chords_of n seed = if nat_le 4 n then flat_map (chord_links n seed) (range_with_len 0 (n / 2)) else []

abbrev pub network_of : ℕ → ℕ → Network
network_of n seed = record { names = node_names n; links = ring_of n seed ++ chords_of n seed }

-- some links lead from each node to each other one
abbrev pub IsConnected : Network → Type 0
IsConnected net = (pair : Pair) → IsPairAmong (node_count net) pair → HasPath net pair.src pair.dst
