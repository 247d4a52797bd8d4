-- Pairs of nodes and their places, which ascend by source, and then by destination.
use Rattle.std.specs.Prelude.{ℕ, ◌+◌, ◌*◌, ◌/◌, ◌%◌, Bool, false, ◌&&◌, ◌==◌, List, [], ◌∷◌, map}
use Rattle.std.specs.List.{range_with_len}
use Rattle.te_model.specs.declared.route.Pair.{Pair}

abbrev pub same_pair : Pair → Pair → Bool
same_pair p q = p.src == q.src && p.dst == q.dst

-- the list begins with the pair
abbrev pub begins_with : List Pair → Pair → Bool
begins_with [] pair = false
begins_with (p ∷ ps) pair = same_pair p pair

-- the place of a pair among all pairs of n nodes
abbrev pub place_of_pair : ℕ → Pair → ℕ
place_of_pair n pair = pair.src * n + pair.dst

-- the pair at a place
abbrev pub pair_of_place : ℕ → ℕ → Pair
pair_of_place n k = record { src = k / n; dst = k % n }

abbrev pub all_pairs : ℕ → List Pair
all_pairs n = map (pair_of_place n) (range_with_len 0 (n * n))
