-- Weighted sums of matrices, whose numbers end at the greatest of 128 bits.
use Rattle.std.specs.Prelude.{◌≡◌, ℕ, ◌+◌, ◌-◌, ◌*◌, ◌/◌, ◌^◌, ◌<◌, min, max, ◌==◌, List, length, slice_index, if◌then◌else◌}
use Rattle.worst_matrices.specs.declared.means.Sums.{Sums}

-- the number, or the greatest of 128 bits where it is greater
abbrev pub in_128_bits : ℕ → ℕ
in_128_bits n = min n (2 ^ 128 - 1)

-- the weight of a matrix, where the first one has this deviation: the first deviation over its own in parts of 2^20, from 1 to 2^40
abbrev pub weight_of : ℕ → ℕ → ℕ
weight_of first deviation = min (max (in_128_bits (first * 2 ^ 20) / max deviation 1) 1) (2 ^ 40)

-- each number has more by the weight
abbrev pub AreAdded : List ℕ → List ℕ → ℕ → List ℕ → Type 0
AreAdded old demand weight new = (p : ℕ) → p < length old → slice_index new p ≡ in_128_bits (slice_index old p + in_128_bits (slice_index demand p * weight))

-- the deviation of the first matrix, where this one is added
abbrev pub first_with : Sums → ℕ → ℕ
first_with sums deviation = if sums.first == 0 then deviation else sums.first

-- the sums with the matrix, by its weight
pub record IsAdded (old : Sums) (demand : List ℕ) (deviation : ℕ) (new : Sums) : Type 0 where
  pub first : new.first ≡ first_with old deviation
  pub weight : new.weight ≡ in_128_bits (old.weight + weight_of new.first deviation)
  pub sums : AreAdded old.demand.items demand (weight_of new.first deviation) new.demand.items
