-- The first matrix of a series within the limits is within them.
use Rattle.std.proofs.Common.{ℕ, zero, ◌^◌, ◌≤◌, List, [], ◌∷◌, length, get_or, All, arith}
use Rattle.std.proofs.lemmas.List.{length-replicate}
use Rattle.std.proofs.lemmas.List.Elements.{All-replicate}
use Rattle.te_model.specs.declared.demand.Matrix.{Matrix}
use Rattle.te_model.specs.Pairs.{AreDemands}
use Rattle.traffic_matrix.specs.declared.series.Series.{Series}
use Rattle.traffic_matrix.specs.First.{first_matrix}
use Rattle.traffic_matrix.specs.Limits.{IsSeries}

first_of_steps : (pairs : ℕ) (steps : List Matrix) (none : Matrix) → All (λ m. AreDemands pairs m.demand) steps → AreDemands pairs none.demand →
    AreDemands pairs (get_or steps zero none).demand
first_of_steps pairs [] none all zeros = zeros
first_of_steps pairs (m ∷ ms) none all zeros = all zero none (omega arith)

pub first_demands : (n : ℕ) (series : Series) → IsSeries n series → AreDemands (length series.pairs.list) (first_matrix series).demand
first_demands n series is =
    first_of_steps (length series.pairs.list) series.steps _ is.matrices (record {
      count = length-replicate (length series.pairs.list) 0;
      small = All-replicate (λ d. d ≤ 2 ^ 32) (length series.pairs.list) 0 (omega arith);
    })
