-- Series within the limits: ascending pairs of two different nodes, at most 1024 steps, demands of at most 2^32.
use Rattle.std.specs.Prelude.{ℕ, ◌≤◌, length, All}
use Rattle.te_model.specs.Pairs.{IsPairAmong, AreDemands, AscendPairs}
use Rattle.traffic_matrix.specs.declared.series.Series.{Series}

-- a series for a network of n nodes
pub record IsSeries (n : ℕ) (s : Series) : Type 0 where
  pub pairs : All (IsPairAmong n) s.pairs.list
  pub ascending : AscendPairs s.pairs.list
  pub few : length s.steps ≤ 1024
  pub matrices : All (λ m. AreDemands (length s.pairs.list) m.demand) s.steps
