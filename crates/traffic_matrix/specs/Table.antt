-- What a table of demands holds.
use Rattle.std.specs.Prelude.{ℕ, ◌≡◌, Bool, false, ◌&&◌, ◌||◌, ◌==◌, Option, Some, None, map, slice_index_or, vec_len, if◌then◌else◌}
use Rattle.te_model.specs.declared.route.Pair.{Pair}
use Rattle.te_model.specs.Pairs.{IsNodePair}
use Rattle.traffic_matrix.specs.declared.step_demands.StepDemands.{StepDemands}
use Rattle.traffic_matrix.specs.declared.table.Table.{Table}
use Rattle.traffic_matrix.specs.Pairs.{place_of_pair, same_pair}

-- the demand at the place of a pair, where there is one: none past the room that the step has
abbrev pub demand_of_place : StepDemands → ℕ → Option ℕ
demand_of_place s place = if slice_index_or s.given.items place false then Some (slice_index_or s.demands.items place 0) else None

-- the demand of a pair in a step, where there is one
abbrev pub demand_at : Table → ℕ → Pair → Option ℕ
demand_at t step pair = slice_index_or (map (λ s. demand_of_place s (place_of_pair t.nodes pair)) t.steps.items) step None

-- whether the pair had a demand in some step
abbrev pub declared_at : Table → Pair → Bool
declared_at t pair = slice_index_or t.declared.items (place_of_pair t.nodes pair) false

-- the same demands, in so many steps
pub record IsGrown (old new : Table) (count : ℕ) : Type 0 where
  pub nodes : new.nodes ≡ old.nodes
  pub steps : vec_len new.steps ≡ count
  pub demands : (step : ℕ) (pair : Pair) → IsNodePair old.nodes pair → demand_at new step pair ≡ demand_at old step pair
  pub declared : new.declared.items ≡ old.declared.items

-- the demand of a pair in a step is this one, and every other is as it was
pub record IsPut (old new : Table) (at : ℕ) (pair : Pair) (demand : ℕ) : Type 0 where
  pub nodes : new.nodes ≡ old.nodes
  pub demands : (step : ℕ) (p : Pair) → IsNodePair old.nodes p → demand_at new step p ≡ (if at == step && same_pair pair p then Some demand else demand_at old step p)
  pub declared : (p : Pair) → IsNodePair old.nodes p → declared_at new p ≡ (same_pair pair p || declared_at old p)
