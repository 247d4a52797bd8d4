-- What the tables of a step say before a round.
use Rattle.std.specs.Prelude.{ℕ, ◌≡◌, ◌<◌, List, length, map, slice_index}
use Rattle.std.specs.List.{range_with_len}
use Rattle.te_model.specs.declared.network.Network.{Network}
use Rattle.te_model.specs.declared.route.PairRoutes.{PairRoutes}
use Rattle.flow_sim.specs.declared.state.State.{State}
use Rattle.flow_sim.specs.Step.{Setting, units, before_round, lost_failed_before, lost_full_before}
use Rattle.flow_sim.specs.Traffic.{flow_starts}

-- the tables say what the definition says before round r
pub record IsState (s : Setting) (r : ℕ) (state : State) : Type 0 where
  pub flows : length state.units.items ≡ s.flows
  pub full_flows : length state.lost_full.items ≡ s.flows
  pub failed_flows : length state.lost_failed.items ≡ s.flows
  pub links : length state.left.items ≡ s.links
  pub units_are : (f : ℕ) → f < s.flows → slice_index state.units.items f ≡ units s f r
  pub full_is : (f : ℕ) → f < s.flows → slice_index state.lost_full.items f ≡ lost_full_before s f r
  pub failed_is : (f : ℕ) → f < s.flows → slice_index state.lost_failed.items f ≡ lost_failed_before s f r
  pub left_is : (e : ℕ) → e < s.links → slice_index state.left.items e ≡ (before_round s r).left e

-- the tables of a step with these units and these capacities, of which nothing was lost or served
pub record HasBegun (starts capacities : List ℕ) (state : State) : Type 0 where
  pub units : state.units.items ≡ starts
  pub full : state.lost_full.items ≡ map (λ i. 0) (range_with_len 0 (length state.units.items))
  pub failed : state.lost_failed.items ≡ map (λ i. 0) (range_with_len 0 (length state.units.items))
  pub left : state.left.items ≡ capacities

-- the tables of a step that has not begun
abbrev pub IsStart : Network → List PairRoutes → List ℕ → State → Type 0
IsStart net rates demand state = HasBegun (flow_starts rates demand) (map (λ l. l.capacity) net.links) state
