-- What the tables of a step say of one flow, and how a link serves the flows in its queue.
use Rattle.std.specs.Prelude.{ℕ, ◌≡◌, ◌<◌, ◌+◌, ◌-◌, ◌^◌, Bool, false, List, [], length, map, sum, slice_index, slice_index_or, if◌then◌else◌}
use Rattle.std.specs.List.{range_with_len}
use Rattle.flow_sim.specs.declared.state.State.{State}
use Rattle.flow_sim.specs.Fair.{fair_shares}

-- what a flow still has, and what it has lost
pub record Flow : Type 0 where
  pub units : ℕ
  pub lost_full : ℕ
  pub lost_failed : ℕ

abbrev pub flow_at : State → ℕ → Flow
flow_at state f = record {
  units = slice_index state.units.items f;
  lost_full = slice_index state.lost_full.items f;
  lost_failed = slice_index state.lost_failed.items f;
}

-- a flow that a link serves so much: it loses the rest, on a failed link or on a full one
abbrev pub flow_served : Bool → Flow → ℕ → Flow
flow_served failed flow share = record {
  units = share;
  lost_full = if failed then flow.lost_full else flow.lost_full + (flow.units - share);
  lost_failed = if failed then flow.lost_failed + (flow.units - share) else flow.lost_failed;
}

-- what a link serves of what arrives: nothing if it has failed, and else fair shares of what it has left
abbrev pub link_serves : Bool → ℕ → List ℕ → List ℕ
link_serves failed left arrivals = if failed then map (λ i. 0) (range_with_len 0 (length arrivals)) else fair_shares left arrivals

-- what link e serves the flows of its queue
abbrev pub served_by : Bool → ℕ → List ℕ → State → List ℕ
served_by failed e queue state = link_serves failed (slice_index state.left.items e) (map (slice_index state.units.items) queue)

abbrev pub IsAbsent : List ℕ → ℕ → Type 0
IsAbsent queue f = (i : ℕ) → i < length queue → slice_index queue i ≡ f → ⊥

-- as many flows and links
pub record HasShape (flows links : ℕ) (state : State) : Type 0 where
  pub units : length state.units.items ≡ flows
  pub lost_full : length state.lost_full.items ≡ flows
  pub lost_failed : length state.lost_failed.items ≡ flows
  pub left : length state.left.items ≡ links

-- what the flow may still lose can be added to what it has lost
abbrev pub HasRoomFor : State → ℕ → Type 0
HasRoomFor state f =
    (slice_index state.lost_full.items f + slice_index state.units.items f < 2 ^ 64)
    × (slice_index state.lost_failed.items f + slice_index state.units.items f < 2 ^ 64)

-- link e served the flows of its queue
pub record IsServed (failed : Bool) (e : ℕ) (queue : List ℕ) (before after : State) : Type 0 where
  pub served : (i : ℕ) → i < length queue →
      flow_at after (slice_index queue i) ≡ flow_served failed (flow_at before (slice_index queue i)) (slice_index (served_by failed e queue before) i)
  pub left : slice_index after.left.items e ≡ slice_index before.left.items e - sum (served_by failed e queue before)

-- so did every link, in a round with these queues
pub record IsServingRound (failed : List Bool) (queues : List (List ℕ)) (before after : State) : Type 0 where
  pub served : (e : ℕ) → e < length queues →
      IsServed (slice_index_or failed e false) e (slice_index_or queues e []) before after
  pub others : (f : ℕ) → ((e : ℕ) → e < length queues → IsAbsent (slice_index_or queues e []) f) → flow_at after f ≡ flow_at before f

-- the flows of the queues ascend, and none stands in two of them
pub record AreApart (flows : ℕ) (queues : List (List ℕ)) : Type 0 where
  pub inside : (e i : ℕ) → i < length (slice_index_or queues e []) → slice_index (slice_index_or queues e []) i < flows
  pub ascending : (e i j : ℕ) → i < j → j < length (slice_index_or queues e []) →
      slice_index (slice_index_or queues e []) i < slice_index (slice_index_or queues e []) j
  pub apart : (d e i j : ℕ) → i < length (slice_index_or queues d []) → j < length (slice_index_or queues e []) →
      slice_index (slice_index_or queues d []) i ≡ slice_index (slice_index_or queues e []) j → d ≡ e
