-- Equal-cost multipath: at each node the flow is split equally over the next links of the least-cost paths (RFC 2328, section 16.1; RFC 2991).
use Rattle.std.specs.Prelude.{◌≡◌, ℕ, ◌+◌, ◌/◌, ◌%◌, ◌<◌, Bool, ◌&&◌, List, Option, length, nat_lt, ◌==◌, if◌then◌else◌}
use Rattle.te_model.specs.declared.network.Network.{Network}
use Rattle.te_model.specs.declared.units.TheConstants.{SHARE_UNIT}
use Rattle.te_model.specs.Counting.{count_below}
use Rattle.te_model.specs.Network.{node_count, link_count, tail_of, head_of, cost_of}
use Rattle.te_model.specs.Flow.{inflow, amount_at}
use Rattle.shortest_path.specs.Costs.{costs_of}
use Rattle.shortest_path.specs.Graph.{distance_at}
use Rattle.shortest_path.specs.Least.{is_sum}
use Rattle.shortest_path.specs.Paths.{IsDistance}

-- for each node the least cost from it to t, or none where no links lead there
pub record AreCostsTo (net : Network) (t : ℕ) (sums : List (Option ℕ)) : Type 0 where
  pub count : length sums ≡ node_count net
  pub each : (v : ℕ) → v < node_count net → IsDistance net (costs_of net) v t (distance_at sums v)

-- whether link h is a next link of its tail: the least cost falls along it by exactly its cost
abbrev pub is_next : Network → List (Option ℕ) → ℕ → Bool
is_next net sums h = is_sum (distance_at sums (tail_of net h)) (distance_at sums (head_of net h)) (cost_of net h)

-- whether link h is a next link of node v
abbrev pub is_next_of : Network → List (Option ℕ) → ℕ → ℕ → Bool
is_next_of net sums v h = tail_of net h == v && is_next net sums h

-- how many next links node v has
abbrev pub next_count : Network → List (Option ℕ) → ℕ → ℕ
next_count net sums v = count_below (link_count net) (is_next_of net sums v)

-- the place of link h among the next links of its tail, by number
abbrev pub next_place : Network → List (Option ℕ) → ℕ → ℕ
next_place net sums h = count_below h (is_next_of net sums (tail_of net h))

-- part r of x units in j parts that differ by one at most: the first x % j parts have one unit more
abbrev pub equal_part : ℕ → ℕ → ℕ → ℕ
equal_part x j r = x / j + (if nat_lt r (x % j) then 1 else 0)

-- what arrives at node v: the flow into it, and at the source the unit of shares
abbrev pub arrivals_at : Network → (ℕ → ℕ) → ℕ → ℕ → ℕ
arrivals_at net flow s v = inflow net flow v + amount_at s SHARE_UNIT v

-- what link h gets: a next link its part of what arrives at its tail, any other link nothing
abbrev pub next_part : Network → List (Option ℕ) → (ℕ → ℕ) → ℕ → ℕ → ℕ
next_part net sums flow s h =
    if is_next net sums h
    then equal_part (arrivals_at net flow s (tail_of net h)) (next_count net sums (tail_of net h)) (next_place net sums h)
    else 0

-- the flow from s to t that is split equally over the next links at each node
pub record IsEqualSplit (net : Network) (s t : ℕ) (flow : ℕ → ℕ) : Type 0 where
  pub sums : List (Option ℕ)
  pub costs : AreCostsTo net t sums
  pub parts : (h : ℕ) → h < link_count net → flow h ≡ next_part net sums flow s h
