-- What leaves and what arrives at the nodes, where each link has its part.
use Rattle.std.proofs.Common.{◌≡◌, ℕ, ◌+◌, ◌<◌, ◌≤◌, Bool, true, false, List, Option, arith, refl, ap, ◌∙◌, subst, ◌==◌}
use Rattle.std.specs.Prelude.{if◌then◌else◌, ◌&&◌}
use Rattle.std.proofs.lemmas.Bool.{eqb-true}
use Rattle.te_model.specs.declared.network.Network.{Network}
use Rattle.te_model.specs.declared.units.TheConstants.{SHARE_UNIT}
use Rattle.te_model.specs.Counting.{sum_below, count_below}
use Rattle.te_model.specs.Network.{node_count, link_count, tail_of, head_of}
use Rattle.te_model.specs.Flow.{outflow, inflow, amount_at}
use Rattle.te_model.specs.Laws.{LinksJoinNodes}
use Rattle.te_model.proofs.Sums.{sum_below-same, sum_below-le, sum_below-add, sum_below-swap, sum_below-pick, sum_below-zero}
use Rattle.te_model.proofs.Conditionals.{if_false, if_le}
use Rattle.ecmp_split.specs.Equal.{is_next, is_next_of, next_count, next_place, equal_part, arrivals_at, next_part}
use Rattle.ecmp_split.proofs.Parts.{parts_sum, parts_sum-le, sum_passing, sum_below-but}

-- a link that is no next link gets nothing
pub next_part-none : (net : Network) (sums : List (Option ℕ)) (flow : ℕ → ℕ) (s h : ℕ) → is_next net sums h ≡ false → next_part net sums flow s h ≡ 0
next_part-none net sums flow s h misses =
    if_false (is_next net sums h) (equal_part (arrivals_at net flow s (tail_of net h)) (next_count net sums (tail_of net h)) (next_place net sums h)) misses

-- what a link gets hangs on what arrives at its tail
pub next_part-kept : (net : Network) (sums : List (Option ℕ)) (f g : ℕ → ℕ) (s h : ℕ) → arrivals_at net g s (tail_of net h) ≡ arrivals_at net f s (tail_of net h) →
    next_part net sums g s h ≡ next_part net sums f s h
next_part-kept net sums f g s h same =
    ap (λ x. if is_next net sums h then equal_part x (next_count net sums (tail_of net h)) (next_place net sums h) else 0) same

-- where each link with this end has no flow, the node has none
pub end_none : (net : Network) (flow : ℕ → ℕ) (end' : ℕ → ℕ) (v : ℕ) → ((h : ℕ) → h < link_count net → end' h ≡ v → flow h ≡ 0) →
    sum_below (link_count net) (λ h. if end' h == v then flow h else 0) ≡ 0
end_none net flow end' v none = sum_below-zero (link_count net) (λ h. if end' h == v then flow h else 0) (λ h inside. go h inside (end' h == v) refl)
  where
    go : (h : ℕ) → h < link_count net → (b : Bool) → (end' h == v) ≡ b → (if b then flow h else 0) ≡ 0
    go h inside true e = none h inside (eqb-true (end' h) v e)
    go h inside false e = refl

-- summed over the nodes, the ends of links give all of the flow
ends_sum : (n m : ℕ) (end' flow : ℕ → ℕ) → ((h : ℕ) → h < m → end' h < n) →
    sum_below n (λ v. sum_below m (λ h. if end' h == v then flow h else 0)) ≡ sum_below m flow
ends_sum n m end' flow ends =
    sum_below-swap n m (λ v h. if end' h == v then flow h else 0)
    ∙ sum_below-same m (λ h. sum_below n (λ v. if end' h == v then flow h else 0)) flow (λ h below. sum_below-pick n (end' h) (λ v. flow h) (ends h below))

pub outflows_sum : (net : Network) (flow : ℕ → ℕ) → LinksJoinNodes net → sum_below (node_count net) (outflow net flow) ≡ sum_below (link_count net) flow
outflows_sum net flow ends = ends_sum (node_count net) (link_count net) (tail_of net) flow (λ h below. (ends h below).0)

pub arriving_sum : (net : Network) (flow : ℕ → ℕ) (s : ℕ) → LinksJoinNodes net → s < node_count net →
    sum_below (node_count net) (arrivals_at net flow s) ≡ sum_below (link_count net) flow + SHARE_UNIT
arriving_sum net flow s ends inside =
    omega (
      arith,
      sum_below-add (node_count net) (inflow net flow) (amount_at s SHARE_UNIT),
      ends_sum (node_count net) (link_count net) (head_of net) flow (λ h below. (ends h below).1),
      sum_below-pick (node_count net) s (λ v. SHARE_UNIT) inside,
    )

-- what leaves a node whose next links get their parts
outflow_parts : (net : Network) (sums : List (Option ℕ)) (flow : ℕ → ℕ) (s v : ℕ) →
    outflow net (next_part net sums flow s) v ≡ sum_below (next_count net sums v) (equal_part (arrivals_at net flow s v) (next_count net sums v))
outflow_parts net sums flow s v =
    sum_below-same (link_count net) (λ h. if tail_of net h == v then next_part net sums flow s h else 0)
    (λ h. if is_next_of net sums v h then equal_part (arrivals_at net flow s v) (next_count net sums v) (count_below h (is_next_of net sums v)) else 0)
    (λ h inside. go h (tail_of net h == v) refl)
    ∙ sum_passing (link_count net) (is_next_of net sums v) (equal_part (arrivals_at net flow s v) (next_count net sums v))
  where
    go : (h : ℕ) (b : Bool) → (tail_of net h == v) ≡ b →
        (if b then next_part net sums flow s h else 0)
        ≡ (if b && is_next net sums h then equal_part (arrivals_at net flow s v) (next_count net sums v) (count_below h (is_next_of net sums v)) else 0)
    go h true e =
        subst (λ w. next_part net sums flow s h ≡ (if is_next net sums h then equal_part (arrivals_at net flow s w) (next_count net sums w) (count_below h (is_next_of net sums w)) else 0))
        (eqb-true (tail_of net h) v e) refl
    go h false e = refl

pub outflow-le : (net : Network) (sums : List (Option ℕ)) (flow : ℕ → ℕ) (s v : ℕ) → ((h : ℕ) → h < link_count net → flow h ≤ next_part net sums flow s h) →
    outflow net flow v ≤ arrivals_at net flow s v
outflow-le net sums flow s v each =
    omega (
      arith,
      sum_below-le (link_count net) (λ h. if tail_of net h == v then flow h else 0) (λ h. if tail_of net h == v then next_part net sums flow s h else 0)
          (λ h inside. if_le (tail_of net h == v) (flow h) (next_part net sums flow s h) (each h inside)),
      outflow_parts net sums flow s v,
      parts_sum-le (arrivals_at net flow s v) (next_count net sums v),
    )

-- all that arrives goes on over the next links, if there are any
pub outflow_is : (net : Network) (sums : List (Option ℕ)) (flow : ℕ → ℕ) (s v : ℕ) → ((h : ℕ) → h < link_count net → flow h ≡ next_part net sums flow s h) →
    0 < next_count net sums v → outflow net flow v ≡ arrivals_at net flow s v
outflow_is net sums flow s v each some =
    sum_below-same (link_count net) (λ h. if tail_of net h == v then flow h else 0) (λ h. if tail_of net h == v then next_part net sums flow s h else 0)
    (λ h inside. ap (λ x. if tail_of net h == v then x else 0) (each h inside))
    ∙ (outflow_parts net sums flow s v ∙ parts_sum (arrivals_at net flow s v) (next_count net sums v) some)

-- no more than the unit of shares arrives at a node from which nothing has gone on
pub few_units : (net : Network) (sums : List (Option ℕ)) (flow : ℕ → ℕ) (s v : ℕ) → LinksJoinNodes net → s < node_count net → v < node_count net →
    ((h : ℕ) → h < link_count net → flow h ≤ next_part net sums flow s h) → outflow net flow v ≡ 0 → arrivals_at net flow s v ≤ SHARE_UNIT
few_units net sums flow s v ends s_in v_in each none =
    omega (
      arith,
      sum_below-but (node_count net) v (outflow net flow) (arrivals_at net flow s) v_in (λ u inside. outflow-le net sums flow s u each),
      outflows_sum net flow ends,
      arriving_sum net flow s ends s_in,
      none,
    )
