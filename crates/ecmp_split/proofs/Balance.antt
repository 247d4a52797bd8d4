-- The equal split is an acyclic flow of the unit of shares.
use Rattle.std.proofs.Common.{◌≡◌, inl, inr, ℕ, ◌+◌, ◌<◌, ◌≤◌, Bool, true, false, List, Option, Some, None, arith, refl, ap, sym, ◌∙◌}
use Rattle.std.specs.Prelude.{nat_lt, unwrap_or, ◌==◌}
use Rattle.std.proofs.lemmas.Bool.{cases_Bool, cases_eq, eq-eqb, lt-ltb, ltb-true, le-ltb}
use Rattle.te_model.specs.declared.network.Network.{Network}
use Rattle.te_model.specs.declared.units.TheConstants.{SHARE_UNIT}
use Rattle.te_model.specs.Counting.{count_below}
use Rattle.te_model.specs.Network.{node_count, link_count, tail_of, head_of, cost_of}
use Rattle.te_model.specs.Flow.{IsFlow, outflow, inflow, amount_at}
use Rattle.te_model.specs.Laws.{LinksJoinNodes}
use Rattle.te_model.proofs.Counts.{count_below-lt, count_below-bound}
use Rattle.te_model.proofs.Conditionals.{if_other, if_true}
use Rattle.routing.specs.Decomposition.{IsAcyclicFlow, IsNumbering}
use Rattle.shortest_path.specs.Graph.{distance_at}
use Rattle.ecmp_split.specs.Equal.{AreCostsTo, is_next, next_part, arrivals_at}
use Rattle.ecmp_split.proofs.CostsTo.{next_parts, some_next, cost_at_end, no_next_from, no_next_to}
use Rattle.ecmp_split.proofs.NodeSums.{end_none, next_part-none, outflow_is, outflows_sum, arriving_sum}
use Rattle.ecmp_split.proofs.Parts.{sum_below-except}

-- what is given: least costs to t, and a flow in which each link has its part
pub record IsGiven (net : Network) (sums : List (Option ℕ)) (flow : ℕ → ℕ) (s t : ℕ) : Type 0 where
  pub ends : LinksJoinNodes net
  pub long : (h : ℕ) → h < link_count net → 1 ≤ cost_of net h
  pub costs : AreCostsTo net t sums
  pub parts : (h : ℕ) → h < link_count net → flow h ≡ next_part net sums flow s h
  pub s_in : s < node_count net
  pub t_in : t < node_count net
  pub apart : s ≡ t → ⊥
  pub known : (x : ℕ) × (distance_at sums s ≡ Some x)

no_flow : (net : Network) (sums : List (Option ℕ)) (flow : ℕ → ℕ) (s t : ℕ) → IsGiven net sums flow s t → (h : ℕ) → h < link_count net →
    is_next net sums h ≡ false → flow h ≡ 0
no_flow net sums flow s t is h inside misses = is.parts h inside ∙ next_part-none net sums flow s h misses

flow_next : (net : Network) (sums : List (Option ℕ)) (flow : ℕ → ℕ) (s t : ℕ) → IsGiven net sums flow s t → (h : ℕ) → h < link_count net →
    0 < flow h → is_next net sums h ≡ true
flow_next net sums flow s t is h inside some = elim (cases_Bool (is_next net sums h)) [
  | inl next ↦ next
  | inr misses ↦ absurd (omega (arith, some, no_flow net sums flow s t is h inside misses))
]

-- what leaves any other node than the destination is what arrives there
leaves : (net : Network) (sums : List (Option ℕ)) (flow : ℕ → ℕ) (s t : ℕ) → IsGiven net sums flow s t → (v : ℕ) → v < node_count net → (v ≡ t → ⊥) →
    outflow net flow v ≡ arrivals_at net flow s v
leaves net sums flow s t is v inside other = go (distance_at sums v) refl
  where
    go : (o : Option ℕ) → distance_at sums v ≡ o → outflow net flow v ≡ arrivals_at net flow s v
    go (Some x) at = outflow_is net sums flow s v is.parts (some_next net t sums is.costs is.ends v x inside other at)
    go None at =
        let out : outflow net flow v ≡ 0 = end_none net flow (tail_of net) v (λ h below from. no_flow net sums flow s t is h below (no_next_from net sums h v at from)) in
        let into : inflow net flow v ≡ 0 = end_none net flow (head_of net) v (λ h below to. no_flow net sums flow s t is h below (no_next_to net sums h v at to)) in
        let source : amount_at s SHARE_UNIT v ≡ 0 = if_other s v SHARE_UNIT (λ e. let same = ap (distance_at sums) e in absurd (cc (same, at, is.known.1))) in
        omega (arith, out, into, source)

-- nothing leaves the destination
stays : (net : Network) (sums : List (Option ℕ)) (flow : ℕ → ℕ) (s t : ℕ) → IsGiven net sums flow s t → outflow net flow t ≡ 0
stays net sums flow s t is = end_none net flow (tail_of net) t (λ h inside from. no_flow net sums flow s t is h inside (not_next h inside from (is_next net sums h) refl))
  where
    not_next : (h : ℕ) → h < link_count net → tail_of net h ≡ t → (b : Bool) → is_next net sums h ≡ b → is_next net sums h ≡ false
    not_next h inside from false misses = misses
    not_next h inside from true next =
        let (y, to, at) = next_parts net sums h next in
        let same = ap (distance_at sums) from in
        let none : cost_of net h + y ≡ 0 = cc (at, same, cost_at_end net t sums is.costs is.t_in) in
        absurd (omega (arith, none, is.long h inside))

balanced : (net : Network) (sums : List (Option ℕ)) (flow : ℕ → ℕ) (s t : ℕ) → IsGiven net sums flow s t → IsFlow net flow SHARE_UNIT s t
balanced net sums flow s t is v inside = elim (cases_eq v t) [
  | inl e ↦
      let all = sum_below-except (node_count net) t (outflow net flow) (arrivals_at net flow s) is.t_in (leaves net sums flow s t is) in
      let whole : arrivals_at net flow s t ≡ SHARE_UNIT =
      omega (arith, all, stays net sums flow s t is, outflows_sum net flow is.ends, arriving_sum net flow s is.ends is.s_in)
      in
      let at = ap (arrivals_at net flow s) e in
      let out = ap (outflow net flow) e in
      let target = if_true (t == v) SHARE_UNIT (eq-eqb t v (sym e)) in
      omega (arith, whole, at, out, stays net sums flow s t is, target)
  | inr other ↦
      let target = if_other t v SHARE_UNIT (λ e. other (sym e)) in
      omega (arith, leaves net sums flow s t is v inside other, target)
]

abbrev pub cost_or : List (Option ℕ) → ℕ → ℕ
cost_or sums v = unwrap_or (distance_at sums v) 0

abbrev pub is_farther : List (Option ℕ) → ℕ → ℕ → Bool
is_farther sums v u = nat_lt (cost_or sums v) (cost_or sums u)

-- how many nodes are farther from the destination
abbrev pub rank : Network → List (Option ℕ) → ℕ → ℕ
rank net sums v = count_below (node_count net) (is_farther sums v)

-- the ranks rise along next links
pub rank_rises : (net : Network) (sums : List (Option ℕ)) (h : ℕ) → tail_of net h < node_count net → 1 ≤ cost_of net h → is_next net sums h ≡ true →
    rank net sums (tail_of net h) < rank net sums (head_of net h)
rank_rises net sums h inside long next =
    let (y, to, from) = next_parts net sums h next in
    let near : cost_or sums (head_of net h) ≡ y = ap (λ o. unwrap_or o 0) to in
    let far : cost_or sums (tail_of net h) ≡ cost_of net h + y = ap (λ o. unwrap_or o 0) from in
    let less : cost_or sums (head_of net h) < cost_or sums (tail_of net h) = omega (arith, near, far, long) in
    count_below-lt (node_count net) (is_farther sums (tail_of net h)) (is_farther sums (head_of net h)) (tail_of net h) inside
    (le-ltb (cost_or sums (tail_of net h)) (cost_or sums (tail_of net h)) (omega arith))
    (lt-ltb (cost_or sums (head_of net h)) (cost_or sums (tail_of net h)) less)
    (λ k below farther. lt-ltb (cost_or sums (head_of net h)) (cost_or sums k)
    (omega (arith, less, ltb-true (cost_or sums (tail_of net h)) (cost_or sums k) farther)))

numbered : (net : Network) (sums : List (Option ℕ)) (flow : ℕ → ℕ) (s t : ℕ) → IsGiven net sums flow s t → IsNumbering net flow (rank net sums)
numbered net sums flow s t is = record {
  below = λ v inside.
      let fewer = count_below-lt (node_count net) (is_farther sums v) (λ _. true) v inside (le-ltb (cost_or sums v) (cost_or sums v) (omega arith)) refl (λ k below far. refl) in
      omega (arith, fewer, count_below-bound (node_count net) (λ _. true));
  rises = λ h inside some. rank_rises net sums h (is.ends h inside).0 (is.long h inside) (flow_next net sums flow s t is h inside some);
}

pub acyclic : (net : Network) (sums : List (Option ℕ)) (flow : ℕ → ℕ) (s t : ℕ) → IsGiven net sums flow s t → IsAcyclicFlow net flow SHARE_UNIT s t
acyclic net sums flow s t is = record { balance = balanced net sums flow s t is; acyclic = (rank net sums, numbered net sums flow s t is) }
