-- Rates of which no rule fails, and a path routing, have what the verdict takes for granted.
use Rattle.std.proofs.Common.{◌≡◌, ℕ, ◌*◌, ◌^◌, ◌<◌, ◌≤◌, true, List, length, None, nat_le, [], slice_index, arith, refl, sym, ◌∙◌, inl, inr}
use Rattle.std.specs.Prelude.{IsTrue}
use Rattle.std.specs.List.{list_all}
use Rattle.std.proofs.lemmas.Bool.{and_parts, cases_lt, leb-true}
use Rattle.std.proofs.lemmas.List.Elements.{All-get_or, All-weaker}
use Rattle.te_model.specs.declared.network.Network.{Network}
use Rattle.te_model.specs.declared.route.PairRoutes.{PairRoutes}
use Rattle.te_model.specs.declared.limits.TheConstants.{FORMAT_2}
use Rattle.te_model.specs.Counting.{sum_below}
use Rattle.te_model.specs.Network.{is_well_formed, link_count}
use Rattle.te_model.specs.Path.{is_path, no_routes, routes_at}
use Rattle.te_model.specs.PathRouting.{IsPathRouting, IsPathSplit}
use Rattle.te_model.specs.Validity.{fault_at, rule_fault}
use Rattle.te_model.proofs.SimplePaths.{path_links, path_links_once}
use Rattle.te_model.proofs.Sums.{sum_below-bound}
use Rattle.te_model.proofs.Tests.{first_failing_none_at, get_or_past, list_all_at, or_else_none}
use Rattle.te_model.proofs.WellFormed.{few_links}
use Rattle.routing.specs.Routes.{HasFewPaths}
use Rattle.routing.specs.Shares.{AreLinksOnce}
use Rattle.fault_rates.specs.declared.plan.RatePlan.{RatePlan}
use Rattle.fault_rates.specs.Plan.{IsValidPlan, allocations_at, amount_of_paths, has_small_rates, is_rate, plan_fault}
use Rattle.fault_rates.specs.Tables.{AreSimplePaths, CanAdd, CanJudge}
use Rattle.fault_rates.proofs.LinkSums.{few_amounts}

simple_paths : (net : Network) (r : PairRoutes) → IsPathSplit net r → AreSimplePaths (link_count net) r.paths
simple_paths net r split =
    All-weaker (λ s. IsTrue (is_path net r.pair.src r.pair.dst s.links)) (λ s. AreLinksOnce (link_count net) s.links)
    (λ s path. (path_links_once net r.pair.src r.pair.dst s.links path, path_links net r.pair.src r.pair.dst s.links path)) r.paths split.paths

pub few_failures : (plan : RatePlan) → plan_fault plan ≡ None → plan.failures ≤ 8
few_failures plan none =
    let one = or_else_none (rule_fault 1 1 (λ k. nat_le plan.failures 8)) _ none in
    leb-true _ _ (first_failing_none_at 1 (λ k. nat_le plan.failures 8) (fault_at 1) 0 one.0 (omega arith))

-- the rates of a pair are small
pub small_rates : (plan : RatePlan) → plan_fault plan ≡ None → (p : ℕ) → p < length plan.grant → has_small_rates plan p ≡ true
small_rates plan none p below =
    let one = or_else_none (rule_fault 1 1 (λ k. nat_le plan.failures 8)) _ none in
    let two = or_else_none (rule_fault 2 (length plan.grant) (has_small_rates plan)) _ one.1 in
    first_failing_none_at (length plan.grant) (has_small_rates plan) (fault_at 2) p two.0 below

-- also past the ends of the lists
small_allocations : (plan : RatePlan) → plan_fault plan ≡ None → length plan.allocation ≡ length plan.grant → (p i : ℕ) →
    slice_index (allocations_at plan p) i ≤ 2 ^ 32
small_allocations plan none same p i = elim (cases_lt p (length plan.grant)) [
  | inl below ↦
      let both = and_parts (is_rate (slice_index plan.grant p)) (list_all is_rate (allocations_at plan p)) (small_rates plan none p below) in
      leb-true _ _ (list_all_at is_rate (allocations_at plan p) i 0 both.1 refl)
  | inr past ↦
      let none_there : allocations_at plan p ≡ [] = get_or_past plan.allocation p [] (omega (arith, past, same)) in
      rw none_there (omega arith)
]

pub can_add : (net : Network) (routes : List PairRoutes) → is_well_formed net ≡ true → IsPathRouting net routes → HasFewPaths 32 routes →
    length routes ≤ FORMAT_2.pairs → CanAdd net routes
can_add net routes sound routing few pairs = record {
  links = few_links net sound;
  pairs = pairs;
  few = λ p below. All-get_or (λ r. length r.paths ≤ 32) routes p no_routes below few;
  paths = λ p below. simple_paths net (routes_at routes p) (All-get_or (IsPathSplit net) routes p no_routes below routing);
}

pub can_judge : (net : Network) (routes : List PairRoutes) (plan : RatePlan) → is_well_formed net ≡ true → IsPathRouting net routes → HasFewPaths 32 routes →
    length routes ≤ FORMAT_2.pairs → IsValidPlan routes plan → CanJudge net routes plan
can_judge net routes plan sound routing few pairs valid =
    let shaped = valid.shaped in
    record {
      adds = can_add net routes sound routing few pairs;
      shaped = shaped;
      failures = few_failures plan valid.no_fault;
      small = small_allocations plan valid.no_fault (shaped.pairs ∙ sym shaped.grants);
    }

-- the pairs below n have no more on a link than 32 paths of the greatest allocation each
pub few_allocated : (net : Network) (routes : List PairRoutes) (plan : RatePlan) → CanJudge net routes plan → (n e : ℕ) → n ≤ length routes →
    sum_below n (λ p. amount_of_paths (routes_at routes p).paths (slice_index (allocations_at plan p)) e) ≤ n * 137438953472
few_allocated net routes plan can n e within =
    sum_below-bound n 137438953472 (λ p. amount_of_paths (routes_at routes p).paths (slice_index (allocations_at plan p)) e)
    (λ p below. omega (
      arith,
      few_amounts (routes_at routes p).paths (slice_index (allocations_at plan p)) (2 ^ 32) (length (routes_at routes p).paths) e (can.small p),
      can.adds.few p (omega (arith, below, within)),
    ))
