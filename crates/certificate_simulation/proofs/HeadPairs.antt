-- What a valid head gives of its pairs and its routing.
use Rattle.std.proofs.Common.{◌≡◌, ℕ, suc, ◌<◌, ◌≤◌, Bool, true, false, not, ◌==◌, [], length, get_or, map, All, arith, refl, ap, sym, ◌∙◌, subst, inl, inr, ◌⊎◌, nat_lt}
use Rattle.std.specs.Prelude.{if◌then◌else◌, ◌&&◌, ◌||◌}
use Rattle.std.specs.List.{list_all}
use Rattle.std.proofs.Math.ListN.{get_or-map}
use Rattle.std.proofs.lemmas.Bool.{and_parts, or_cases, eq-eqb, eqb-true, false≢true, ltb-true}
use Rattle.std.proofs.lemmas.Bool.Decides.{nat_tests}
use Rattle.std.proofs.lemmas.List.{length-map}
use Rattle.std.proofs.lemmas.List.Elements.{All-from_get_or}
use Rattle.te_model.specs.declared.certificate.Head.{Head}
use Rattle.te_model.specs.declared.limits.Limits.{Limits}
use Rattle.te_model.specs.declared.limits.TheConstants.{FORMAT_1, FORMAT_2}
use Rattle.te_model.specs.declared.route.PairRoutes.{PairRoutes}
use Rattle.te_model.specs.Formats.{limits_of}
use Rattle.te_model.specs.Network.{node_count}
use Rattle.te_model.specs.Pairs.{AscendPairs, IsPairAmong, no_pair}
use Rattle.te_model.specs.Path.{destination_of, no_routes, source_of}
use Rattle.te_model.specs.PathRouting.{IsPathRouting}
use Rattle.te_model.specs.Shape.{is_shaped_pair}
use Rattle.te_model.specs.Validity.{IsValidHead, fault_at, faults_from, follows_previous, has_ascending_paths, is_sound_pair, pair_below, rules}
use Rattle.te_model.proofs.PathRoutings.{path_routing}
use Rattle.te_model.proofs.Tests.{all_from_tests, first_failing_none_at, first_some_none_at}
use Rattle.te_model.proofs.Valid.{Rules, rules_hold}
use Rattle.te_model.proofs.ValidHeads.{few_in_format, head_routing, valid_without_blocks}
use Rattle.routing.specs.Routes.{HasFewPaths, IsRoutingOf}
use Rattle.local_recovery.specs.Rates.{pairs_of}
use Rattle.traffic_matrix.specs.declared.series.Series.{Series}
use Rattle.traffic_matrix.specs.Limits.{IsSeries}
use Rattle.traffic_matrix.proofs.TrafficLemmas.{over-limits}
use Rattle.certificate_simulation.specs.Report.{routed_series}

kept : (h : Head) → IsValidHead h → Rules (record { head = h; blocks = [] })
kept h valid = rules_hold (record { head = h; blocks = [] }) (valid_without_blocks h valid).1

-- ---- the routing

pub head_routes_pairs : (h : Head) → IsValidHead h → IsRoutingOf h.network (pairs_of h.routes) h.routes
head_routes_pairs h valid = record { in_order = refl; splits = head_routing h valid }

few_of : (limits : Limits) (r : PairRoutes) → is_shaped_pair limits r ≡ true → limits.paths ≤ 32 → length r.paths ≤ 4096
few_of limits r shaped most = grind (arith, nat_tests)

pub head_few : (h : Head) → IsValidHead h → HasFewPaths 4096 h.routes
head_few h valid =
    let shaped : list_all (is_shaped_pair (limits_of h.format)) h.routes ≡ true = let head = valid.shaped in grind (arith, nat_tests) in
    all_from_tests (is_shaped_pair (limits_of h.format)) (λ r. length r.paths ≤ 4096) (λ r is. few_of (limits_of h.format) r is (few_in_format h.format)) h.routes shaped

-- ---- the pairs

pub head_pairs_among : (h : Head) → IsValidHead h → All (IsPairAmong (node_count h.network)) (pairs_of h.routes)
head_pairs_among h valid =
    All-from_get_or (IsPairAmong (node_count h.network)) (pairs_of h.routes) no_pair (λ p below.
    let inside : p < length h.routes = let e = length-map h.routes (λ r. r.pair) in omega (arith, below, e) in
    let sound = (kept h valid).pairs p inside in
    let src : source_of h.routes p < node_count h.network = grind (arith, nat_tests) in
    let dst : destination_of h.routes p < node_count h.network = grind (arith, nat_tests) in
    let differ : not (source_of h.routes p == destination_of h.routes p) ≡ true = grind (arith, nat_tests) in
    subst (IsPairAmong (node_count h.network)) (sym (get_or-map (λ r. r.pair) h.routes p no_routes)) (record {
      src_inside = src;
      dst_inside = dst;
      apart = λ same. false≢true (sym (ap not (eq-eqb (source_of h.routes p) (destination_of h.routes p) same)) ∙ differ);
    }))

below_cases : (s t a b : ℕ) → (nat_lt s t || (s == t && nat_lt a b)) ≡ true → (s < t) ⊎ ((s ≡ t) × (a < b))
below_cases s t a b is = elim (or_cases (nat_lt s t) (s == t && nat_lt a b) is) [
  | inl less ↦ inl (ltb-true s t less)
  | inr both ↦ let parts = and_parts (s == t) (nat_lt a b) both in inr (eqb-true s t parts.0, ltb-true a b parts.1)
]

pub head_pairs_ascend : (h : Head) → IsValidHead h → AscendPairs (pairs_of h.routes)
head_pairs_ascend h valid k below =
    let inside : suc k < length h.routes = let e = length-map h.routes (λ r. r.pair) in omega (arith, below, e) in
    let sound = (kept h valid).pairs (suc k) inside in
    let after : follows_previous (pair_below h.routes) (suc k) ≡ true = grind (arith, nat_tests) in
    let cases = below_cases (source_of h.routes k) (source_of h.routes (suc k)) (destination_of h.routes k) (destination_of h.routes (suc k)) after in
    rw (get_or-map (λ r. r.pair) h.routes k no_routes, get_or-map (λ r. r.pair) h.routes (suc k) no_routes) cases

-- a series over all of them
pub routed_in_range : (h : Head) (series : Series) → IsValidHead h → IsSeries (node_count h.network) series →
    IsSeries (node_count h.network) (routed_series h.routes series)
routed_in_range h series valid is =
    over-limits (node_count h.network) (pairs_of h.routes) (length series.steps) series (head_pairs_among h valid) (head_pairs_ascend h valid) is.few is
