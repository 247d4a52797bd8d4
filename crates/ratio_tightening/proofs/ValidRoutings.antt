-- The routing and the set of a valid certificate are within the limits of those for which certificates are made.
use Rattle.std.proofs.Common.{◌≡◌, ◌∙◌, ℕ, suc, ◌^◌, ◌<◌, ◌≤◌, true, not, ◌&&◌, None, length, get_or, arith, ap, nat_le, slice_index, sym, ◌==◌}
use Rattle.std.proofs.lemmas.Bool.{and_parts, eq-eqb, false≢true, leb-true}
use Rattle.std.proofs.lemmas.Bool.Decides.{nat_tests}
use Rattle.std.proofs.lemmas.List.Elements.{All-from_get_or}
use Rattle.te_model.specs.declared.certificate.Certificate.{Certificate}
use Rattle.te_model.specs.declared.demand.DemandSet.{DemandSet}
use Rattle.te_model.specs.declared.demand.DemandSet.TheVariants.{All as AllMatrices, Margin, Box}
use Rattle.te_model.specs.declared.limits.Limits.{Limits}
use Rattle.te_model.specs.declared.route.PairRoutes.{PairRoutes}
use Rattle.te_model.specs.Formats.{limits_of}
use Rattle.te_model.specs.Network.{link_count, node_count}
use Rattle.te_model.specs.Pairs.{AreDemands}
use Rattle.te_model.specs.declared.demand.Matrix.{Matrix}
use Rattle.te_model.specs.Path.{destination_of, source_of}
use Rattle.te_model.specs.Shape.{is_row_of, is_shaped_network, is_shaped_pair, is_shaped_set, is_word}
use Rattle.te_model.specs.Validity.{IsValid, fault_at, faults_from, has_ascending_paths, has_margin_numbers, has_pair_bounds, has_sound_paths, has_whole_weight, is_sound_pair, rules}
use Rattle.te_model.proofs.PathRoutings.{path_routing}
use Rattle.te_model.proofs.Tests.{all_from_tests, first_failing_none_at, first_some_none_at}
use Rattle.te_model.proofs.ValidHeads.{few_in_format, row_length}
use Rattle.te_model.proofs.Valid.{limits_small, rules_hold}
use Rattle.te_model.proofs.ValidParts.{valid_parts}
use Rattle.ratio_checker.proofs.FormedHeads.{HasShape, shape_of}
use Rattle.best_blocks.specs.Conditions.{AreBounds, IsRoutingWithin, IsSetWithin}

pub certificate_shape : (c : Certificate) → IsValid c → HasShape c.head (limits_of c.head.format)
certificate_shape c valid = shape_of c.head (limits_of c.head.format) ((valid_parts c).0 valid).head.shaped

-- how many nodes and links a network has that can be written
pub record HasCounts (limits : Limits) (nodes links : ℕ) : Type 0 where
  pub few_nodes : nodes ≤ limits.nodes
  pub some_links : 1 ≤ links
  pub few_links : links ≤ limits.links

pub counts_of : (c : Certificate) → IsValid c → HasCounts (limits_of c.head.format) (node_count c.head.network) (link_count c.head.network)
counts_of c valid =
    let limits = limits_of c.head.format in
    let net = c.head.network in
    let shaped : is_shaped_network limits net ≡ true = (certificate_shape c valid).network in
    record { few_nodes = grind (arith, nat_tests); some_links = grind (arith, nat_tests); few_links = grind (arith, nat_tests) }

few_paths : (limits : Limits) (r : PairRoutes) → limits.paths ≤ 32 → is_shaped_pair limits r ≡ true → length r.paths ≤ 32
few_paths limits r small shaped =
    let most : length r.paths ≤ limits.paths = grind (arith, nat_tests) in
    omega (arith, most, small)

pub routing_within : (c : Certificate) → IsValid c → IsRoutingWithin c.head.network c.head.routes
routing_within c valid =
    let h = c.head in
    let pairs = length h.routes in
    let at : (k : ℕ) → get_or (faults_from 1 (rules c)) k None ≡ None = λ k. first_some_none_at (faults_from 1 (rules c)) k valid.1 in
    let sound : (p : ℕ) → p < pairs → is_sound_pair h p ≡ true = λ p below. first_failing_none_at pairs (is_sound_pair h) (fault_at 3) p (at 2) below in
    let shape = certificate_shape c valid in
    let wide = limits_small h.format in
    record {
      splits = (path_routing h).0 (λ p below. (
        first_failing_none_at pairs (has_sound_paths h) (fault_at 4) p (at 3) below,
        first_failing_none_at pairs (has_ascending_paths h) (fault_at 5) p (at 4) below,
        first_failing_none_at pairs (has_whole_weight h) (fault_at 6) p (at 5) below,
      ));
      nodes = λ p below. let is = sound p below in (grind (arith, nat_tests), grind (arith, nat_tests));
      apart = λ p below same.
          let is = sound p below in
          let differ : not (source_of h.routes p == destination_of h.routes p) ≡ true = grind (arith, nat_tests) in
          false≢true (sym (ap not (eq-eqb (source_of h.routes p) (destination_of h.routes p) same)) ∙ differ);
      ascending = λ k below. let is = sound (suc k) below in grind (arith, nat_tests);
      few = let most = shape.pairs in omega (arith, most, wide.2);
      few_paths = all_from_tests (is_shaped_pair (limits_of h.format)) (λ r. length r.paths ≤ 32)
          (λ r is. few_paths (limits_of h.format) r (few_in_format h.format) is) h.routes shape.routes;
    }

-- the demands of a margin
margin_demands : (limits : Limits) (pairs num den : ℕ) (demand : Matrix) → is_shaped_set limits pairs (Margin num den demand) ≡ true →
    ((p : ℕ) → p < pairs → has_pair_bounds (Margin num den demand) p ≡ true) → AreDemands pairs demand.demand
margin_demands limits pairs num den demand shaped base =
    let first = limits.format == 1 in
    let row = and_parts (first && is_word num && is_word den) (is_row_of pairs demand.demand) shaped in
    let count = row_length pairs demand.demand row.1 in
    record {
      count = count;
      small = All-from_get_or (λ d. d ≤ 2 ^ 32) demand.demand 0 (λ p below. leb-true (slice_index demand.demand p) (2 ^ 32) (base p (omega (arith, below, count))));
    }

-- those of a box
box_bounds : (limits : Limits) (pairs : ℕ) (lower upper : Matrix) → is_shaped_set limits pairs (Box lower upper) ≡ true →
    ((p : ℕ) → p < pairs → has_pair_bounds (Box lower upper) p ≡ true) → AreBounds pairs lower.demand upper.demand
box_bounds limits pairs lower upper shaped base =
    let second = limits.format == 2 in
    let high = and_parts (second && is_row_of pairs lower.demand) (is_row_of pairs upper.demand) shaped in
    let low = and_parts second (is_row_of pairs lower.demand) high.0 in
    record {
      lower_count = row_length pairs lower.demand low.1;
      upper_count = row_length pairs upper.demand high.1;
      each = λ p below.
          let both = and_parts (nat_le (slice_index lower.demand p) (slice_index upper.demand p)) (nat_le (slice_index upper.demand p) (2 ^ 52)) (base p below) in
          (leb-true (slice_index lower.demand p) (slice_index upper.demand p) both.0, leb-true (slice_index upper.demand p) (2 ^ 52) both.1);
    }

-- a set whose shape and whose numbers are right
bounds_within : (limits : Limits) (pairs : ℕ) (set : DemandSet) → is_shaped_set limits pairs set ≡ true → has_margin_numbers set ≡ true →
    ((p : ℕ) → p < pairs → has_pair_bounds set p ≡ true) → IsSetWithin pairs set
bounds_within limits pairs AllMatrices shaped numbers base = tt
bounds_within limits pairs (Margin num den demand) shaped numbers base = (numbers, margin_demands limits pairs num den demand shaped base)
bounds_within limits pairs (Box lower upper) shaped numbers base = box_bounds limits pairs lower upper shaped base

pub set_within : (c : Certificate) → IsValid c → IsSetWithin (length c.head.routes) c.head.set
set_within c valid =
    let kept = rules_hold c valid.1 in
    bounds_within (limits_of c.head.format) (length c.head.routes) c.head.set (certificate_shape c valid).set kept.margin kept.base
