-- What a valid head gives of its network and its pairs.
use Rattle.std.proofs.Common.{◌≡◌, ℕ, ◌<◌, ◌≤◌, true, not, ◌&&◌, List, [], ◌∷◌, length, get_or, arith, ap, sym, ◌∙◌, subst, nat_le, sum_by, ◌==◌}
use Rattle.std.specs.List.{list_all}
use Rattle.std.proofs.Math.ListN.{get_or-map}
use Rattle.std.proofs.lemmas.Bool.{and_parts, eq-eqb, eqb-true, false≢true}
use Rattle.std.proofs.lemmas.Bool.Decides.{nat_tests}
use Rattle.std.proofs.lemmas.List.{length-map}
use Rattle.std.proofs.lemmas.List.Elements.{All-from_get_or}
use Rattle.te_model.specs.declared.certificate.Head.{Head}
use Rattle.te_model.specs.declared.limits.TheConstants.{FORMAT_2}
use Rattle.te_model.specs.Formats.{limits_of}
use Rattle.te_model.specs.Laws.{PairsJoinNodes}
use Rattle.te_model.specs.declared.network.Network.{Network}
use Rattle.te_model.specs.declared.route.Pair.{Pair}
use Rattle.te_model.specs.declared.route.PathShare.{PathShare}
use Rattle.te_model.specs.Network.{capacity_of, link_count, node_count}
use Rattle.te_model.specs.Pairs.{IsPairAmong, no_pair}
use Rattle.te_model.specs.Path.{chains, destination_of, is_path, no_routes, routes_at, source_of}
use Rattle.te_model.specs.Shape.{is_count, is_shaped_head, is_shaped_network, is_shaped_pair, is_shaped_set, is_word}
use Rattle.te_model.specs.Validity.{IsValidHead}
use Rattle.te_model.proofs.Chains.{chains_of_path}
use Rattle.te_model.proofs.Valid.{rules_hold}
use Rattle.scheme.specs.Reach.{AllReached, ArePairsOf}
use Rattle.witness_search.specs.Attempts.{pairs_of}
use Rattle.shortest_path.specs.Paths.{HasPath}
use Rattle.ratio_witness.specs.Witness.{capacity_from, capacity_into}
use Rattle.te_model.proofs.ValidHeads.{valid_without_blocks}
use Rattle.te_model.proofs.Chains.{chain_some}
use Rattle.witness_search.proofs.PairLimits.{some_from, some_into}

-- the set of a head that can be written
pub shaped_set : (h : Head) → is_shaped_head (limits_of h.format) h ≡ true → is_shaped_set (limits_of h.format) (length h.routes) h.set ≡ true
shaped_set h shaped =
    let limits = limits_of h.format in
    let a = h.format == limits.format in
    let b = is_shaped_network limits h.network in
    let c = is_count 0 limits.pairs (length h.routes) in
    let d = list_all (is_shaped_pair limits) h.routes in
    let e = is_shaped_set limits (length h.routes) h.set in
    let five = and_parts (a && b && c && d && e) (is_word h.ratio) shaped in
    (and_parts (a && b && c && d) e five.0).1

pub head_pairs : (h : Head) → IsValidHead h → PairsJoinNodes h.network h.routes
head_pairs h valid p below =
    let sound = (rules_hold (record { head = h; blocks = [] }) (valid_without_blocks h valid).1).pairs p below in
    (grind (arith, nat_tests), grind (arith, nat_tests))

pub head_apart : (h : Head) → IsValidHead h → (p : ℕ) → p < length h.routes → source_of h.routes p ≡ destination_of h.routes p → ⊥
head_apart h valid p below same =
    let sound = (rules_hold (record { head = h; blocks = [] }) (valid_without_blocks h valid).1).pairs p below in
    let differ : not (source_of h.routes p == destination_of h.routes p) ≡ true = grind (arith, nat_tests) in
    false≢true (sym (ap not (eq-eqb (source_of h.routes p) (destination_of h.routes p) same)) ∙ differ)

-- the declared pairs, as a scheme takes them
pub head_pairs_of : (h : Head) → IsValidHead h → length h.routes ≤ FORMAT_2.pairs → ArePairsOf h.network (pairs_of h)
head_pairs_of h valid few = record {
  each = All-from_get_or (IsPairAmong (node_count h.network)) (pairs_of h) no_pair (λ p below.
      let inside : p < length h.routes = let e = length-map h.routes (λ r. r.pair) in omega (arith, below, e) in
      let ends = head_pairs h valid p inside in
      let at : get_or (pairs_of h) p no_pair ≡ (get_or h.routes p no_routes).pair = get_or-map (λ r. r.pair) h.routes p no_routes in
      subst (IsPairAmong (node_count h.network)) (sym at) (record {
        src_inside = ends.0;
        dst_inside = ends.1;
        apart = head_apart h valid p inside;
      }));
  few = let e = length-map h.routes (λ r. r.pair) in omega (arith, few, e);
}

-- ---- each pair has a path

-- the first of some paths whose weights sum to one million
first_path : (net : Network) (s t : ℕ) (paths : List PathShare) → list_all (λ q. is_path net s t q.links) paths ≡ true → sum_by (λ q. q.weight) paths ≡ 1000000 →
    (links : List ℕ) × (is_path net s t links ≡ true)
first_path net s t [] all sum = absurd (omega (arith, sum))
first_path net s t (q ∷ qs) all sum = (q.links, (and_parts (is_path net s t q.links) (list_all (λ r. is_path net s t r.links) qs) all).0)

pub head_path : (h : Head) → IsValidHead h → (p : ℕ) → p < length h.routes → HasPath h.network (source_of h.routes p) (destination_of h.routes p)
head_path h valid p below =
    let net = h.network in
    let s = source_of h.routes p in
    let t = destination_of h.routes p in
    let paths = (routes_at h.routes p).paths in
    let kept = rules_hold (record { head = h; blocks = [] }) (valid_without_blocks h valid).1 in
    let both = and_parts (list_all (λ q. nat_le 1 q.weight) paths) (sum_by (λ q. q.weight) paths == 1000000) (kept.weights p below) in
    let first = first_path net s t paths (kept.paths p below) (eqb-true (sum_by (λ q. q.weight) paths) 1000000 both.1) in
    let chain = chains_of_path net s t first.0 first.1 in
    (first.0, chain_some net s t first.0 (head_apart h valid p below) chain, chain)

-- so the links at its ends carry something
pub ends_carry : (net : Network) (s t : ℕ) → ((k : ℕ) → k < link_count net → 1 ≤ capacity_of net k) → HasPath net s t → (1 ≤ capacity_from net s) × (1 ≤ capacity_into net t)
ends_carry net s t some path = by_links path.0 path.1 path.2
  where
    by_links : (links : List ℕ) → 0 < length links → chains net s t links ≡ true → (1 ≤ capacity_from net s) × (1 ≤ capacity_into net t)
    by_links [] less chain = absurd (omega (arith, less))
    by_links (h ∷ hs) less chain = (some_from net s t h hs some chain, some_into net s t h hs some chain)

-- so each declared pair is reached
pub head_reached : (h : Head) → IsValidHead h → AllReached h.network (pairs_of h)
head_reached h valid p below =
    let net = h.network in
    let inside : p < length h.routes = let e = length-map h.routes (λ r. r.pair) in omega (arith, below, e) in
    let at : get_or (pairs_of h) p no_pair ≡ (get_or h.routes p no_routes).pair = get_or-map (λ r. r.pair) h.routes p no_routes in
    subst (λ (pair : Pair). HasPath net pair.src pair.dst) (sym at) (head_path h valid p inside)
