-- The head of a made certificate is valid.
use Rattle.std.proofs.Common.{◌≡◌, ℕ, zero, suc, ◌+◌, ◌-◌, ◌*◌, ◌^◌, ◌<◌, ◌≤◌, ◌⊎◌, inl, inr, map, true, ◌&&◌, List, [], ◌∷◌, length, arith, refl, ap, sym, subst, get_or, nat_lt, ◌==◌, sum_by, slice_index}
use Rattle.std.specs.Prelude.{All, IsTrue}
use Rattle.std.specs.List.{list_all}
use Rattle.std.proofs.lemmas.Bool.{and_parts, and_from, or_cases, ltb-true, lt-ltb, le-leb, eqb-true, eq-eqb, ne_eqb}
use Rattle.std.proofs.lemmas.Bool.Decides.{nat_tests}
use Rattle.std.proofs.lemmas.List.Elements.{All-from_get_or, All-get_or}
use Rattle.std.proofs.lemmas.List.{get_or-map, length-map}
use Rattle.std.proofs.lemmas.Nat.{mul-le}
use Rattle.std.proofs.lemmas.List.Sums.{get_or-le-sum_by}
use Rattle.te_model.specs.declared.network.Network.{Network}
use Rattle.te_model.specs.declared.route.PathShare.{PathShare}
use Rattle.te_model.specs.declared.route.PairRoutes.{PairRoutes}
use Rattle.te_model.specs.declared.certificate.Head.{Head}
use Rattle.te_model.specs.declared.demand.DemandSet.{DemandSet}
use Rattle.te_model.specs.declared.demand.DemandSet.TheVariants.{All as AllMatrices, Margin, Box}
use Rattle.te_model.specs.declared.limits.Limits.{Limits}
use Rattle.te_model.specs.declared.units.TheConstants.{SHARE_UNIT}
use Rattle.te_model.specs.Counting.{unless}
use Rattle.te_model.specs.Formats.{limits_of}
use Rattle.te_model.specs.Network.{node_count, link_count, no_link, is_new_name, is_sound_link, is_well_formed}
use Rattle.te_model.specs.Pairs.{no_pair, pair_at, AscendPairs, IsPairAmong}
use Rattle.te_model.specs.declared.route.Pair.{Pair}
use Rattle.te_model.proofs.Chains.{walk_links}
use Rattle.te_model.proofs.FewPairs.{ascending_pairs_few}
use Rattle.te_model.specs.Path.{chains, is_path, is_distinct, nodes_visited, routes_at, no_routes, source_of, destination_of}
use Rattle.te_model.specs.PathRouting.{IsPathSplit}
use Rattle.te_model.specs.Shape.{is_word, are_words, is_row_of, is_shaped_link, is_shaped_network, is_shaped_path, is_shaped_pair, is_shaped_set}
use Rattle.te_model.specs.Validity.{pair_below, fault_at, is_sound_pair, has_sound_paths, has_ascending_paths, has_whole_weight, with_first, has_margin_numbers, has_pair_bounds, IsValidHead}
use Rattle.te_model.proofs.Searches.{all_below_at, rule_fault_none}
use Rattle.te_model.proofs.SoundLinks.{sound_links}
use Rattle.te_model.proofs.Tests.{all_to_tests}
use Rattle.te_model.proofs.PathRoutings.{path_routing}
use Rattle.te_model.proofs.WellFormed.{links_join}
use Rattle.best_blocks.proofs.Pushed.{all_tests}
use Rattle.best_blocks.specs.Conditions.{IsRoutingWithin, IsSetWithin}
use Rattle.ratio_certificate.specs.Form.{HasFormOfFormat, IsFormatFor}
use Rattle.te_model.proofs.WellFormed.{few_links, few_nodes, well_formed_parts}
use Rattle.te_model.proofs.Chains.{chain_some}
use Rattle.shortest_path.proofs.PathLengths.{path_short}

-- the limits of a format: a path visits each node at most once, and there are pairs of each two nodes
pub record AreRoomy (limits : Limits) : Type 0 where
  pub hops : limits.hops + 1 ≡ limits.nodes
  pub pairs : limits.pairs ≡ limits.nodes * (limits.nodes - 1)
  pub paths : limits.paths ≡ 32

roomy : (format : ℕ) → (format ≡ 1) ⊎ (format ≡ 2) → AreRoomy (limits_of format)
roomy format known = elim known [
  | inl one ↦ subst (λ f. AreRoomy (limits_of f)) (sym one) (record { hops = refl; pairs = refl; paths = refl })
  | inr two ↦ subst (λ f. AreRoomy (limits_of f)) (sym two) (record { hops = refl; pairs = refl; paths = refl })
]

shaped_network : (limits : Limits) (net : Network) → is_well_formed net ≡ true → 1 ≤ link_count net → node_count net ≤ limits.nodes →
    link_count net ≤ limits.links → is_shaped_network limits net ≡ true
shaped_network limits net formed some few few_links =
    let two = (well_formed_parts net formed).two_nodes in
    let links : list_all is_shaped_link net.links ≡ true =
    all_tests is_shaped_link net.links no_link (λ h below. let is = sound_links net formed h below in grind (arith, nat_tests))
    in
    grind (arith, nat_tests)

-- the links of a chain are links of the network
chain_links : (net : Network) (s t : ℕ) (links : List ℕ) → link_count net ≤ 1024 → chains net s t links ≡ true → are_words links ≡ true
chain_links net s t links few chain =
    all_to_tests is_word (λ h. h < link_count net) (λ h below. lt-ltb h (2 ^ 64) (omega (arith, below, few))) links (walk_links net s t links chain)

shaped_path : (limits : Limits) (net : Network) (s t : ℕ) (p : PathShare) → AreRoomy limits → node_count net ≤ limits.nodes → is_well_formed net ≡ true →
    s < node_count net → (s ≡ t → ⊥) → p.weight ≤ SHARE_UNIT → is_path net s t p.links ≡ true → is_shaped_path limits p ≡ true
shaped_path limits net s t p room few formed inside apart light path =
    let both = and_parts (chains net s t p.links) (is_distinct (nodes_visited net s p.links)) path in
    let short = path_short net s t p.links (links_join net formed) inside path in
    let some = chain_some net s t p.links apart both.0 in
    let words = chain_links net s t p.links (few_links net formed) both.0 in
    let hops : length p.links ≤ limits.hops = omega (arith, short, few, room.hops) in
    let weight : p.weight < 2 ^ 64 = omega arith in
    grind (arith, nat_tests)

no_path_share : PathShare
no_path_share = record { links = []; weight = 0 }

some_paths : (paths : List PathShare) → sum_by (λ s. s.weight) paths ≡ SHARE_UNIT → 1 ≤ length paths
some_paths [] whole = let none : 0 ≡ 1000000 = whole in absurd (omega (arith, none))
some_paths (s ∷ ss) whole = omega arith

shaped_pair : (limits : Limits) (net : Network) (routes : List PairRoutes) → AreRoomy limits → node_count net ≤ limits.nodes → is_well_formed net ≡ true →
    IsRoutingWithin net routes → (p : ℕ) → p < length routes → is_shaped_pair limits (routes_at routes p) ≡ true
shaped_pair limits net routes room fits formed within p below =
    let r = routes_at routes p in
    let split = All-get_or (IsPathSplit net) routes p no_routes below within.splits in
    let ends = within.nodes p below in
    let few = few_nodes net formed in
    let some = some_paths r.paths split.whole in
    let few_paths : length r.paths ≤ limits.paths =
    omega (arith, All-get_or (λ r. length r.paths ≤ 32) routes p no_routes below within.few_paths, room.paths)
    in
    let paths : list_all (is_shaped_path limits) r.paths ≡ true =
    all_tests (is_shaped_path limits) r.paths no_path_share (λ k inside.
    shaped_path limits net r.pair.src r.pair.dst (get_or r.paths k no_path_share) room fits formed ends.0 (within.apart p below)
    (omega (arith, get_or-le-sum_by (λ s. s.weight) r.paths k no_path_share inside, split.whole))
    (All-get_or (λ s. IsTrue (is_path net r.pair.src r.pair.dst s.links)) r.paths k no_path_share inside split.paths))
    in
    let src : r.pair.src < 2 ^ 64 = omega (arith, ends.0, few) in
    let dst : r.pair.dst < 2 ^ 64 = omega (arith, ends.1, few) in
    grind (arith, nat_tests)

-- the limits of a format are of its number
format_of_limits : (format : ℕ) → (format ≡ 1) ⊎ (format ≡ 2) → (limits_of format).format ≡ format
format_of_limits format known = elim known [
  | inl one ↦ subst (λ f. (limits_of f).format ≡ f) (sym one) refl
  | inr two ↦ subst (λ f. (limits_of f).format ≡ f) (sym two) refl
]

-- bounds of at most 2^52, one for each pair
shaped_bounds : (pairs : ℕ) (bounds : List ℕ) → length bounds ≡ pairs → ((p : ℕ) → p < pairs → slice_index bounds p ≤ 2 ^ 52) → is_row_of pairs bounds ≡ true
shaped_bounds pairs bounds count small =
    and_from _ _ (eq-eqb _ _ count) (all_tests is_word bounds 0 (λ k below. lt-ltb _ _ (omega (arith, small k (omega (arith, below, count))))))

shaped_set : (limits : Limits) (pairs : ℕ) (wanted : DemandSet) → IsSetWithin pairs wanted → HasFormOfFormat limits.format wanted → is_shaped_set limits pairs wanted ≡ true
shaped_set limits pairs AllMatrices within form = refl
shaped_set limits pairs (Box lower upper) within form =
    let low = shaped_bounds pairs lower.demand within.lower_count (λ p below. let each = within.each p below in omega (arith, each.0, each.1)) in
    let high = shaped_bounds pairs upper.demand within.upper_count (λ p below. (within.each p below).1) in
    and_from _ _ (and_from _ _ (eq-eqb limits.format 2 form) low) high
shaped_set limits pairs (Margin num den base) within form =
    let first = eq-eqb limits.format 1 form in
    let numbers = within.0 in
    let count = within.1.count in
    let units = base.demand in
    let words : are_words units ≡ true =
    all_tests is_word units 0 (λ k below. lt-ltb _ _ (omega (arith, All-get_or (λ d. d ≤ 2 ^ 32) units k 0 below within.1.small)))
    in
    grind (arith, nat_tests)

-- pairs that ascend are at most as many as the pairs of two different nodes
few_pairs : (limits : Limits) (net : Network) (routes : List PairRoutes) → AreRoomy limits → node_count net ≤ limits.nodes → IsRoutingWithin net routes →
    length routes ≤ limits.pairs
few_pairs limits net routes room few within =
    let bound = ascending_pairs_few (node_count net) pairs each ascend in
    let product : node_count net * (node_count net - 1) ≤ limits.nodes * (limits.nodes - 1) =
    mul-le (node_count net) (node_count net - 1) limits.nodes (limits.nodes - 1) few (omega (arith, few))
    in
    omega (arith, bound, product, count, room.pairs)
  where
    pairs : List Pair
    pairs = map (λ r. r.pair) routes

    count : length pairs ≡ length routes
    count = length-map routes (λ r. r.pair)

    pair_is : (p : ℕ) → p < length routes → pair_at pairs p ≡ (routes_at routes p).pair
    pair_is p below = get_or-map (λ (r : PairRoutes). r.pair) routes p no_routes no_pair below

    each : All (IsPairAmong (node_count net)) pairs
    each = All-from_get_or (IsPairAmong (node_count net)) pairs no_pair (λ p below.
        let inside : p < length routes = omega (arith, below, count) in
        subst (IsPairAmong (node_count net)) (sym (pair_is p inside))
        (record { src_inside = (within.nodes p inside).0; dst_inside = (within.nodes p inside).1; apart = within.apart p inside }))

    order : (k : ℕ) → pair_below routes k (suc k) ≡ true →
        (source_of routes k < source_of routes (suc k))
        ⊎ ((source_of routes k ≡ source_of routes (suc k)) × (destination_of routes k < destination_of routes (suc k)))
    order k is =
        elim (or_cases (nat_lt (source_of routes k) (source_of routes (suc k))) (source_of routes k == source_of routes (suc k) && nat_lt (destination_of routes k) (destination_of routes (suc k))) is) [
          | inl lt ↦ inl (ltb-true _ _ lt)
          | inr both ↦
              let parts = and_parts (source_of routes k == source_of routes (suc k)) (nat_lt (destination_of routes k) (destination_of routes (suc k))) both in
              inr (eqb-true _ _ parts.0, ltb-true _ _ parts.1)
        ]

    ascend : AscendPairs pairs
    ascend k below =
        let inside : suc k < length routes = omega (arith, below, count) in
        let less : k < length routes = omega (arith, inside) in
        subst (λ (q : Pair). ((pair_at pairs k).src < q.src) ⊎ (((pair_at pairs k).src ≡ q.src) × ((pair_at pairs k).dst < q.dst))) (sym (pair_is (suc k) inside))
        (subst (λ (q : Pair). (q.src < source_of routes (suc k)) ⊎ ((q.src ≡ source_of routes (suc k)) × (q.dst < destination_of routes (suc k))))
        (sym (pair_is k less)) (order k (within.ascending k inside)))

sound_pair : (h : Head) → IsRoutingWithin h.network h.routes → (p : ℕ) → p < length h.routes → is_sound_pair h p ≡ true
sound_pair h within zero below =
    let ends = within.nodes 0 below in
    let apart = ne_eqb (source_of h.routes 0) (destination_of h.routes 0) (within.apart 0 below) in
    grind (arith, nat_tests)
sound_pair h within (suc p) below =
    let ends = within.nodes (suc p) below in
    let apart = ne_eqb (source_of h.routes (suc p)) (destination_of h.routes (suc p)) (within.apart (suc p) below) in
    let order = within.ascending p below in
    grind (arith, nat_tests)

margin_numbers : (pairs : ℕ) (wanted : DemandSet) → IsSetWithin pairs wanted → has_margin_numbers wanted ≡ true
margin_numbers pairs AllMatrices within = refl
margin_numbers pairs (Margin num den base) within = within.0
margin_numbers pairs (Box lower upper) within = refl

pair_bounds : (pairs : ℕ) (wanted : DemandSet) → IsSetWithin pairs wanted → (p : ℕ) → p < pairs → has_pair_bounds wanted p ≡ true
pair_bounds pairs AllMatrices within p below = refl
pair_bounds pairs (Margin num den base) within p below =
    le-leb _ _ (All-get_or (λ d. d ≤ 2 ^ 32) base.demand p 0 (omega (arith, below, within.1.count)) within.1.small)
pair_bounds pairs (Box lower upper) within p below = let each = within.each p below in and_from _ _ (le-leb _ _ each.0) (le-leb _ _ each.1)

-- a head whose format has room for its network and sets of its form, and whose ratio is within the limit
pub made_head : (h : Head) → IsFormatFor h.network h.set h.format → is_well_formed h.network ≡ true → 1 ≤ link_count h.network → IsRoutingWithin h.network h.routes →
    IsSetWithin (length h.routes) h.set → h.ratio < 10 ^ 19 → IsValidHead h
made_head h format formed some within wanted small =
    let net = h.network in
    let pairs = length h.routes in
    let limits = limits_of h.format in
    let room = roomy h.format format.known in
    let number = format_of_limits h.format format.known in
    let network = shaped_network limits net formed some format.nodes format.links in
    let few = few_pairs limits net h.routes room format.nodes within in
    let shaped_pairs : list_all (is_shaped_pair limits) h.routes ≡ true =
    all_tests (is_shaped_pair limits) h.routes no_routes (shaped_pair limits net h.routes room format.nodes formed within)
    in
    let set_is = shaped_set limits pairs h.set wanted (subst (λ f. HasFormOfFormat f h.set) (sym number) format.form) in
    let ratio : is_word h.ratio ≡ true = lt-ltb _ _ (omega (arith, small)) in
    let paths = (path_routing h).1 within.splits in
    let new : (k : ℕ) → k < node_count net → is_new_name net k ≡ true = λ k below. all_below_at (node_count net) (is_new_name net) k (grind (arith, nat_tests)) below in
    let margin : (k : ℕ) → k < 1 + pairs → with_first (has_margin_numbers h.set) (has_pair_bounds h.set) k ≡ true =
    λ k below. at_margin k below (margin_numbers pairs h.set wanted) (pair_bounds pairs h.set wanted)
    in
    let first = rule_fault_none 1 (node_count net) (is_new_name net) new in
    let second = rule_fault_none 2 (link_count net) (is_sound_link net) (sound_links net formed) in
    let third = rule_fault_none 3 pairs (is_sound_pair h) (sound_pair h within) in
    let fourth = rule_fault_none 4 pairs (has_sound_paths h) (λ p below. (paths p below).0) in
    let fifth = rule_fault_none 5 pairs (has_ascending_paths h) (λ p below. (paths p below).1) in
    let sixth = rule_fault_none 6 pairs (has_whole_weight h) (λ p below. (paths p below).2) in
    let seventh = rule_fault_none 7 (1 + pairs) (with_first (has_margin_numbers h.set) (has_pair_bounds h.set)) margin in
    record {
      shaped = and_from _ _ (and_from _ _ (and_from _ _ (and_from _ _ (and_from _ _ (eq-eqb h.format limits.format (sym number)) network)
          (and_from _ _ (le-leb 0 pairs (omega arith)) (le-leb pairs limits.pairs few))) shaped_pairs) set_is) ratio;
      no_fault = rw (first, second, third, fourth, fifth, sixth, seventh) (ap (λ b. unless b (fault_at 8 0)) (lt-ltb h.ratio (10 ^ 19) small));
    }
  where
    at_margin : (k : ℕ) → k < 1 + length h.routes → has_margin_numbers h.set ≡ true → ((p : ℕ) → p < length h.routes → has_pair_bounds h.set p ≡ true) →
        with_first (has_margin_numbers h.set) (has_pair_bounds h.set) k ≡ true
    at_margin zero below numbers base = numbers
    at_margin (suc k) below numbers base = base k (omega arith)
