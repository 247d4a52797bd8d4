-- The scheme's routing of a matrix is a rival that keeps the rules of a witness.
use Rattle.std.proofs.Common.{◌≡◌, ℕ, ◌^◌, ◌<◌, ◌≤◌, Bool, true, false, ◌&&◌, ◌||◌, List, [], ◌∷◌, length, map, get_or, Option, None, arith, refl, ap, sym, ◌∙◌, nat_le, sum_by, ◌==◌}
use Rattle.std.specs.Prelude.{IsTrue, slice_index_or}
use Rattle.std.specs.List.{list_all}
use Rattle.std.proofs.Math.ListN.{get_or-map}
use Rattle.std.proofs.lemmas.Bool.{and_from, eq-eqb, le-leb, lt-ltb}
use Rattle.std.proofs.lemmas.List.{length-map}
use Rattle.std.proofs.lemmas.List.Elements.{All-get_or, All-from_get_or}
use Rattle.te_model.specs.declared.certificate.Head.{Head}
use Rattle.te_model.specs.declared.certificate.RuleFault.{RuleFault}
use Rattle.te_model.specs.declared.network.Network.{Network}
use Rattle.te_model.specs.declared.route.Pair.{Pair}
use Rattle.te_model.specs.declared.route.PathShare.{PathShare}
use Rattle.te_model.specs.declared.route.PairRoutes.{PairRoutes}
use Rattle.te_model.specs.Counting.{first_some, unless}
use Rattle.te_model.specs.declared.limits.TheConstants.{FORMAT_2}
use Rattle.te_model.specs.Network.{link_count, node_count}
use Rattle.te_model.specs.Shape.{are_words, is_count, is_shaped_path, is_word}
use Rattle.te_model.specs.Laws.{LinksJoinNodes}
use Rattle.te_model.proofs.Chains.{chains_of_path, path_links}
use Rattle.shortest_path.proofs.PathLengths.{path_short}
use Rattle.std.proofs.lemmas.List.Sums.{get_or-le-sum_by}
use Rattle.ratio_witness.specs.Text.{are_shaped_paths}
use Rattle.te_model.specs.Pairs.{AreDemands}
use Rattle.te_model.specs.Path.{destination_of, is_path, no_routes, routes_at, source_of}
use Rattle.te_model.specs.PathRouting.{IsPathSplit}
use Rattle.te_model.specs.Validity.{fault_at, paths_ascend, rule_fault}
use Rattle.te_model.proofs.Searches.{first_below_none}
use Rattle.te_model.proofs.Tests.{all_to_tests}
use Rattle.te_model.proofs.Chains.{chain_some}
use Rattle.routing.specs.Routes.{IsRoutingOf}
use Rattle.routing.proofs.Splits.{split_some}
use Rattle.ratio_witness.specs.declared.witness.Witness.{Witness}
use Rattle.witness_search.specs.Attempts.{pairs_of}
use Rattle.witness_search.specs.Candidates.{paths_by}
use Rattle.ratio_witness.specs.Rules.{demand_of, has_bound, has_scale, has_small_demand, has_sound_rival, has_whole_rival, is_carried, rival_paths, KeepsRules}
use Rattle.ratio_witness.proofs.KeptRules.{Kept}

-- where each rule holds, none fails
pub keeps_rules : (h : Head) (w : Witness) → Kept h w → KeepsRules h w
keeps_rules h w kept =
    let n = length h.routes in
    let none : (r m : ℕ) (test : ℕ → Bool) → ((k : ℕ) → k < m → test k ≡ true) → rule_fault r m test ≡ None = λ r m test each.
    first_below_none m (λ k. unless (test k) (fault_at r k)) (λ k below. ap (λ (b : Bool). unless b (fault_at r k)) (each k below))
    in
    all_none (rule_fault 1 1 (λ place. has_bound w)) (rule_fault 2 1 (λ place. has_scale w)) (rule_fault 3 n (has_small_demand w))
    (rule_fault 4 n (is_carried w)) (rule_fault 5 n (has_sound_rival h w)) (rule_fault 6 n (has_whole_rival w))
    (none 1 1 (λ place. has_bound w) (λ k below. kept.bound)) (none 2 1 (λ place. has_scale w) (λ k below. kept.scale))
    (none 3 n (has_small_demand w) kept.demands) (none 4 n (is_carried w) kept.carried) (none 5 n (has_sound_rival h w) kept.sound)
    (none 6 n (has_whole_rival w) kept.whole)
  where
    all_none : (a b c d e f : Option RuleFault) → a ≡ None → b ≡ None → c ≡ None → d ≡ None → e ≡ None → f ≡ None →
        first_some (a ∷ b ∷ c ∷ d ∷ e ∷ f ∷ []) ≡ None
    all_none a b c d e f ia ib ic id ie if' = rw (ia, ib, ic, id, ie, if') refl

-- the routes of a routing have the pairs of the head
pub same_ends : (h : Head) (routes : List PairRoutes) (p : ℕ) → map (λ r. r.pair) routes ≡ pairs_of h →
    (routes_at routes p).pair ≡ (routes_at h.routes p).pair
same_ends h routes p same =
    sym (get_or-map (λ (r : PairRoutes). r.pair) routes p no_routes)
    ∙ ap (λ (ps : List Pair). get_or ps p no_routes.pair) same
    ∙ get_or-map (λ (r : PairRoutes). r.pair) h.routes p no_routes

pub same_length : (h : Head) (routes : List PairRoutes) → map (λ r. r.pair) routes ≡ pairs_of h → length routes ≡ length h.routes
same_length h routes same =
    let a = length-map routes (λ (r : PairRoutes). r.pair) in
    let b = length-map h.routes (λ (r : PairRoutes). r.pair) in
    let e = ap length same in
    omega (arith, a, b, e)

-- the rival's paths of a pair are those of the routes
pub paths_at : (w : Witness) (routes : List PairRoutes) (p : ℕ) → w.rival ≡ paths_by routes → rival_paths w p ≡ (routes_at routes p).paths
paths_at w routes p same = ap (λ (rival : List (List PathShare)). slice_index_or rival p []) same ∙ get_or-map (λ (r : PairRoutes). r.paths) routes p no_routes

-- the split of a pair keeps U4 to U6
carried : (net : Network) (r : PairRoutes) (demand : ℕ) → IsPathSplit net r → (demand == 0 || nat_le 1 (length r.paths)) ≡ true
carried net r demand split = ap (λ (b : Bool). demand == 0 || b) (le-leb 1 (length r.paths) (split_some net r split)) ∙ or_true (demand == 0)
  where
    or_true : (b : Bool) → (b || true) ≡ true
    or_true true = refl
    or_true false = refl

sound : (net : Network) (r : PairRoutes) → IsPathSplit net r → (list_all (λ s. is_path net r.pair.src r.pair.dst s.links) r.paths && paths_ascend r.paths) ≡ true
sound net r split =
    and_from (list_all (λ s. is_path net r.pair.src r.pair.dst s.links) r.paths) (paths_ascend r.paths)
    (all_to_tests (λ s. is_path net r.pair.src r.pair.dst s.links) (λ s. IsTrue (is_path net r.pair.src r.pair.dst s.links)) (λ s e. e) r.paths split.paths)
    split.distinct

whole : (net : Network) (r : PairRoutes) → IsPathSplit net r →
    (length r.paths == 0 || (list_all (λ s. nat_le 1 s.weight) r.paths && sum_by (λ s. s.weight) r.paths == 1000000)) ≡ true
whole net r split =
    let both = and_from (list_all (λ s. nat_le 1 s.weight) r.paths) (sum_by (λ s. s.weight) r.paths == 1000000)
    (all_to_tests (λ s. nat_le 1 s.weight) (λ s. 1 ≤ s.weight) (λ s e. le-leb 1 s.weight e) r.paths split.weights)
    (eq-eqb (sum_by (λ s. s.weight) r.paths) 1000000 split.whole)
    in
    ap (λ (b : Bool). length r.paths == 0 || b) both ∙ or_true (length r.paths == 0)
  where
    or_true : (b : Bool) → (b || true) ≡ true
    or_true true = refl
    or_true false = refl

-- the witness of a matrix and of a routing of it keeps its rules
pub routed_kept : (h : Head) (w : Witness) (routes : List PairRoutes) → IsRoutingOf h.network (pairs_of h) routes → w.rival ≡ paths_by routes →
    AreDemands (length h.routes) w.demand.demand → w.bound ≡ 0 → w.x ≤ 2 ^ 36 → 1 ≤ w.y → w.y ≤ 2 ^ 36 → KeepsRules h w
routed_kept h w routes is same demands bound x some y =
    let net = h.network in
    let split : (p : ℕ) → p < length h.routes → IsPathSplit net (routes_at routes p) = λ p below.
    All-get_or (IsPathSplit net) routes p no_routes (let count = same_length h routes is.in_order in omega (arith, below, count)) is.splits
    in
    keeps_rules h w (record {
      bound = lt-ltb w.bound (10 ^ 19) (omega (arith, bound));
      scale = and_from (nat_le w.x (2 ^ 36) && nat_le 1 w.y) (nat_le w.y (2 ^ 36))
          (and_from (nat_le w.x (2 ^ 36)) (nat_le 1 w.y) (le-leb w.x (2 ^ 36) x) (le-leb 1 w.y some)) (le-leb w.y (2 ^ 36) y);
      demands = λ p below. le-leb (demand_of w p) (2 ^ 32)
          (All-get_or (λ d. d ≤ 2 ^ 32) w.demand.demand p 0 (let count = demands.count in omega (arith, below, count)) demands.small);
      carried = λ p below. ap (λ (ps : List PathShare). demand_of w p == 0 || nat_le 1 (length ps)) (paths_at w routes p same)
          ∙ carried net (routes_at routes p) (demand_of w p) (split p below);
      sound = λ p below.
          let ends = same_ends h routes p is.in_order in
          ap (λ (ps : List PathShare). list_all (λ s. is_path net (source_of h.routes p) (destination_of h.routes p) s.links) ps && paths_ascend ps) (paths_at w routes p same)
          ∙ ap (λ (pair : Pair). list_all (λ s. is_path net pair.src pair.dst s.links) (routes_at routes p).paths && paths_ascend (routes_at routes p).paths) (sym ends)
          ∙ sound net (routes_at routes p) (split p below);
      whole = λ p below.
          ap (λ (ps : List PathShare). length ps == 0 || (list_all (λ s. nat_le 1 s.weight) ps && sum_by (λ s. s.weight) ps == 1000000)) (paths_at w routes p same)
          ∙ whole net (routes_at routes p) (split p below);
    })

-- ---- the routing can be written

shaped_path : (net : Network) (s t : ℕ) (p : PathShare) → LinksJoinNodes net → node_count net ≤ FORMAT_2.nodes → link_count net ≤ FORMAT_2.links →
    s < node_count net → (s ≡ t → ⊥) → p.weight ≤ 1000000 → is_path net s t p.links ≡ true → is_shaped_path FORMAT_2 p ≡ true
shaped_path net s t p joins few few_links inside apart light path =
    let short = path_short net s t p.links joins inside path in
    let some = chain_some net s t p.links apart (chains_of_path net s t p.links path) in
    let words = all_to_tests is_word (λ h. h < link_count net) (λ h below. lt-ltb h (2 ^ 64) (omega (arith, below, few_links))) p.links (path_links net s t p.links path) in
    and_from (is_word p.weight && is_count 1 FORMAT_2.hops (length p.links)) (are_words p.links)
    (and_from (is_word p.weight) (is_count 1 FORMAT_2.hops (length p.links)) (lt-ltb p.weight (2 ^ 64) (omega (arith, light)))
    (and_from (nat_le 1 (length p.links)) (nat_le (length p.links) FORMAT_2.hops) (le-leb 1 (length p.links) some)
    (le-leb (length p.links) FORMAT_2.hops (omega (arith, short, few)))))
    words

no_path_share : PathShare
no_path_share = record { links = []; weight = 0 }

pub shaped_split : (net : Network) (r : PairRoutes) → LinksJoinNodes net → node_count net ≤ FORMAT_2.nodes → link_count net ≤ FORMAT_2.links →
    r.pair.src < node_count net → (r.pair.src ≡ r.pair.dst → ⊥) → length r.paths ≤ 32 → IsPathSplit net r → are_shaped_paths r.paths ≡ true
shaped_split net r joins few few_links inside apart few_paths split =
    let paths : list_all (is_shaped_path FORMAT_2) r.paths ≡ true =
    all_to_tests (is_shaped_path FORMAT_2) (λ s. is_shaped_path FORMAT_2 s ≡ true) (λ s e. e) r.paths
    (All-from_get_or (λ s. is_shaped_path FORMAT_2 s ≡ true) r.paths no_path_share (λ k below.
    shaped_path net r.pair.src r.pair.dst (get_or r.paths k no_path_share) joins few few_links inside apart
    (omega (arith, get_or-le-sum_by (λ s. s.weight) r.paths k no_path_share below, split.whole))
    (All-get_or (λ s. IsTrue (is_path net r.pair.src r.pair.dst s.links)) r.paths k no_path_share below split.paths)))
    in
    and_from (is_count 0 FORMAT_2.paths (length r.paths)) (list_all (is_shaped_path FORMAT_2) r.paths)
    (and_from (nat_le 0 (length r.paths)) (nat_le (length r.paths) FORMAT_2.paths) (le-leb 0 (length r.paths) (omega arith))
    (le-leb (length r.paths) FORMAT_2.paths (omega (arith, few_paths))))
    paths
