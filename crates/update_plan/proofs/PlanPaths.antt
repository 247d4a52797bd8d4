-- The paths of a plan are paths of the network, with weights of at most one million.
use Rattle.std.proofs.Common.{inl, inr, ◌≡◌, ℕ, zero, suc, ◌<◌, ◌≤◌, Bool, true, false, List, [], ◌∷◌, length, get_or, arith, refl, sym, ◌∙◌, subst, All}
use Rattle.std.specs.Prelude.{IsTrue, bytes_eq, sum_by, if◌then◌else◌}
use Rattle.std.proofs.lemmas.Bool.{cases_lt}
use Rattle.std.proofs.lemmas.List.Elements.{All-append, All-get_or, All-nil, All-weaker}
use Rattle.std.proofs.lemmas.List.Sums.{get_or-le-sum_by, sum_by-cons}
use Rattle.std.proofs.lemmas.Slice.Eq.{bytes_eq-Decides}
use Rattle.te_model.specs.declared.network.Network.{Network}
use Rattle.te_model.specs.declared.route.PathShare.{PathShare}
use Rattle.te_model.specs.declared.route.PairRoutes.{PairRoutes}
use Rattle.te_model.specs.declared.units.TheConstants.{SHARE_UNIT}
use Rattle.te_model.specs.Network.{link_count}
use Rattle.te_model.specs.Path.{is_distinct, is_path, no_routes, routes_at}
use Rattle.te_model.specs.PathRouting.{IsPathRouting, IsPathSplit}
use Rattle.te_model.proofs.Chains.{path_links}
use Rattle.te_model.proofs.SimplePaths.{path_links_once}
use Rattle.te_model.proofs.Conditionals.{if_false, if_true}
use Rattle.routing.specs.Merge.{links_at, no_path, weight_where}
use Rattle.routing.proofs.Merged.{some_path}
use Rattle.update_plan.specs.declared.path.UpdatePath.{UpdatePath}
use Rattle.update_plan.specs.Loads.{IsUpdatePath}
use Rattle.update_plan.specs.Stages.{HasSmallWeights}
use Rattle.update_plan.specs.Paths.{ArePaths, AreSideBySide, weight_by}

-- a path with a weight in a split is one of its paths
pub of_split : (weight : UpdatePath → ℕ) (own : List UpdatePath) (xs : List PathShare) → ((test : List ℕ → Bool) → weight_by weight test own ≡ weight_where test xs) →
    (k : ℕ) (d : UpdatePath) → k < length own → 1 ≤ weight (get_or own k d) → (m : ℕ) × (m < length xs) × (links_at xs m ≡ (get_or own k d).links)
of_split weight own xs sums k d below some =
    let u = get_or own k d in
    let test : List ℕ → Bool = λ l. bytes_eq l u.links in
    let term = get_or-le-sum_by (λ (v : UpdatePath). if test v.links then weight v else 0) own k d below in
    let here = if_true (test u.links) (weight u) ((bytes_eq-Decides u.links u.links).1 refl) in
    let (m, inside, passes) = some_path test xs (omega (arith, term, here, some, sums test)) in
    (m, inside, (bytes_eq-Decides (links_at xs m) u.links).0 passes)

is_path_of : (net : Network) (r : PairRoutes) → IsPathSplit net r → (links : List ℕ) → (m : ℕ) × (m < length r.paths) × (links_at r.paths m ≡ links) →
    is_path net r.pair.src r.pair.dst links ≡ true
is_path_of net r split links (m, inside, same) =
    subst (λ l. is_path net r.pair.src r.pair.dst l ≡ true) same
    (All-get_or (λ (s : PathShare). IsTrue (is_path net r.pair.src r.pair.dst s.links)) r.paths m no_path inside split.paths)

-- over different links of the network
goes_over : (net : Network) (r s : PairRoutes) (p : ℕ) (own : List UpdatePath) → IsPathSplit net r → IsPathSplit net s → AreSideBySide p r.paths s.paths own →
    (k : ℕ) (d : UpdatePath) → k < length own → All (λ h. h < link_count net) (get_or own k d).links × IsTrue (is_distinct (get_or own k d).links)
goes_over net r s p own before after side k d below =
    let u = get_or own k d in
    let some = (side.own k d below).1 in
    elim (cases_lt 0 u.before) [
      | inl here ↦
          let path = is_path_of net r before u.links (of_split (λ v. v.before) own r.paths side.before_is k d below here) in
          (path_links net r.pair.src r.pair.dst u.links path, path_links_once net r.pair.src r.pair.dst u.links path)
      | inr none ↦
          let path = is_path_of net s after u.links (of_split (λ v. v.after) own s.paths side.after_is k d below (omega (arith, none, some))) in
          (path_links net s.pair.src s.pair.dst u.links path, path_links_once net s.pair.src s.pair.dst u.links path)
    ]

pub own_paths : (net : Network) (pairs : ℕ) (r s : PairRoutes) (p : ℕ) (own : List UpdatePath) → p < pairs → IsPathSplit net r → IsPathSplit net s →
    AreSideBySide p r.paths s.paths own → All (IsUpdatePath net pairs) own
own_paths net pairs r s p own inside before after side k d below =
    let u = get_or own k d in
    let over = goes_over net r s p own before after side k d below in
    let old : sum_by (λ (v : UpdatePath). v.before) own ≡ SHARE_UNIT = side.before_is (λ l. true) ∙ before.whole in
    let new : sum_by (λ (v : UpdatePath). v.after) own ≡ SHARE_UNIT = side.after_is (λ l. true) ∙ after.whole in
    record {
      pair = omega (arith, (side.own k d below).0, inside);
      before = omega (arith, get_or-le-sum_by (λ (v : UpdatePath). v.before) own k d below, old);
      after = omega (arith, get_or-le-sum_by (λ (v : UpdatePath). v.after) own k d below, new);
      links = over.0;
      distinct = over.1;
    }

pub split_at : (net : Network) (routes : List PairRoutes) (p : ℕ) → IsPathRouting net routes → p < length routes → IsPathSplit net (routes_at routes p)
split_at net routes p all below = All-get_or (IsPathSplit net) routes p no_routes below all

first_paths : (net : Network) (before after : List PairRoutes) (n : ℕ) (paths : List UpdatePath) → IsPathRouting net before → IsPathRouting net after →
    length after ≡ length before → n ≤ length before → ArePaths n before after paths → All (IsUpdatePath net (length before)) paths
first_paths net before after zero paths old new same le is =
    subst (λ l. All (IsUpdatePath net (length before)) l) (sym is) (All-nil (IsUpdatePath net (length before)))
first_paths net before after (suc n) paths old new same le (earlier, own, is, rest, side) =
    subst (λ l. All (IsUpdatePath net (length before)) l) (sym is)
    (All-append (IsUpdatePath net (length before)) earlier own (first_paths net before after n earlier old new same (omega (arith, le)) rest)
    (own_paths net (length before) (routes_at before n) (routes_at after n) n own (omega (arith, le))
    (split_at net before n old (omega (arith, le))) (split_at net after n new (omega (arith, le, same))) side))

pub are_update_paths : (net : Network) (before after : List PairRoutes) (paths : List UpdatePath) → IsPathRouting net before → IsPathRouting net after →
    length after ≡ length before → ArePaths (length before) before after paths → All (IsUpdatePath net (length before)) paths
are_update_paths net before after paths old new same are = first_paths net before after (length before) paths old new same (omega arith) are

-- so their weights are small
pub small_weights : (net : Network) (before after : List PairRoutes) (paths : List UpdatePath) → IsPathRouting net before → IsPathRouting net after →
    length after ≡ length before → ArePaths (length before) before after paths → All HasSmallWeights paths
small_weights net before after paths old new same are =
    All-weaker (IsUpdatePath net (length before)) HasSmallWeights (λ u is. record { before = is.before; after = is.after }) paths
    (are_update_paths net before after paths old new same are)
