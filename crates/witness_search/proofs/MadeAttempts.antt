-- The witness of a matrix that is tried, and of the scheme's routing of it.
use Rattle.std.proofs.Common.{◌≡◌, ℕ, suc, ◌^◌, ◌<◌, ◌≤◌, true, ◌&&◌, List, [], ◌∷◌, length, arith, refl, ap, sym, ◌∙◌, subst, ◌==◌}
use Rattle.std.specs.List.{list_all}
use Rattle.std.proofs.lemmas.Bool.{and_from, eq-eqb, lt-ltb}
use Rattle.std.proofs.lemmas.List.{length-map}
use Rattle.std.proofs.lemmas.List.Elements.{All-get_or}
use Rattle.te_model.specs.declared.certificate.Head.{Head}
use Rattle.te_model.specs.declared.route.PairRoutes.{PairRoutes}
use Rattle.te_model.specs.declared.route.PathShare.{PathShare}
use Rattle.te_model.specs.Network.{node_count}
use Rattle.te_model.specs.Path.{no_routes, routes_at}
use Rattle.te_model.specs.PathRouting.{IsPathSplit}
use Rattle.te_model.specs.Shape.{are_words, is_row_of, is_word}
use Rattle.te_model.specs.Validity.{IsValidHead}
use Rattle.te_model.proofs.Tests.{all_to_tests}
use Rattle.te_model.proofs.Valid.{valid_limits}
use Rattle.routing.specs.Routes.{HasFewPaths, IsRoutingOf}
use Rattle.witness_search.specs.declared.attempt.Tried.{Tried}
use Rattle.ratio_witness.specs.declared.witness.Witness.{Witness}
use Rattle.witness_search.specs.Attempts.{CanTry, IsAttempt, pairs_of}
use Rattle.witness_search.specs.Candidates.{paths_by}
use Rattle.ratio_witness.specs.Rules.{KeepsRules}
use Rattle.ratio_witness.specs.Text.{are_shaped_paths, is_shaped_witness}
use Rattle.ratio_witness.specs.Verdict.{ratio_shown}
use Rattle.witness_search.proofs.Attempted.{routed_kept, same_ends, same_length, shaped_split}
use Rattle.witness_search.proofs.Heads.{head_apart, head_pairs}
use Rattle.ratio_checker.proofs.FormedHeads.{head_links}
use Rattle.te_model.proofs.ValidHeads.{valid_without_blocks}

-- the witness of bound 0
abbrev pub witness_tried : Tried → List (List PathShare) → Witness
witness_tried tried paths = record { bound = 0; x = tried.x; y = tried.y; demand = tried.demand; rival = paths }

pub tried_keeps : (h : Head) (tried : Tried) (routes : List PairRoutes) (paths : List (List PathShare)) → CanTry h tried →
    IsRoutingOf h.network (pairs_of h) routes → paths ≡ paths_by routes → KeepsRules h (witness_tried tried paths)
tried_keeps h tried routes paths can is same =
    routed_kept h (witness_tried tried paths) routes is same can.demands refl can.x can.y.0 can.y.1

-- each path of the routing can be written
split_shaped : (h : Head) (routes : List PairRoutes) → IsValidHead h → IsRoutingOf h.network (pairs_of h) routes → HasFewPaths 32 routes →
    (p : ℕ) → p < length routes → are_shaped_paths (routes_at routes p).paths ≡ true
split_shaped h routes valid is few p below =
    let net = h.network in
    let limits = valid_limits (record { head = h; blocks = [] }) (valid_without_blocks h valid) in
    let inside : p < length h.routes = let e = same_length h routes is.in_order in omega (arith, below, e) in
    let ends = same_ends h routes p is.in_order in
    let source = ap (λ r. r.src) ends in
    let target = ap (λ r. r.dst) ends in
    let joined = head_pairs h valid p inside in
    let from : (routes_at routes p).pair.src < node_count net = subst (λ k. k < node_count net) (sym source) joined.0 in
    shaped_split net (routes_at routes p) (head_links h valid) limits.nodes limits.links from
    (λ same. head_apart h valid p inside (sym source ∙ same ∙ target))
    (All-get_or (λ r. length r.paths ≤ 32) routes p no_routes below few)
    (All-get_or (IsPathSplit net) routes p no_routes below is.splits)

paths_shaped : (routes : List PairRoutes) → ((p : ℕ) → p < length routes → are_shaped_paths (routes_at routes p).paths ≡ true) → list_all are_shaped_paths (paths_by routes) ≡ true
paths_shaped [] each = refl
paths_shaped (r ∷ rs) each =
    and_from (are_shaped_paths r.paths) (list_all are_shaped_paths (paths_by rs)) (each 0 (omega arith))
    (paths_shaped rs (λ p below. each (suc p) (omega (arith, below))))

pub tried_shaped : (h : Head) (tried : Tried) (routes : List PairRoutes) (paths : List (List PathShare)) → IsValidHead h → CanTry h tried →
    IsRoutingOf h.network (pairs_of h) routes → HasFewPaths 32 routes → paths ≡ paths_by routes →
    is_shaped_witness (length h.routes) (witness_tried tried paths) ≡ true
tried_shaped h tried routes paths valid can is few same =
    let n = length h.routes in
    let demand = tried.demand.demand in
    let x = can.x in
    let y = can.y.1 in
    let words : are_words demand ≡ true = all_to_tests is_word (λ d. d ≤ 2 ^ 32) (λ d le. lt-ltb d (2 ^ 64) (omega (arith, le))) demand can.demands.small in
    let row = and_from (length demand == n) (are_words demand) (eq-eqb (length demand) n can.demands.count) words in
    let count : length paths ≡ n = ap length same ∙ length-map routes (λ (r : PairRoutes). r.paths) ∙ same_length h routes is.in_order in
    let rival = ap (list_all are_shaped_paths) same ∙ paths_shaped routes (split_shaped h routes valid is few) in
    let b = lt-ltb tried.x (2 ^ 64) (omega (arith, x)) in
    let c = lt-ltb tried.y (2 ^ 64) (omega (arith, y)) in
    let ab = and_from (is_word 0) (is_word tried.x) refl b in
    let abc = and_from (is_word 0 && is_word tried.x) (is_word tried.y) ab c in
    let abcd = and_from (is_word 0 && is_word tried.x && is_word tried.y) (is_row_of n demand) abc row in
    let abcde = and_from (is_word 0 && is_word tried.x && is_word tried.y && is_row_of n demand) (length paths == n) abcd (eq-eqb (length paths) n count) in
    and_from (is_word 0 && is_word tried.x && is_word tried.y && is_row_of n demand && length paths == n) (list_all are_shaped_paths paths) abcde rival

pub attempt_made : (h : Head) (Routes : List ℕ → List PairRoutes → Type 0) (tried : Tried) (routes : List PairRoutes) (paths : List (List PathShare)) (ratio : ℕ) →
    IsValidHead h → CanTry h tried → IsRoutingOf h.network (pairs_of h) routes → HasFewPaths 32 routes → paths ≡ paths_by routes →
    Routes tried.demand.demand routes → ratio ≡ ratio_shown h (witness_tried tried paths) →
    IsAttempt h Routes tried (record { place = tried.place; ratio = ratio; witness = witness_tried tried paths })
attempt_made h Routes tried routes paths ratio valid can is few same routed shown = record {
  place = refl;
  bound = refl;
  demand = refl;
  scale = (refl, refl);
  routes = routes;
  routed = routed;
  rival = same;
  witness = record { shaped = tried_shaped h tried routes paths valid can is few same; rules = tried_keeps h tried routes paths can is same };
  ratio = shown;
}
