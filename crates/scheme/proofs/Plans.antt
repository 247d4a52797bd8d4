-- Routings by a rule for single pairs, pair by pair.
use Rattle.std.proofs.Common.{◌≡◌, ℕ, ◌+◌, ◌<◌, ◌≤◌, true, List, [], ◌∷◌, ◌++◌, length, map, take, get_or, arith, refl, ap, sym, ◌∙◌, subst, All, IsTrue}
use Rattle.std.proofs.lemmas.Bool.{and_parts, eqb-true}
use Rattle.std.proofs.lemmas.List.{get_or-map, get_or-take, length-append, map_push, take_more, take_all}
use Rattle.std.proofs.lemmas.List.Elements.{All-get_or, All-head, All-nil, All-push, All-weaker}
use Rattle.te_model.specs.declared.network.Network.{Network}
use Rattle.te_model.specs.declared.route.Pair.{Pair}
use Rattle.te_model.specs.declared.route.PathShare.{PathShare}
use Rattle.te_model.specs.declared.route.PairRoutes.{PairRoutes}
use Rattle.te_model.specs.Path.{is_path, chains, is_distinct, nodes_visited, routes_at, no_routes}
use Rattle.te_model.specs.PathRouting.{IsPathSplit}
use Rattle.shortest_path.specs.Paths.{HasPath}
use Rattle.routing.specs.Split.{total_weight}
use Rattle.scheme.specs.Fixed.{IsSplitBy, IsRoutingBy, IsFixedRouting}
use Rattle.scheme.specs.Reach.{IsPairOf, ArePairsOf, no_pair, pair_at, IsReached}

-- the plan's own routing stands in the relation
pub related : (rule : Network → Pair → List PathShare → Type 0) (limit : ℕ) (net : Network) (pairs : List Pair) (fixed routes : List PairRoutes) →
    IsRoutingBy rule limit net pairs fixed → routes ≡ fixed → IsFixedRouting rule net fixed routes
related rule limit net pairs fixed routes is same =
    record { same = same; by_rule = subst (All (λ r. rule net r.pair r.paths)) (sym same) is.by_rule }

-- the routes of the first p pairs
pub record RoutesSoFar (rule : Network → Pair → List PathShare → Type 0) (limit : ℕ) (net : Network) (pairs : List Pair) (p : ℕ) (routes : List PairRoutes) : Type 0 where
  pub count : length routes ≡ p
  pub in_order : map (λ (r : PairRoutes). r.pair) routes ≡ take p pairs
  pub splits : All (IsSplitBy rule limit net) routes

pub routes_none : (rule : Network → Pair → List PathShare → Type 0) (limit : ℕ) (net : Network) (pairs : List Pair) → RoutesSoFar rule limit net pairs 0 []
routes_none rule limit net pairs = record { count = refl; in_order = refl; splits = All-nil (IsSplitBy rule limit net) }

pub routes_more : (rule : Network → Pair → List PathShare → Type 0) (limit : ℕ) (net : Network) (pairs : List Pair) (p : ℕ) (routes : List PairRoutes) (r : PairRoutes) →
    RoutesSoFar rule limit net pairs p routes → p < length pairs → r.pair ≡ pair_at pairs p → IsSplitBy rule limit net r →
    RoutesSoFar rule limit net pairs (p + 1) (routes ++ r ∷ [])
routes_more rule limit net pairs p routes r far inside at split = record {
  count = omega (arith, far.count, length-append routes (r ∷ []));
  in_order =
      map_push (λ (r : PairRoutes). r.pair) routes r
      ∙ (ap (λ l. l ++ r.pair ∷ []) far.in_order ∙ (ap (λ x. take p pairs ++ x ∷ []) at ∙ sym (take_more pairs p no_pair inside)));
  splits = All-push (IsSplitBy rule limit net) routes r far.splits split;
}

-- a pair whose demand is split has a path
split_reached : (net : Network) (r : PairRoutes) → IsPathSplit net r → IsPairOf net r.pair → HasPath net r.pair.src r.pair.dst
split_reached net r split ends = go r.paths refl
  where
    chained : (links : List ℕ) → chains net r.pair.src r.pair.dst links ≡ true → HasPath net r.pair.src r.pair.dst
    chained [] chain = absurd (ends.apart (eqb-true r.pair.src r.pair.dst chain))
    chained (h ∷ hs) chain = (h ∷ hs, omega arith, chain)

    go : (paths : List PathShare) → r.paths ≡ paths → HasPath net r.pair.src r.pair.dst
    go [] e =
        let none : total_weight r.paths ≡ 0 = ap total_weight e in
        absurd (omega (arith, split.whole, none))
    go (s ∷ ss) e =
        let first = All-head (λ (s : PathShare). IsTrue (is_path net r.pair.src r.pair.dst s.links)) s ss
        (subst (All (λ (s : PathShare). IsTrue (is_path net r.pair.src r.pair.dst s.links))) e split.paths)
        in
        chained s.links (and_parts (chains net r.pair.src r.pair.dst s.links) (is_distinct (nodes_visited net r.pair.src s.links)) first).0

-- the pairs with routes have paths
pub reached_at : (rule : Network → Pair → List PathShare → Type 0) (limit : ℕ) (net : Network) (pairs : List Pair) (p : ℕ) (routes : List PairRoutes) →
    RoutesSoFar rule limit net pairs p routes → ArePairsOf net pairs → p ≤ length pairs → (q : ℕ) → q < p → IsReached net pairs q
reached_at rule limit net pairs p routes far ends within q below =
    let r = routes_at routes q in
    let here : q < length routes = omega (arith, far.count, below) in
    let pair : r.pair ≡ pair_at pairs q =
    sym (get_or-map (λ (r : PairRoutes). r.pair) routes q no_routes no_pair here) ∙ (ap (λ l. get_or l q no_pair) far.in_order ∙ get_or-take p pairs q no_pair below)
    in
    let split = All-get_or (IsSplitBy rule limit net) routes q no_routes here far.splits in
    let end = All-get_or (IsPairOf net) pairs q no_pair (omega (arith, below, within)) ends.each in
    subst (λ (x : Pair). HasPath net x.src x.dst) pair (split_reached net r split.split (subst (IsPairOf net) (sym pair) end))

pub routes_done : (rule : Network → Pair → List PathShare → Type 0) (limit : ℕ) (net : Network) (pairs : List Pair) (p : ℕ) (routes : List PairRoutes) →
    RoutesSoFar rule limit net pairs p routes → p ≡ length pairs → IsRoutingBy rule limit net pairs routes
routes_done rule limit net pairs p routes far done = record {
  routing = record {
    in_order = far.in_order ∙ take_all p pairs (omega (arith, done));
    splits = All-weaker (IsSplitBy rule limit net) (IsPathSplit net) (λ r is. is.split) routes far.splits;
  };
  few = All-weaker (IsSplitBy rule limit net) (λ r. length r.paths ≤ limit) (λ r is. is.few) routes far.splits;
  by_rule = All-weaker (IsSplitBy rule limit net) (λ r. rule net r.pair r.paths) (λ r is. is.by_rule) routes far.splits;
}
