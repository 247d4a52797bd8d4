-- The pairs that keep a path are some of the declared ones, in order, and have one demand each.
use Rattle.std.proofs.Common.{◌≡◌, ◌⊎◌, ℕ, suc, ◌≤◌, Bool, true, false, not, ◌&&◌, ◌||◌, List, [], ◌∷◌, length, filter, map, All, AllPairs, arith, ap, refl, sym, ◌∙◌, subst, inl, inr, ◌==◌, if◌then◌else◌}
use Rattle.std.specs.List.{list_any}
use Rattle.std.proofs.lemmas.Bool.{and_from, and_parts, eq-eqb, eqb-true, or_left}
use Rattle.std.proofs.lemmas.List.{length-map}
use Rattle.std.proofs.lemmas.List.Elements.{All-cons, All-filter, All-head, All-nil, All-tail, All-weaker}
use Rattle.std.proofs.lemmas.List.Filters.{length-filter_both}
use Rattle.std.proofs.lemmas.List.Kept.{AllPairs-filter}
use Rattle.te_model.specs.declared.route.Pair.{Pair}
use Rattle.te_model.specs.declared.route.PairRoutes.{PairRoutes}
use Rattle.te_model.specs.Pairs.{AscendPairs}
use Rattle.te_model.proofs.AscendingPairs.{Below, all_ascend, below_differ}
use Rattle.routing.specs.Routes.{AreDemands}
use Rattle.local_recovery.specs.Rates.{pairs_of}
use Rattle.local_recovery.specs.Recovery.{scaled_routes}
use Rattle.local_recovery.specs.Spread.{IsSublist}
use Rattle.series_simulation.specs.StandingPaths.{has_some_path, standing_demands, standing_routes}
use Rattle.series_simulation.proofs.Demands.{demands_are}

is_pair_of : Pair → PairRoutes → Bool
is_pair_of p r = r.pair.src == p.src && r.pair.dst == p.dst

-- whether the pair is one of those of the routes
is_among : List PairRoutes → Pair → Bool
is_among routes p = list_any (is_pair_of p) routes

own_pair : (r : PairRoutes) → is_pair_of r.pair r ≡ true
unfolding is_pair_of
own_pair r = and_from (r.pair.src == r.pair.src) (r.pair.dst == r.pair.dst) (eq-eqb r.pair.src r.pair.src refl) (eq-eqb r.pair.dst r.pair.dst refl)

not_true : (b : Bool) → (b ≡ true → ⊥) → b ≡ false
not_true true never = absurd (never refl)
not_true false never = refl

-- a pair is not that of routes of a pair above it or below it
other_pair : (p : Pair) (r : PairRoutes) → Below p r.pair ⊎ Below r.pair p → is_pair_of p r ≡ false
unfolding is_pair_of
other_pair p r apart =
    not_true (r.pair.src == p.src && r.pair.dst == p.dst) (λ is.
    let parts = and_parts (r.pair.src == p.src) (r.pair.dst == p.dst) is in
    let src : r.pair.src ≡ p.src = eqb-true r.pair.src p.src parts.0 in
    let dst : r.pair.dst ≡ p.dst = eqb-true r.pair.dst p.dst parts.1 in
    elim apart [ inl less ↦ below_differ p r.pair less (sym src) (sym dst) | inr more ↦ below_differ r.pair p more src dst ])

none_among : (p : Pair) (routes : List PairRoutes) → All (λ (r : PairRoutes). Below p r.pair) routes → is_among routes p ≡ false
unfolding is_among
none_among p [] above = refl
none_among p (r ∷ rs) above =
    let here : is_pair_of p r ≡ false = other_pair p r (inl (All-head (λ (q : PairRoutes). Below p q.pair) r rs above)) in
    let rest : list_any (is_pair_of p) rs ≡ false = none_among p rs (All-tail (λ (q : PairRoutes). Below p q.pair) r rs above) in
    ap (λ b. b || list_any (is_pair_of p) rs) here ∙ rest

same_filter : (one other : Pair → Bool) (pairs : List Pair) → All (λ p. one p ≡ other p) pairs → filter one pairs ≡ filter other pairs
same_filter one other [] same = refl
same_filter one other (p ∷ ps) same =
    ap (λ b. if b then p ∷ filter one ps else filter one ps) (All-head (λ q. one q ≡ other q) p ps same)
    ∙ ap (λ qs. if other p then p ∷ qs else qs) (same_filter one other ps (All-tail (λ q. one q ≡ other q) p ps same))

-- what holds of the pairs of routes
of_pairs : (P : Pair → Type 0) (routes : List PairRoutes) → All P (pairs_of routes) → All (λ (r : PairRoutes). P r.pair) routes
of_pairs P [] all = All-nil (λ (r : PairRoutes). P r.pair)
of_pairs P (r ∷ rs) all =
    All-cons (λ (q : PairRoutes). P q.pair) r rs (All-head P r.pair (pairs_of rs) all) (of_pairs P rs (All-tail P r.pair (pairs_of rs) all))

-- routes of pairs below another change nothing of whether it is among some
among_later : (r : PairRoutes) (kept : List PairRoutes) (p : Pair) → Below r.pair p → is_among (r ∷ kept) p ≡ is_among kept p
unfolding is_among
among_later r kept p below = ap (λ b. b || list_any (is_pair_of p) kept) (other_pair p r (inr below))

among_first : (r : PairRoutes) (kept : List PairRoutes) → is_among (r ∷ kept) r.pair ≡ true
unfolding is_among
among_first r kept = or_left (is_pair_of r.pair r) (list_any (is_pair_of r.pair) kept) (own_pair r)

-- the pairs of those routes that pass a test are those among them
passing_among : (test : PairRoutes → Bool) (routes : List PairRoutes) → AllPairs Below (pairs_of routes) →
    pairs_of (filter test routes) ≡ filter (is_among (filter test routes)) (pairs_of routes)
passing_among test [] up = refl
passing_among test (r ∷ rs) up = go (test r) (passing_among test rs (λ i j d before inside. up (suc i) (suc j) d (omega (arith, before)) (omega (arith, inside))))
  where
    above : All (λ (p : Pair). Below r.pair p) (pairs_of rs)
    above k d below = up 0 (suc k) d (omega arith) (omega (arith, below))

    go : (b : Bool) → pairs_of (filter test rs) ≡ filter (is_among (filter test rs)) (pairs_of rs) →
        pairs_of (if b then r ∷ filter test rs else filter test rs)
        ≡ filter (is_among (if b then r ∷ filter test rs else filter test rs)) (r.pair ∷ pairs_of rs)
    go true rest =
        let more = r ∷ filter test rs in
        let same = same_filter (is_among more) (is_among (filter test rs)) (pairs_of rs)
        (All-weaker (Below r.pair) (λ p. is_among more p ≡ is_among (filter test rs) p) (λ p is. among_later r (filter test rs) p is) (pairs_of rs) above) in
        ap (λ ps. r.pair ∷ ps) (rest ∙ sym same)
        ∙ sym (ap (λ b. if b then r.pair ∷ filter (is_among more) (pairs_of rs) else filter (is_among more) (pairs_of rs)) (among_first r (filter test rs)))
    go false rest =
        let few = filter test rs in
        let none = none_among r.pair few (All-filter test (λ (q : PairRoutes). Below r.pair q.pair) rs (of_pairs (Below r.pair) rs above)) in
        rest ∙ sym (ap (λ b. if b then r.pair ∷ filter (is_among few) (pairs_of rs) else filter (is_among few) (pairs_of rs)) none)

filter_twice : (one other : Pair → Bool) (pairs : List Pair) → filter one (filter other pairs) ≡ filter (λ p. other p && one p) pairs
filter_twice one other [] = refl
filter_twice one other (p ∷ ps) = go (other p) (filter_twice one other ps)
  where
    go : (b : Bool) → filter one (filter other ps) ≡ filter (λ q. other q && one q) ps →
        filter one (if b then p ∷ filter other ps else filter other ps)
        ≡ (if b && one p then p ∷ filter (λ q. other q && one q) ps else filter (λ q. other q && one q) ps)
    go true rest = ap (λ qs. if one p then p ∷ qs else qs) rest
    go false rest = rest

scaled_pairs : (failed : List Bool) (routes : List PairRoutes) → pairs_of (map (scaled_routes failed) routes) ≡ pairs_of routes
scaled_pairs failed [] = refl
scaled_pairs failed (r ∷ rs) = ap (λ ps. r.pair ∷ ps) (scaled_pairs failed rs)

-- the pairs of what stands of routes of some declared pairs are some declared pairs
pub standing_pairs : (failed : List Bool) (paths : List PairRoutes) (pairs : List Pair) (test : Pair → Bool) → AscendPairs pairs →
    pairs_of paths ≡ filter test pairs → IsSublist (pairs_of (standing_routes failed paths)) pairs
standing_pairs failed paths pairs test up some =
    let scaled = map (scaled_routes failed) paths in
    let whole : pairs_of scaled ≡ filter test pairs = scaled_pairs failed paths ∙ some in
    let ascend = subst (AllPairs Below) (sym whole) (AllPairs-filter Below test pairs (all_ascend pairs up)) in
    let among = is_among (standing_routes failed paths) in (
      λ p. test p && among p,
      passing_among has_some_path scaled ascend ∙ (ap (filter among) whole ∙ filter_twice among test pairs),
    )

-- and each has a demand
pub standing_demands_are : (failed : List Bool) (paths : List PairRoutes) (demand : List ℕ) → AreDemands (length paths) demand →
    AreDemands (length (standing_routes failed paths)) (standing_demands failed paths demand)
standing_demands_are failed paths demand are =
    demands_are has_some_path (map (scaled_routes failed) paths) demand
    (subst (λ n. AreDemands n demand) (sym (length-map paths (scaled_routes failed))) are)

pub standing_count : (failed : List Bool) (paths : List PairRoutes) → length (standing_routes failed paths) ≤ length paths
standing_count failed paths =
    let scaled = map (scaled_routes failed) paths in
    omega (arith, length-map paths (scaled_routes failed), length-filter_both has_some_path (λ r. not (has_some_path r)) (λ r. refl) scaled)
