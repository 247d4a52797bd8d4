use Rattle.std.proofs.Common.{◌≡◌, ℕ, ◌<◌, List, [], length, map, get_or, arith, ap, sym, ◌∙◌, subst, All, below_more}
use Rattle.std.proofs.lemmas.List.{get_or_read, get_or-map, length-map}
use Rattle.te_model.specs.declared.route.PairRoutes.{PairRoutes}
use Rattle.te_model.specs.declared.route.Path.{Path}
use Rattle.te_model.specs.Network.{link_count}
use Rattle.te_model.specs.Path.{no_routes, routes_at}
use Rattle.te_model.specs.PathRouting.{IsPathRouting, IsPathSplit}
use Rattle.te_model.proofs.Chains.{path_links}
use Rattle.routing.proofs.Splits.{splits_of}
use Rattle.rate_sweeps.specs.Shifts.{IsDearestShift, IsShiftForDemand, IsShifted}
use Rattle.rate_sweeps.specs.Sweeps.{HaveLinks, links_in}
use Rattle.routing.proofs.Splits.{split_some}
use Rattle.rate_sweeps.proofs.PathLinks.{split_on_links}
use Rattle.rate_sweeps.proofs.Passed.{ShiftedSoFar, each_set, left_split, passed_few, passed_only, passed_pairs, passed_same, passed_shifted, passed_splits}
use Rattle.rate_sweeps.proofs.shifting.shift_dearest.Goals as goal
use Rattle.rate_sweeps.proofs.shifting.shift_dearest.Goals.{After-index-offered-p, After-new, then-demand-p-gt0+in_ok-shift_pair, else-demand-p-gt0}

-- the pair that is shifted has its split
split : (c : After-index-offered-p) → IsPathSplit c.args.net.now c.index_mut.result.now
split c =
    let old = c.args.routing.routes in
    let offered = map links_in c.args.offered.now in
    let p = c.loop-p.p in
    let now = c.loop-p.routes.items in
    let inside : p < length now = omega (arith, c.loop-p.invariant.0.count, ap (λ (l : List PairRoutes). length l) c.into_vec-routes.ensures) in
    subst (IsPathSplit c.args.net.now) (sym (get_or_read now p c.index_mut.result.now inside c.index_mut.ensures.value no_routes))
    (left_split c.args.net.now c.args.limit old offered p now c.requires.routing c.loop-p.invariant.0 (omega (arith, inside, c.loop-p.invariant.0.count)))

pub shift_pair-requires-clause-some : goal.shift_pair-requires-clause-some
shift_pair-requires-clause-some c =
    split_some c.args.net.now c.index_mut.result.now (split (goal.at.shift_pair-requires-clause-some c).After-index-offered-p)

pub shift_pair-requires-clause-links : goal.shift_pair-requires-clause-links
shift_pair-requires-clause-links c =
    let at = (goal.at.shift_pair-requires-clause-links c).After-index-offered-p in
    subst (λ m. HaveLinks m c.index_mut.result.now.paths) (sym c.requires.count) (split_on_links c.args.net.now c.index_mut.result.now (split at))

pub shift_pair-requires-clause-offered : goal.shift_pair-requires-clause-offered
shift_pair-requires-clause-offered c =
    let net = c.args.net.now in
    let old = c.args.routing.routes in
    let paths = c.args.offered.now in
    let p = c.loop-p.p in
    let none : Path = record { links = [] } in
    let below : p < length old = omega (arith, ap (λ (l : List PairRoutes). length l) c.into_vec-routes.ensures) in
    let inside : p < length paths = omega (arith, below, c.requires.offered.count, length-map paths links_in) in
    let same : get_or (map links_in paths) p [] ≡ c.index-offered-p.result.links =
    get_or-map links_in paths p none [] inside ∙ sym (ap links_in (get_or_read paths p c.index-offered-p.result inside c.index-offered-p.is none))
    in
    let pair = (routes_at old p).pair in
    subst (λ m. All (λ h. h < m) c.index-offered-p.result.links) (sym c.requires.count)
    (subst (All (λ h. h < link_count net)) same (path_links net pair.src pair.dst (get_or (map links_in paths) p []) (c.requires.offered.each p below)))

pub loop-p-preserved : goal.loop-p-preserved
loop-p-preserved c =
    let net = c.args.net.now in
    let limit = c.args.limit in
    let lengths = c.args.lengths.now in
    let demand = c.args.matrix.now.demand in
    let old = c.args.routing.routes in
    let paths = c.args.offered.now in
    let offered = map links_in paths in
    let p = c.loop-p.p in
    let now = c.loop-p.routes.items in
    let inside : p < length now = omega (arith, c.loop-p.invariant.0.count, ap (λ (l : List PairRoutes). length l) c.into_vec-routes.ensures) in
    let below : p < length old = omega (arith, inside, c.loop-p.invariant.0.count) in
    let left : routes_at now p ≡ routes_at old p = c.loop-p.invariant.0.left p (omega arith) in
    let far = λ (q : ℕ) (under : q < p). c.loop-p.invariant.1 q under in
    let demands : get_or c.as_slice-demand.result.now p 0 ≡ get_or demand p 0 = ap (λ (l : List ℕ). get_or l p 0) c.as_slice-demand.ensures in
    let Shift : ℕ → PairRoutes → Type 0 = λ q r. IsShiftForDemand lengths c.args.step_divisor limit (get_or demand q 0) (routes_at old q) (get_or offered q []) r in
    elim c.if-demand-p-gt0.branch [
      | then-demand-p-gt0+in_ok-shift_pair w ↦
          let none : Path = record { links = [] } in
          let there : p < length paths = omega (arith, below, c.requires.offered.count, length-map paths links_in) in
          let offer : w.index-offered-p.result.links ≡ get_or offered p [] =
          ap links_in (get_or_read paths p w.index-offered-p.result there w.index-offered-p.is none) ∙ sym (get_or-map links_in paths p none [] there)
          in
          let route : w.index_mut.result.now ≡ routes_at now p = get_or_read now p w.index_mut.result.now inside w.index_mut.ensures.value no_routes in
          let new = w.shift_pair.new.route in
          let is : IsShifted limit (routes_at now p) (get_or offered p []) new =
          subst (λ (l : List ℕ). IsShifted limit (routes_at now p) l new) offer
          (subst (λ (r : PairRoutes). IsShifted limit r w.index-offered-p.result.links new) route w.in_ok-shift_pair.ensures.shifted)
          in
          let by : IsDearestShift lengths c.args.step_divisor limit (routes_at old p) (get_or offered p []) new =
          subst (λ (l : List ℕ). IsDearestShift lengths c.args.step_divisor limit (routes_at old p) l new) offer
          (subst (λ (r : PairRoutes). IsDearestShift lengths c.args.step_divisor limit r w.index-offered-p.result.links new) (route ∙ left) w.in_ok-shift_pair.ensures.dearest)
          in
          let of : Shift p new = (λ some. by, λ none. absurd (omega (arith, w.if-demand-p-gt0.true, demands, none))) in
          rw w.routes-is (passed_shifted limit old offered p now new c.loop-p.invariant.0 below is, each_set Shift p now new inside far of)
      | else-demand-p-gt0 w ↦
          let of : Shift p (routes_at now p) = (λ some. absurd (omega (arith, w.if-demand-p-gt0.false, demands, some)), λ none. left) in
          rw w.routes-is (passed_same net limit old offered p now c.requires.routing c.loop-p.invariant.0 below, below_more (λ q. Shift q (routes_at now q)) p far of)
    ]

-- the routes after the loop
done : (c : After-new) → ShiftedSoFar c.args.limit c.args.routing.routes (map links_in c.args.offered.now) c.loop-p.p c.new.result
done c = rw c.new.ensures c.loop-p.invariant.0

every : (c : After-new) → c.loop-p.p ≡ length c.args.routing.routes
every c = omega (arith, c.loop-p-test.false, c.loop-p.auto.p-end, ap (λ (l : List PairRoutes). length l) c.into_vec-routes.ensures)

splits : (c : After-new) → IsPathRouting c.args.net.now c.new.result
splits c =
    passed_splits c.args.net.now c.args.limit c.args.routing.routes (map links_in c.args.offered.now) c.loop-p.p c.new.result c.requires.routing c.requires.offered
    (done c) (omega (arith, every c))

pub invariant_of-result : goal.invariant_of-result
invariant_of-result c = record { splits = splits_of c.args.net.now c.new.result (splits c) }

pub returns-clause-routing : goal.returns-clause-routing
returns-clause-routing c = λ pairs of.
    let at = (goal.at.returns-clause-routing c).After-new in
    let order = passed_pairs c.args.limit c.args.routing.routes (map links_in c.args.offered.now) c.loop-p.p c.new.result (done at) (omega (arith, every at)) in
    record { in_order = order ∙ of.in_order; splits = splits at }

pub returns-clause-only : goal.returns-clause-only
returns-clause-only c =
    let at = (goal.at.returns-clause-only c).After-new in
    passed_only c.args.limit c.args.routing.routes (map links_in c.args.offered.now) c.loop-p.p c.new.result (done at) (omega (arith, every at))

pub returns-clause-few : goal.returns-clause-few
returns-clause-few c = λ few.
    let at = (goal.at.returns-clause-few c).After-new in
    passed_few c.args.limit c.args.routing.routes (map links_in c.args.offered.now) c.loop-p.p c.new.result (done at) (omega (arith, every at)) few

pub returns-clause-shifts : goal.returns-clause-shifts
returns-clause-shifts c =
    let at = (goal.at.returns-clause-shifts c).After-new in
    let lengths = c.args.lengths.now in
    let demand = c.args.matrix.now.demand in
    let old = c.args.routing.routes in
    let offered = map links_in c.args.offered.now in
    record {
      count = (done at).count;
      each = λ q below. subst (λ (l : List PairRoutes). IsShiftForDemand lengths c.args.step_divisor c.args.limit (get_or demand q 0) (routes_at old q) (get_or offered q []) (routes_at l q))
          (sym c.new.ensures) (c.loop-p.invariant.1 q (omega (arith, below, every at)));
    }

pub shift_pair-requires-clause-ascending : goal.shift_pair-requires-clause-ascending
shift_pair-requires-clause-ascending c = (split (goal.at.shift_pair-requires-clause-ascending c).After-index-offered-p).distinct

pub shift_pair-requires-clause-positive : goal.shift_pair-requires-clause-positive
shift_pair-requires-clause-positive c = (split (goal.at.shift_pair-requires-clause-positive c).After-index-offered-p).weights

pub shift_pair-requires-clause-whole : goal.shift_pair-requires-clause-whole
shift_pair-requires-clause-whole c = (split (goal.at.shift_pair-requires-clause-whole c).After-index-offered-p).whole
