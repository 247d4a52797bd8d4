use Rattle.std.proofs.Common.{◌≡◌, ◌<◌, ◌≤◌, ◌*◌, ◌+◌, ◌^◌, ℕ, Bool, List, false, length, get_or, replicate, arith, ap, sym, ◌∙◌, refl, subst, rules, All, slice_index}
use Rattle.std.proofs.lemmas.List.{get_or-replicate, get_or_read, length-replicate}
use Rattle.std.proofs.lemmas.List.Elements.{All-from_get_or, All-get_or, All-replicate, All-weaker}
use Rattle.te_model.specs.declared.network.Link.{Link}
use Rattle.te_model.specs.declared.route.PathShare.{PathShare}
use Rattle.te_model.specs.declared.route.PairRoutes.{PairRoutes}
use Rattle.te_model.specs.Network.{link_count}
use Rattle.te_model.specs.Path.{no_routes, routes_at, weight_on}
use Rattle.routing.specs.Split.{total_weight}
use Rattle.te_model.proofs.Lists.{written_whole}
use Rattle.routing.proofs.Loading.{pair_fits, pair_more}
use Rattle.routing.proofs.Splits.{whole_weight}
use Rattle.routing.proofs.loads.loads_of.Goals as goal

pub loop-p-init : goal.loop-p-init
loop-p-init c =
    let links = c.as_slice-count.result.now in
    let same : length links ≡ link_count c.args.net.now = ap (λ (ls : List Link). length ls) c.as_slice-count.ensures in
    let zeros : c.in_ok-loads.loads.items ≡ replicate (length links) 0 = search rules in
    let clear : c.in_ok-marks.marks.items ≡ replicate (length links) false = search rules in
    record {
      count = ap (λ (l : List ℕ). length l) zeros ∙ (length-replicate {A = ℕ} (length links) 0 ∙ same);
      marks_count = ap (λ (l : List Bool). length l) clear ∙ (length-replicate {A = Bool} (length links) false ∙ same);
      loads = λ e below. ap (λ (l : List ℕ). get_or l e 0) zeros ∙ get_or-replicate {A = ℕ} (length links) e 0 0 (omega (arith, below, same));
      small = subst (λ (l : List ℕ). All (λ x. x ≤ 0) l) (sym zeros) (All-replicate (λ x. x ≤ 0) (length links) 0 (omega arith));
      marks = subst (λ (l : List Bool). All (λ m. m ≡ false) l) (sym clear) (All-replicate (λ m. m ≡ false) (length links) false refl);
    }

-- the paths that are lent are those of pair p
lent : (c : goal.After-shared_slice_known-1) → c.as_slice.result.now ≡ (routes_at c.args.routes.now c.loop-p.p).paths
lent c =
    c.as_slice.ensures
    ∙ ap (λ (r : PairRoutes). r.paths)
    (sym c.index-routes-p.is ∙ get_or_read c.args.routes.now c.loop-p.p c.index-routes-p.result c.loop-p-test.true c.index-routes-p.is no_routes)

demand_is : (c : goal.After-shared_slice_known-1) → get_or c.as_slice-demands.result.now c.loop-p.p 0 ≡ slice_index c.args.matrix.now.demand c.loop-p.p
demand_is c = ap (λ (l : List ℕ). get_or l c.loop-p.p 0) c.as_slice-demands.ensures

small_demand : (c : goal.After-shared_slice_known-1) → slice_index c.args.matrix.now.demand c.loop-p.p ≤ 2 ^ 32
small_demand c = All-get_or (λ d. d ≤ 2 ^ 32) c.args.matrix.now.demand c.loop-p.p 0 (omega (arith, c.loop-p-test.true, c.requires.demands.count)) c.requires.demands.small

pub add_demand-requires-clause-whole : goal.add_demand-requires-clause-whole
add_demand-requires-clause-whole c =
    let all = whole_weight c.args.routes.now c.loop-p.p c.requires.splits c.loop-p-test.true in
    omega (arith, ap total_weight (lent c), all)

pub add_demand-requires-clause-demand : goal.add_demand-requires-clause-demand
add_demand-requires-clause-demand c = omega (arith, demand_is c, small_demand c)

pub loop-p-preserved : goal.loop-p-preserved
loop-p-preserved c =
    let routes = c.args.routes.now in
    let demand = c.args.matrix.now.demand in
    let p = c.loop-p.p in
    let old = c.loop-p.loads.items in
    let new = c.add_demand.new.loads in
    let loads_lent : c.deref_mut.result.now ≡ old = c.deref_mut.ensures.value in
    let marks_lent : c.deref_mut-in-loop-p.result.now ≡ c.loop-p.marks.items = c.deref_mut-in-loop-p.ensures.value in
    let kept : length new ≡ length old = c.add_demand.auto.loads ∙ ap (λ (l : List ℕ). length l) loads_lent in
    let marks_kept : length c.add_demand.new.marks ≡ length c.loop-p.marks.items = c.add_demand.auto.marks ∙ ap (λ (l : List Bool). length l) marks_lent in
    let paths : c.as_slice.result.now ≡ (routes_at routes p).paths =
    c.as_slice.ensures
    ∙ ap (λ (r : PairRoutes). r.paths) (sym c.index-routes-p.is ∙ get_or_read routes p c.index-routes-p.result c.loop-p-test.true c.index-routes-p.is no_routes)
    in
    let demands : get_or c.as_slice-demands.result.now p 0 ≡ slice_index demand p = ap (λ (l : List ℕ). get_or l p 0) c.as_slice-demands.ensures in
    let small = All-get_or (λ d. d ≤ 2 ^ 32) demand p 0 (omega (arith, c.loop-p-test.true, c.requires.demands.count)) c.requires.demands.small in
    let added : (e : ℕ) → e < link_count c.args.net.now → get_or new e 0 ≡ get_or old e 0 + slice_index demand p * weight_on (routes_at routes p).paths e =
    λ e below.
    c.add_demand.ensures.loads e (omega (arith, below, c.loop-p.invariant.count, ap (λ (l : List ℕ). length l) loads_lent))
    ∙ (ap (λ (l : List ℕ). get_or l e 0 + get_or c.as_slice-demands.result.now p 0 * weight_on c.as_slice.result.now e) loads_lent
    ∙ (ap (λ (d : ℕ). get_or old e 0 + d * weight_on c.as_slice.result.now e) demands
    ∙ ap (λ (ss : List PathShare). get_or old e 0 + slice_index demand p * weight_on ss e) paths))
    in
    rw (
      written_whole c.loop-p.loads.len new old kept c.loop-p.loads.ok.0,
      written_whole c.loop-p.marks.len c.add_demand.new.marks c.loop-p.marks.items marks_kept c.loop-p.marks.ok.0,
    ) (record {
      count = kept ∙ c.loop-p.invariant.count;
      marks_count = marks_kept ∙ c.loop-p.invariant.marks_count;
      loads = λ e below. omega (arith, added e below, c.loop-p.invariant.loads e below, pair_more routes demand e p);
      small = All-from_get_or (λ x. x ≤ (p + 1) * (4294967296 * 1000000)) new 0 (λ e below.
          let inside : e < link_count c.args.net.now = omega (arith, below, kept, c.loop-p.invariant.count) in
          let before = All-get_or (λ x. x ≤ p * (4294967296 * 1000000)) old e 0 (omega (arith, below, kept)) c.loop-p.invariant.small in
          omega (arith, added e inside, before, pair_fits routes (slice_index demand p) e p c.requires.splits c.loop-p-test.true small));
      marks = c.add_demand.ensures.marks;
    })

pub bounds-demands-p : goal.bounds-demands-p
bounds-demands-p c = omega (arith, c.loop-p-test.true, c.requires.demands.count, ap (λ (l : List ℕ). length l) c.as_slice-demands.ensures)

pub add_demand-requires-clause-count : goal.add_demand-requires-clause-count
add_demand-requires-clause-count c =
    ap (λ (l : List Bool). length l) c.deref_mut-in-loop-p.ensures.value
    ∙ (c.loop-p.invariant.marks_count ∙ sym (ap (λ (l : List ℕ). length l) c.deref_mut.ensures.value ∙ c.loop-p.invariant.count))

pub add_demand-requires-clause-unmarked : goal.add_demand-requires-clause-unmarked
add_demand-requires-clause-unmarked c =
    subst (λ (l : List Bool). All (λ m. m ≡ false) l) (sym c.deref_mut-in-loop-p.ensures.value) c.loop-p.invariant.marks

pub add_demand-requires-clause-room : goal.add_demand-requires-clause-room
add_demand-requires-clause-room c =
    subst (λ (l : List ℕ). All (λ x. x < 2 ^ 84) l) (sym c.deref_mut.ensures.value)
    (All-weaker (λ x. x ≤ c.loop-p.p * (4294967296 * 1000000)) (λ x. x < 2 ^ 84) (λ x le. omega (arith, le, c.loop-p-test.true, c.requires.pairs))
    c.loop-p.loads.items c.loop-p.invariant.small)

pub returns-clause-fit : goal.returns-clause-fit
returns-clause-fit c =
    All-weaker (λ x. x ≤ c.loop-p.p * (4294967296 * 1000000)) (λ x. x < 2 ^ 84) (λ x le. omega (arith, le, c.loop-p.auto.p-end, c.requires.pairs))
    c.loop-p.loads.items c.loop-p.invariant.small
