use Rattle.std.proofs.Common.{◌≡◌, ◌∙◌, ◌*◌, ◌<◌, ℕ, List, All, length, get_or, arith, ap, sym, refl, subst}
use Rattle.std.specs.Prelude.{sum_by}
use Rattle.std.proofs.lemmas.List.{get_or_default}
use Rattle.te_model.specs.declared.limits.TheConstants.{FORMAT_2}
use Rattle.te_model.specs.declared.route.PathShare.{PathShare}
use Rattle.te_model.specs.declared.route.PairRoutes.{PairRoutes}
use Rattle.te_model.specs.Flow.{load}
use Rattle.te_model.specs.Path.{no_routes, routes_at, share, weight_on}
use Rattle.ratio_checker.specs.Checked.{IsSimplePath}
use Rattle.ratio_witness.specs.Rules.{demand_of}
use Rattle.ratio_witness.proofs.LinkLoads.{load_more, load_small, split_small}
use Rattle.te_model.proofs.LentRoutes.{all_pairs, below_pairs, lent_paths}
use Rattle.te_model.proofs.Lists.{zeros}
use Rattle.ratio_witness.proofs.loads.loads_by_routes.Goals as goal

pub loop-p-init : goal.loop-p-init
loop-p-init c = record { count = refl; sums = λ e. zeros FORMAT_2.links e }

pub add_demand-requires-clause-paths : goal.add_demand-requires-clause-paths
add_demand-requires-clause-paths c =
    let routes = c.args.head.now.routes in
    let list = c.as_slice-routes.result.now in
    let p = c.loop-p.p in
    let is = lent_paths routes list p c.index-routes-p.result c.as_slice.result.now c.as_slice-routes.ensures c.loop-p-test.true c.as_slice.ensures in
    subst (All IsSimplePath) (sym is) (c.requires.routes.each p (below_pairs routes list p c.as_slice-routes.ensures c.loop-p-test.true))

pub add_demand-requires-clause-whole : goal.add_demand-requires-clause-whole
add_demand-requires-clause-whole c =
    let routes = c.args.head.now.routes in
    let list = c.as_slice-routes.result.now in
    let p = c.loop-p.p in
    let is = lent_paths routes list p c.index-routes-p.result c.as_slice.result.now c.as_slice-routes.ensures c.loop-p-test.true c.as_slice.ensures in
    omega (arith, ap (sum_by (λ s. s.weight)) is, c.requires.routes.whole p (below_pairs routes list p c.as_slice-routes.ensures c.loop-p-test.true))

pub add_demand-requires-clause-demand : goal.add_demand-requires-clause-demand
add_demand-requires-clause-demand c =
    omega (arith, c.demand_of-demand.ensures, c.requires.demands c.loop-p.p (below_pairs c.args.head.now.routes c.as_slice-routes.result.now c.loop-p.p c.as_slice-routes.ensures c.loop-p-test.true))

pub add_demand-requires-clause-room : goal.add_demand-requires-clause-room
add_demand-requires-clause-room c = λ h.
    let routes = c.args.head.now.routes in
    let n = length routes in
    let inside = below_pairs routes c.as_slice-routes.result.now c.loop-p.p c.as_slice-routes.ensures c.loop-p-test.true in
    omega (
      arith,
      c.loop-p.invariant.sums h,
      load_small c.loop-p.p n (demand_of c.args.witness.now) (share routes) h (omega (arith, inside)) c.requires.limits.pairs c.requires.demands
          (λ p below. split_small n (λ q. (routes_at routes q).paths) c.requires.routes p h below),
    )

pub loop-p-preserved : goal.loop-p-preserved
loop-p-preserved c = record {
  count = c.add_demand.ensures.count;
  sums = λ e.
      let routes = c.args.head.now.routes in
      let list = c.as_slice-routes.result.now in
      let p = c.loop-p.p in
      let w = c.args.witness.now in
      let is = lent_paths routes list p c.index-routes-p.result c.as_slice.result.now c.as_slice-routes.ensures c.loop-p-test.true c.as_slice.ensures in
      let puts : c.demand_of-demand.result * weight_on c.as_slice.result.now e ≡ demand_of w p * share routes p e =
      ap (λ d. d * weight_on c.as_slice.result.now e) c.demand_of-demand.ensures ∙ ap (λ ps. demand_of w p * weight_on ps e) is
      in
      omega (
        arith,
        c.add_demand.ensures.loads e,
        puts,
        load_more p (demand_of w) (share routes) e,
        c.loop-p.invariant.sums e,
      );
}

pub returns-clause-loads : goal.returns-clause-loads
returns-clause-loads c = λ e.
    let routes = c.args.head.now.routes in
    let end' = all_pairs routes c.as_slice-routes.result.now c.loop-p.p c.as_slice-routes.ensures (omega arith) (omega arith) in
    c.loop-p.invariant.sums e ∙ ap (λ n. load n (demand_of c.args.witness.now) (share routes) e) end'

pub returns-clause-small : goal.returns-clause-small
returns-clause-small c = λ e.
    let routes = c.args.head.now.routes in
    let n = length routes in
    let end' = all_pairs routes c.as_slice-routes.result.now c.loop-p.p c.as_slice-routes.ensures (omega arith) (omega arith) in
    omega (
      arith,
      c.loop-p.invariant.sums e,
      load_small c.loop-p.p n (demand_of c.args.witness.now) (share routes) e (omega (arith, end')) c.requires.limits.pairs c.requires.demands
          (λ p below. split_small n (λ q. (routes_at routes q).paths) c.requires.routes p e below),
    )
