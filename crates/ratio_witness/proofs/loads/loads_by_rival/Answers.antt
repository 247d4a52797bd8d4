use Rattle.std.proofs.Common.{◌≡◌, ◌∙◌, ◌*◌, ℕ, List, All, length, arith, ap, sym, refl, subst}
use Rattle.std.specs.Prelude.{sum_by}
use Rattle.te_model.specs.declared.limits.TheConstants.{FORMAT_2}
use Rattle.te_model.specs.declared.route.PathShare.{PathShare}
use Rattle.te_model.specs.Flow.{load}
use Rattle.te_model.specs.Path.{weight_on}
use Rattle.ratio_checker.specs.Checked.{IsSimplePath}
use Rattle.ratio_witness.specs.Rules.{demand_of, rival_paths}
use Rattle.ratio_witness.specs.Witness.{rival_share}
use Rattle.ratio_witness.proofs.LinkLoads.{load_more, load_small, split_small}
use Rattle.te_model.proofs.LentRoutes.{all_pairs, below_pairs}
use Rattle.te_model.proofs.Lists.{zeros}
use Rattle.ratio_witness.proofs.loads.loads_by_rival.Goals as goal

pub loop-p-init : goal.loop-p-init
loop-p-init c = record { count = refl; sums = λ e. zeros FORMAT_2.links e }

pub add_demand-requires-clause-paths : goal.add_demand-requires-clause-paths
add_demand-requires-clause-paths c =
    let inside = below_pairs c.args.head.now.routes c.as_slice-p-end.result.now c.loop-p.p c.as_slice-p-end.ensures c.loop-p-test.true in
    subst (All IsSimplePath) (sym c.rival_paths.ensures) (c.requires.rival.each c.loop-p.p inside)

pub add_demand-requires-clause-whole : goal.add_demand-requires-clause-whole
add_demand-requires-clause-whole c =
    let inside = below_pairs c.args.head.now.routes c.as_slice-p-end.result.now c.loop-p.p c.as_slice-p-end.ensures c.loop-p-test.true in
    omega (arith, ap (sum_by (λ s. s.weight)) c.rival_paths.ensures, c.requires.rival.whole c.loop-p.p inside)

pub add_demand-requires-clause-demand : goal.add_demand-requires-clause-demand
add_demand-requires-clause-demand c =
    let inside = below_pairs c.args.head.now.routes c.as_slice-p-end.result.now c.loop-p.p c.as_slice-p-end.ensures c.loop-p-test.true in
    omega (arith, c.demand_of-demand.ensures, c.requires.demands c.loop-p.p inside)

pub add_demand-requires-clause-room : goal.add_demand-requires-clause-room
add_demand-requires-clause-room c = λ h.
    let routes = c.args.head.now.routes in
    let n = length routes in
    let w = c.args.witness.now in
    let inside = below_pairs routes c.as_slice-p-end.result.now c.loop-p.p c.as_slice-p-end.ensures c.loop-p-test.true in
    omega (
      arith,
      c.loop-p.invariant.sums h,
      load_small c.loop-p.p n (demand_of w) (rival_share w.rival) h (omega (arith, inside)) c.requires.limits.pairs c.requires.demands
          (λ p below. split_small n (rival_paths w) c.requires.rival p h below),
    )

pub loop-p-preserved : goal.loop-p-preserved
loop-p-preserved c = record {
  count = c.add_demand.ensures.count;
  sums = λ e.
      let p = c.loop-p.p in
      let w = c.args.witness.now in
      let puts : c.demand_of-demand.result * weight_on c.rival_paths.result.now e ≡ demand_of w p * rival_share w.rival p e =
      ap (λ d. d * weight_on c.rival_paths.result.now e) c.demand_of-demand.ensures
      ∙ ap (λ (ps : List PathShare). demand_of w p * weight_on ps e) c.rival_paths.ensures
      in
      omega (
        arith,
        c.add_demand.ensures.loads e,
        puts,
        load_more p (demand_of w) (rival_share w.rival) e,
        c.loop-p.invariant.sums e,
      );
}

pub returns-clause-loads : goal.returns-clause-loads
returns-clause-loads c = λ e.
    let w = c.args.witness.now in
    let end' = all_pairs c.args.head.now.routes c.as_slice-p-end.result.now c.loop-p.p c.as_slice-p-end.ensures (omega arith) (omega arith) in
    c.loop-p.invariant.sums e ∙ ap (λ n. load n (demand_of w) (rival_share w.rival) e) end'

pub returns-clause-small : goal.returns-clause-small
returns-clause-small c = λ e.
    let n = length c.args.head.now.routes in
    let w = c.args.witness.now in
    let end' = all_pairs c.args.head.now.routes c.as_slice-p-end.result.now c.loop-p.p c.as_slice-p-end.ensures (omega arith) (omega arith) in
    omega (
      arith,
      c.loop-p.invariant.sums e,
      load_small c.loop-p.p n (demand_of w) (rival_share w.rival) e (omega (arith, end')) c.requires.limits.pairs c.requires.demands
          (λ p below. split_small n (rival_paths w) c.requires.rival p e below),
    )
