use Rattle.std.proofs.Common.{◌≡◌, ◌++◌, [], ◌∷◌, arith, refl, subst}
use Rattle.experiment.specs.Published.{AreMadeBySeeds, IsMadeByPlan, later_seed, seed_count, with_seed}
use Rattle.experiment.proofs.Seeds.{lesser_is_best, made_more, only_one, some_seed}
use Rattle.experiment.proofs.published_file.best_certificate.Goals as goal

pub loop-count-init : goal.loop-count-init
loop-count-init c =
    let plan = c.args.plan.now in
    let net = c.args.network.now in
    let series = c.args.series.now in
    let first = c.in_ok-best.best in
    let made : IsMadeByPlan (with_seed plan (later_seed plan 0)) net series first =
    subst (λ seed. IsMadeByPlan (with_seed plan seed) net series first) c.later_seed-first.ensures c.in_ok-best.ensures.made
    in
    (first ∷ [], made_more plan net series 0 [] first refl made, only_one first)

pub loop-count-preserved : goal.loop-count-preserved
loop-count-preserved c =
    let plan = c.args.plan.now in
    let net = c.args.network.now in
    let series = c.args.series.now in
    let count = c.loop-count.count in
    let best = c.loop-count.best in
    let next = c.in_ok-next.next in
    let so_far = c.loop-count.invariant in
    let made : IsMadeByPlan (with_seed plan (later_seed plan count)) net series next =
    subst (λ seed. IsMadeByPlan (with_seed plan seed) net series next) c.later_seed-seed.ensures c.in_ok-next.ensures.made
    in (
      so_far.0 ++ next ∷ [],
      made_more plan net series count so_far.0 next so_far.1 made,
      lesser_is_best so_far.0 best next c.keep_lesser.new.best so_far.2 c.keep_lesser.ensures.same c.keep_lesser.ensures.lesser,
    )

pub returns-clause-best : goal.returns-clause-best
returns-clause-best c =
    let plan = c.args.plan.now in
    let so_far = c.loop-count.invariant in
    let every : c.loop-count.count ≡ seed_count plan = omega (arith, c.loop-count-test.false, c.loop-count.auto.count-end, c.seed_count-count-end.ensures, some_seed plan c.requires.plan) in
    record {
      certificates = so_far.0;
      made = subst (λ n. AreMadeBySeeds plan c.args.network.now c.args.series.now n so_far.0) every so_far.1;
      best = so_far.2;
    }
