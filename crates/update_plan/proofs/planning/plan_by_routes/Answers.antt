use Rattle.std.proofs.Common.{List, length, All, sym, subst}
use Rattle.routing.proofs.Splits.{splits_of}
use Rattle.update_plan.specs.declared.path.UpdatePath.{UpdatePath}
use Rattle.update_plan.specs.Loads.{IsUpdatePath}
use Rattle.update_plan.specs.Stages.{HasSmallWeights}
use Rattle.update_plan.proofs.PlanPaths.{are_update_paths, small_weights}
use Rattle.update_plan.proofs.planning.plan_by_routes.Goals as goal

pub paths_of-requires-clause-before : goal.paths_of-requires-clause-before
paths_of-requires-clause-before c = splits_of c.args.net.now c.args.before.now c.requires.before

pub paths_of-requires-clause-after : goal.paths_of-requires-clause-after
paths_of-requires-clause-after c = splits_of c.args.net.now c.args.after.now c.requires.after

pub steps_of-requires-clause-paths : goal.steps_of-requires-clause-paths
steps_of-requires-clause-paths c =
    let net = c.args.net.now in
    let paths = c.in_ok-paths.paths.items in
    let are = are_update_paths net c.args.before.now c.args.after.now paths c.requires.before c.requires.after c.requires.count c.in_ok-paths.ensures in
    let pairs : All (IsUpdatePath net (length c.args.demands.now)) paths = subst (λ n. All (IsUpdatePath net n) paths) (sym c.requires.demands.count) are in
    subst (λ (l : List UpdatePath). All (IsUpdatePath net (length c.args.demands.now)) l) (sym c.as_slice.ensures.value) pairs

pub returns-clause-small : goal.returns-clause-small
returns-clause-small c =
    subst (λ (l : List UpdatePath). All HasSmallWeights l) (sym c.new.ensures)
    (small_weights c.args.net.now c.args.before.now c.args.after.now c.in_ok-paths.paths.items c.requires.before c.requires.after c.requires.count c.in_ok-paths.ensures)
