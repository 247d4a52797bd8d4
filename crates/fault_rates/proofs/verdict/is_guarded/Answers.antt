use Rattle.std.proofs.Common.{◌∙◌, ℕ, ◌≤◌, ◌^◌, List, length, slice_index, arith, ap, subst, sym}
use Rattle.te_model.specs.declared.route.PathShare.{PathShare}
use Rattle.te_model.specs.Path.{routes_at}
use Rattle.fault_rates.specs.Tables.{AreSimplePaths}
use Rattle.fault_rates.proofs.verdict.is_guarded.Goals as goal

pub guard-guarded-requires-clause-few : goal.guard-guarded-requires-clause-few
guard-guarded-requires-clause-few c =
    omega (arith, c.requires.can.adds.few c.args.pair c.requires.pair, ap (λ (ps : List PathShare). length ps) c.paths_of-paths.ensures)

pub guard-guarded-requires-clause-paths : goal.guard-guarded-requires-clause-paths
guard-guarded-requires-clause-paths c =
    subst (λ (ps : List PathShare). AreSimplePaths c.link_count.result ps) (sym c.paths_of-paths.ensures)
    (subst (λ n. AreSimplePaths n (routes_at c.args.routes.now c.args.pair).paths) (sym c.link_count.ensures)
    (c.requires.can.adds.paths c.args.pair c.requires.pair))

pub guard-guarded-requires-clause-count : goal.guard-guarded-requires-clause-count
guard-guarded-requires-clause-count c =
    ap (λ (l : List ℕ). length l) c.allocations_of-allocation.ensures
    ∙ (c.requires.can.shaped.paths c.args.pair c.requires.pair ∙ sym (ap (λ (ps : List PathShare). length ps) c.paths_of-paths.ensures))

pub guard-guarded-requires-clause-small : goal.guard-guarded-requires-clause-small
guard-guarded-requires-clause-small c = λ i.
    subst (λ (l : List ℕ). slice_index l i ≤ 2 ^ 32) (sym c.allocations_of-allocation.ensures) (c.requires.can.small c.args.pair i)
