use Rattle.std.proofs.Common.{◌≤◌, All, length, arith, ap, ◌∙◌, subst, sym}
use Rattle.std.specs.Prelude.{filter}
use Rattle.te_model.specs.declared.route.PathShare.{PathShare}
use Rattle.routing.specs.Split.{total_weight}
use Rattle.local_recovery.specs.Recovery.{is_clear}
use Rattle.local_recovery.proofs.Rescaling.{filter_small, filter_all, split_parts}
use Rattle.local_recovery.proofs.recovery.scale_pair.Goals as goal

pub scale_to_unit-requires-clause-count : goal.scale_to_unit-requires-clause-count
scale_to_unit-requires-clause-count c =
    let is = c.in_ok-paths.ensures ∙ ap (filter (is_clear c.args.failed.now)) c.as_slice.ensures in
    omega (arith, ap length is, (filter_small (is_clear c.args.failed.now) c.args.routes.now.paths).0, c.requires.few)

pub scale_to_unit-requires-clause-weights : goal.scale_to_unit-requires-clause-weights
scale_to_unit-requires-clause-weights c =
    let is = c.in_ok-paths.ensures ∙ ap (filter (is_clear c.args.failed.now)) c.as_slice.ensures in
    subst (λ ps. All (λ (s : PathShare). 1 ≤ s.weight) ps) (sym is)
    (filter_all (λ (s : PathShare). 1 ≤ s.weight) (is_clear c.args.failed.now) c.args.routes.now.paths (split_parts c.args.routes.now c.requires.split).0)

pub scale_to_unit-requires-clause-whole : goal.scale_to_unit-requires-clause-whole
scale_to_unit-requires-clause-whole c =
    let is = c.in_ok-paths.ensures ∙ ap (filter (is_clear c.args.failed.now)) c.as_slice.ensures in
    omega (
      arith,
      ap total_weight is,
      (filter_small (is_clear c.args.failed.now) c.args.routes.now.paths).1,
      (split_parts c.args.routes.now c.requires.split).1,
    )
