use Rattle.std.proofs.Common.{[], ◌∷◌, ◌++◌, ap, sym, ◌∙◌}
use Rattle.te_model.specs.declared.route.PathShare.{PathShare}
use Rattle.local_recovery.specs.Recovery.{is_clear}
use Rattle.local_recovery.proofs.Making.{kept_more, left_more}
use Rattle.local_recovery.proofs.recovery.clear_paths.Goals as goal
use Rattle.local_recovery.proofs.recovery.clear_paths.Goals.{then-is_clear+in_ok-copy_path+in_ok-push, else-is_clear}

pub loop-path-preserved : goal.loop-path-preserved
loop-path-preserved c =
    let test = is_clear c.args.failed.now in
    let paths = c.args.paths.now in
    let i = c.loop-path.path-index in
    let before = c.loop-path.list.items in
    elim c.if-is_clear.branch [
      | then-is_clear+in_ok-copy_path+in_ok-push w ↦
          kept_more test paths i c.path-item.result before c.if-is_clear.list.items c.loop-path-test.true c.path-item.is c.loop-path.invariant
          (ap (λ v. v.items) w.list-is ∙ (w.in_ok-push.ensures.items ∙ ap (λ (s : PathShare). before ++ s ∷ []) w.in_ok-copy_path.ensures))
          (sym c.is_clear.ensures ∙ w.if-is_clear.true)
      | else-is_clear w ↦
          left_more test paths i c.path-item.result before c.if-is_clear.list.items c.loop-path-test.true c.path-item.is c.loop-path.invariant
          (ap (λ v. v.items) w.list-is) (sym c.is_clear.ensures ∙ w.if-is_clear.false)
    ]
