use Rattle.std.proofs.Common.{◌≡◌, ◌<◌, ◌+◌, [], length, get_or, arith, ap, refl, sym, ◌∙◌, subst}
use Rattle.std.proofs.lemmas.List.{get_or_default}
use Rattle.te_model.specs.declared.route.Path.{Path}
use Rattle.te_model.specs.declared.route.PathShare.{PathShare}
use Rattle.robust_routing.specs.Split.{AreSharesOf}
use Rattle.robust_routing.proofs.Splitting.{share_left_out, share_taken_in, shares_none}
use Rattle.robust_routing.proofs.split.shares_of.Goals as goal
use Rattle.robust_routing.proofs.split.shares_of.Goals.{then-parts-i-gt0+in_ok-links+in_ok-push, else-parts-i-gt0}

pub loop-i-init : goal.loop-i-init
loop-i-init c =
    subst (AreSharesOf c.args.paths.now c.args.parts.now 0) (sym c.in_ok-shares.ensures.items) (shares_none c.args.paths.now c.args.parts.now)

pub loop-i-preserved : goal.loop-i-preserved
loop-i-preserved c =
    let paths = c.args.paths.now in
    let parts = c.args.parts.now in
    let i = c.loop-i.i in
    let shares = c.loop-i.shares.items in
    let inside : i < length parts = omega (arith, c.loop-i-test.true, c.requires.count) in
    elim c.if-parts-i-gt0.branch [
      | then-parts-i-gt0+in_ok-links+in_ok-push w ↦
          let none : Path = record { links = [] } in
          let s : PathShare = record { links = w.new.result; weight = get_or parts i 0 } in
          let links : w.new.result ≡ (get_or paths i none).links =
          w.new.ensures ∙ (w.in_ok-links.ensures.items ∙ (w.as_slice.ensures ∙ ap (λ (p : Path). p.links) (get_or_default paths i w.index-paths-i.result none c.loop-i-test.true)))
          in
          rw w.shares-is (subst (AreSharesOf paths parts (i + 1)) (sym w.in_ok-push.ensures.items)
          (share_taken_in paths parts i shares s c.loop-i-test.true inside links refl (omega (arith, w.if-parts-i-gt0.true)) c.loop-i.invariant))
      | else-parts-i-gt0 w ↦
          rw w.shares-is (share_left_out paths parts i shares inside (omega (arith, w.if-parts-i-gt0.false)) c.loop-i.invariant)
    ]
