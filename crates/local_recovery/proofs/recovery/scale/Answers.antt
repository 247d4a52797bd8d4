use Rattle.std.proofs.Common.{◌≤◌, length, map, arith, refl, ap, ◌∙◌}
use Rattle.std.proofs.lemmas.List.{take_all}
use Rattle.te_model.specs.declared.route.PairRoutes.{PairRoutes}
use Rattle.local_recovery.specs.Recovery.{scaled_routes}
use Rattle.local_recovery.proofs.BypassWalks.{item_has}
use Rattle.te_model.proofs.Choices.{mapped_more}
use Rattle.local_recovery.proofs.recovery.scale.Goals as goal

pub scale_pair-requires-clause-few : goal.scale_pair-requires-clause-few
scale_pair-requires-clause-few c =
    item_has (λ (r : PairRoutes). length r.paths ≤ 4096) c.args.routes.now c.args.routes.now c.loop-pair.pair-index c.pair-item.result refl
    c.loop-pair-test.true c.pair-item.is c.requires.few

pub loop-pair-preserved : goal.loop-pair-preserved
loop-pair-preserved c =
    let f = scaled_routes c.args.failed.now in
    let routes = c.args.routes.now in
    mapped_more f routes routes c.loop-pair.pair-index c.pair-item.result _ c.loop-pair.list.items _ refl c.loop-pair-test.true c.loop-pair.invariant
    c.in_ok-push.ensures.items (c.in_ok-scale_pair.ensures ∙ ap f c.pair-item.is)

pub returns : goal.returns
returns c =
    c.new.ensures ∙ (c.loop-pair.invariant
    ∙ ap (map (scaled_routes c.args.failed.now)) (take_all c.loop-pair.pair-index c.args.routes.now (omega (arith, c.loop-pair-test.false))))
