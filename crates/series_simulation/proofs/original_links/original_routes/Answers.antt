use Rattle.std.proofs.Common.{◌≡◌, List, true, length, map, arith, ap, sym, subst, ◌∙◌}
use Rattle.std.proofs.lemmas.List.{take_all}
use Rattle.te_model.specs.declared.route.PairRoutes.{PairRoutes}
use Rattle.routing.specs.Split.{are_splits}
use Rattle.series_simulation.specs.OriginalLinks.{original_routes, original_pair}
use Rattle.te_model.proofs.Choices.{mapped_more}
use Rattle.series_simulation.proofs.Order.{are_splits-back}
use Rattle.series_simulation.proofs.original_links.original_routes.Goals as goal

pub invariant_of-result : goal.invariant_of-result
invariant_of-result c =
    let origin = c.args.origin.now in
    let routing = c.args.routing.now in
    let whole : c.new.result ≡ original_routes origin routing.routes =
    c.new.ensures ∙ (c.loop-pair.invariant ∙ ap (map (original_pair origin)) (take_all c.loop-pair.pair-index routing.routes
    (omega (arith, c.loop-pair-test.false, ap (λ (rs : List PairRoutes). length rs) c.as_slice-pair-items.ensures))))
    in
    record {
      splits = subst (λ (rs : List PairRoutes). are_splits rs ≡ true) (sym whole)
          (are_splits-back origin routing.routes c.requires.ascending c.requires.links routing.splits);
    }

pub loop-pair-preserved : goal.loop-pair-preserved
loop-pair-preserved c =
    let f = original_pair c.args.origin.now in
    mapped_more f c.args.routing.now.routes c.as_slice-pair-items.result.now c.loop-pair.pair-index c.pair-item.result _ c.loop-pair.routes.items _
    c.as_slice-pair-items.ensures c.loop-pair-test.true c.loop-pair.invariant c.in_ok-push.ensures.items
    (c.in_ok-original_pair.ensures ∙ ap f c.pair-item.is)
