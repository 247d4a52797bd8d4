use Rattle.std.proofs.Common.{◌∙◌, List, [], ap, map, refl}
use Rattle.te_model.specs.declared.route.PairRoutes.{PairRoutes}
use Rattle.ratio_witness.proofs.PutLines.{all_images, one_image_more}
use Rattle.witness_search.proofs.attacks.pairs_of.Goals as goal

pub loop-route-preserved : goal.loop-route-preserved
loop-route-preserved c =
    one_image_more (λ (r : PairRoutes). r.pair) [] _ _ c.route-item.result.pair c.as_slice-routes.result.now c.loop-route.route-index c.route-item.result
    c.loop-route-test.true c.route-item.is refl c.loop-route.invariant c.in_ok-push.ensures.items

pub returns : goal.returns
returns c =
    let routes = c.as_slice-routes.result.now in
    c.new.ensures ∙ all_images (λ (r : PairRoutes). r.pair) [] c.loop-route.list.items routes c.loop-route.route-index c.loop-route-test.false c.loop-route.invariant
    ∙ ap (λ (rs : List PairRoutes). map (λ r. r.pair) rs) c.as_slice-routes.ensures
