use Rattle.std.proofs.Common.{◌≡◌, ◌∙◌, ℕ, List, [], ap, length, map}
use Rattle.te_model.specs.declared.certificate.Head.{Head}
use Rattle.te_model.specs.declared.route.PairRoutes.{PairRoutes}
use Rattle.witness_search.specs.declared.attempt.Tried.{Tried}
use Rattle.witness_search.specs.Candidates.{direct_capacities, direct_capacity}
use Rattle.ratio_witness.proofs.PutLines.{all_images, one_image_more}
use Rattle.witness_search.proofs.candidates.direct_capacities.Goals as goal

abbrev direct_of : Head → PairRoutes → ℕ
direct_of h r = direct_capacity h.network r.pair

abbrev tried_of : ℕ → List ℕ → Tried
tried_of place demand = record { place = place; demand = record { demand = demand }; x = 1; y = 1 }

made : (h : Head) (routes : List PairRoutes) (demand : List ℕ) → routes ≡ h.routes → demand ≡ map (direct_of h) routes → tried_of (length routes) demand ≡ direct_capacities h
made h routes demand same is = ap (tried_of (length routes)) is ∙ ap (λ (rs : List PairRoutes). tried_of (length rs) (map (direct_of h) rs)) same

pub loop-route-preserved : goal.loop-route-preserved
loop-route-preserved c =
    one_image_more (direct_of c.args.head.now) [] _ _ c.direct_capacity.result c.as_slice-routes.result.now c.loop-route.route-index c.route-item.result
    c.loop-route-test.true c.route-item.is c.direct_capacity.ensures c.loop-route.invariant c.in_ok-push.ensures.items

pub returns : goal.returns
returns c =
    let h = c.args.head.now in
    let routes = c.as_slice-routes.result.now in
    made h routes c.new.result c.as_slice-routes.ensures
    (c.new.ensures ∙ all_images (direct_of h) [] c.loop-route.demand.items routes c.loop-route.route-index c.loop-route-test.false c.loop-route.invariant)
