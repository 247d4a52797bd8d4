-- A link carries no more than its capacity.
use Rattle.std.proofs.Common.{◌≡◌, ℕ, ◌<◌, ◌≤◌, Bool, List, length, arith, ap, ◌∙◌, slice_index}
use Rattle.std.proofs.lemmas.List.FromFn.{get_or-map-range_with_len, length-map-range_with_len}
use Rattle.te_model.specs.declared.network.Network.{Network}
use Rattle.te_model.specs.declared.route.PairRoutes.{PairRoutes}
use Rattle.te_model.specs.Network.{capacity_of, link_count}
use Rattle.flow_sim.specs.Result.{all_carried}
use Rattle.flow_sim.specs.Step.{link_traffic}
use Rattle.flow_sim.specs.Traffic.{step_setting}
use Rattle.flow_sim.proofs.Conservation.{left_is}

pub carried_count : (net : Network) (failed : List Bool) (rates : List PairRoutes) (demand list : List ℕ) → list ≡ all_carried net failed rates demand →
    length list ≡ link_count net
carried_count net failed rates demand list is =
    ap length is ∙ length-map-range_with_len (link_traffic (step_setting net failed rates demand)) 0 (link_count net)

pub carried_within : (net : Network) (failed : List Bool) (rates : List PairRoutes) (demand list : List ℕ) → list ≡ all_carried net failed rates demand →
    (e : ℕ) → e < length list → slice_index list e ≤ capacity_of net e
carried_within net failed rates demand list is e inside =
    let s = step_setting net failed rates demand in
    let below : e < link_count net = omega (arith, inside, carried_count net failed rates demand list is) in
    let read : slice_index list e ≡ link_traffic s e =
    ap (λ xs. slice_index xs e) is ∙ get_or-map-range_with_len (link_traffic s) 0 (link_count net) e e 0 below (omega arith)
    in
    omega (arith, read, left_is s e s.rounds)
