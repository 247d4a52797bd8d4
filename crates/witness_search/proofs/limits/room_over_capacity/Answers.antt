use Rattle.std.proofs.Common.{◌∙◌, ◌*◌, ◌^◌, ◌≤◌, arith, ap, slice_index}
use Rattle.std.proofs.lemmas.Nat.{mul-le}
use Rattle.te_model.specs.declared.units.TheConstants.{RATIO_UNIT, SHARE_UNIT}
use Rattle.witness_search.proofs.limits.room_over_capacity.Goals as goal

pub overflow_mul-part : goal.overflow_mul-part
overflow_mul-part c =
    let room : c.from.result ≤ 2 ^ 42 = let e = c.from.ensures in omega (arith, e, c.requires.room) in
    let share : c.from-share.result ≤ 1000000 = let e = c.from-share.ensures in omega (arith, e, c.requires.shares) in
    omega (arith, mul-le c.from.result c.from-share.result (2 ^ 42) 1000000 room share)

pub overflow_mul-over : goal.overflow_mul-over
overflow_mul-over c =
    let room : c.from.result ≤ 2 ^ 42 = let e = c.from.ensures in omega (arith, e, c.requires.room) in
    let share : c.from-share.result ≤ 1000000 = let e = c.from-share.ensures in omega (arith, e, c.requires.shares) in
    let part = mul-le c.from.result c.from-share.result (2 ^ 42) 1000000 room share in
    let unit = ap (λ u. u * (c.from.result * c.from-share.result)) c.from-2.ensures in
    omega (arith, part, unit)

pub overflow_mul-under : goal.overflow_mul-under
overflow_mul-under c =
    let unit = ap (λ u. u * c.capacity_of.result) c.from-3.ensures in
    let is = c.capacity_of.ensures in
    omega (arith, unit, is, c.requires.links.capacities c.args.link)

pub ceil_div-requires : goal.ceil_div-requires
ceil_div-requires c =
    let unit = ap (λ u. u * c.capacity_of.result) c.from-3.ensures in
    let is = c.capacity_of.ensures in
    omega (arith, unit, is, c.requires.links.some c.args.link c.requires.link)

pub returns : goal.returns
returns c =
    let share = c.from-share.result in
    let over = ap (λ u. u * (c.from.result * share)) c.from-2.ensures ∙ ap (λ r. RATIO_UNIT * (r * share)) c.from.ensures
    ∙ ap (λ s. RATIO_UNIT * (c.args.room * s)) c.from-share.ensures in
    let under = ap (λ u. c.ceil_div.result * (u * c.capacity_of.result)) c.from-3.ensures ∙ ap (λ k. c.ceil_div.result * (SHARE_UNIT * k)) c.capacity_of.ensures in
    omega (arith, over, under, c.ceil_div.ensures.enough)
