use Rattle.std.proofs.Common.{◌∙◌, ◌*◌, ◌^◌, ◌≤◌, arith, ap, slice_index}
use Rattle.te_model.specs.Network.{link_count}
use Rattle.ratio_witness.specs.Witness.{most_used_link}
use Rattle.ratio_witness.proofs.Ratios.{capacity_by_load, load_by_capacity, same_quotient}
use Rattle.ratio_witness.proofs.utilisation.utilisation_ratio.Goals as goal

pub returns : goal.returns
returns c =
    let net = c.args.net.now in
    let on = slice_index c.args.loads.now in
    let by_rival = slice_index c.args.by_rival.now in
    c.quotient_up.ensures
    ∙ same_quotient net on by_rival c.most_used_link-e.result c.most_used_link-h.result (most_used_link net on (link_count net))
    (most_used_link net by_rival (link_count net)) c.from.result c.capacity_of.result c.capacity_of-2.result
    c.most_used_link-e.ensures.most c.most_used_link-h.ensures.most c.from.ensures c.capacity_of.ensures c.capacity_of-2.ensures

pub overflow_mul-over : goal.overflow_mul-over
overflow_mul-over c =
    let unit = ap (λ u. u * c.capacity_of.result) c.from.ensures in
    let few : c.from.result * c.capacity_of.result ≤ 1000000 * 2 ^ 32 = omega (arith, unit, c.capacity_of.ensures, c.requires.loads.capacities c.most_used_link-h.result) in
    omega (
      arith,
      capacity_by_load (c.from.result * c.capacity_of.result) (slice_index c.args.loads.now c.most_used_link-e.result) few
          (c.requires.loads.small c.most_used_link-e.result),
    )

pub overflow_mul-under : goal.overflow_mul-under
overflow_mul-under c =
    omega (
      arith,
      load_by_capacity (slice_index c.args.by_rival.now c.most_used_link-h.result) c.capacity_of-2.result (c.requires.rival.small c.most_used_link-h.result)
          (omega (arith, c.capacity_of-2.ensures, c.requires.loads.capacities c.most_used_link-e.result)),
    )
