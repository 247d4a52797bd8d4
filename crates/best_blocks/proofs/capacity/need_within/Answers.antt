use Rattle.std.proofs.Common.{◌*◌}
use Rattle.te_model.specs.declared.units.TheConstants.{RATIO_UNIT, SHARE_UNIT}
use Rattle.te_model.specs.Network.{capacity_of}
use Rattle.te_model.specs.Inequalities.{capacity_by}
use Rattle.te_model.proofs.Quotients.{is_quotient_up}
use Rattle.te_model.proofs.Sizes.{unit_positive}
use Rattle.best_blocks.proofs.capacity.need_within.Goals as goal

pub returns : goal.returns
returns c =
    let net = c.args.net.now in
    let scale = c.args.scale in
    let enough = c.ceil_div.ensures.enough in
    let least = c.ceil_div.ensures.least in
    is_quotient_up (scale.a * RATIO_UNIT * capacity_by net c.args.weights.now) (scale.b * SHARE_UNIT * capacity_of net c.args.link) c.ceil_div.result
    (unit_positive scale.b (capacity_of net c.args.link) c.requires.b.0 c.requires.capacity)
    (rw (c.as_slice.ensures, c.capacity_by.ensures.sum) at enough) (rw (c.as_slice.ensures, c.capacity_by.ensures.sum) at least)
