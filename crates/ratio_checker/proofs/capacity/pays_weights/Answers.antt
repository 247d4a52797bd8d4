use Rattle.ratio_checker.proofs.Sizes.{pays_by_quotient}
use Rattle.ratio_checker.proofs.capacity.pays_weights.Goals as goal

pub returns : goal.returns
returns c =
    let e = pays_by_quotient _ _ c.ceil_div.result c.args.ratio c.ceil_div.ensures.enough c.ceil_div.ensures.least in
    rw (c.as_slice.ensures, c.weighted_capacity.ensures.sum) at e
