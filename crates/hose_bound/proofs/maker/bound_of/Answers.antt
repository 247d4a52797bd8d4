use Rattle.std.proofs.Common.{arith}
use Rattle.te_model.proofs.WellFormed.{capacities_positive}
use Rattle.hose_bound.proofs.LeastBounds.{enough_from, quotient_within}
use Rattle.hose_bound.proofs.maker.bound_of.Goals as goal

pub ceil_div-requires : goal.ceil_div-requires
ceil_div-requires c =
    let some = capacities_positive c.args.net.now c.requires.network c.args.block.now.link c.requires.link in
    omega (arith, some, c.capacity_of.ensures)

pub overflow_cast-result : goal.overflow_cast-result
overflow_cast-result c =
    let some = capacities_positive c.args.net.now c.requires.network c.args.block.now.link c.requires.link in
    let within = quotient_within c.block_sum-sum.result c.capacity_of.result c.ceil_div.result (omega (arith, some, c.capacity_of.ensures))
    (λ k le. c.ceil_div.ensures.least k (omega (arith, le))) in
    omega (arith, within, c.block_sum-sum.ensures.small)

pub returns-clause-least : goal.returns-clause-least
returns-clause-least c = λ other pays.
    let net = c.args.net.now in
    let enough = enough_from net c.args.hose.now other c.args.block.now.link c.args.block.now pays in
    c.ceil_div.ensures.least other (rw (c.block_sum-sum.ensures.sum, c.as_slice.ensures, c.capacity_of.ensures) enough)

pub returns-clause-small : goal.returns-clause-small
returns-clause-small c =
    let some = capacities_positive c.args.net.now c.requires.network c.args.block.now.link c.requires.link in
    let within = quotient_within c.block_sum-sum.result c.capacity_of.result c.ceil_div.result (omega (arith, some, c.capacity_of.ensures))
    (λ k le. c.ceil_div.ensures.least k (omega (arith, le))) in
    omega (arith, within, c.block_sum-sum.ensures.small)
