use Rattle.std.proofs.Common.{arith}
use Rattle.ratio_certificate.proofs.making.best_start.Goals as goal

pub returns-clause-least : goal.returns-clause-least
returns-clause-least c = λ j few weights round need under.
    let bound = c.in_ok-best.ensures.least j few weights round need under in
    omega (arith, c.in_ok-take_offers.ensures.no_more, bound)

pub returns-clause-small : goal.returns-clause-small
returns-clause-small c = omega (arith, c.in_ok-take_offers.ensures.no_more, c.in_ok-best.ensures.small)

pub returns-clause-offers : goal.returns-clause-offers
returns-clause-offers c = c.in_ok-take_offers.ensures.offers
