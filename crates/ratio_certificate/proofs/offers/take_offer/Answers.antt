use Rattle.std.proofs.Common.{◌≡◌, arith, ◌∙◌}
use Rattle.te_model.proofs.WellFormed.{capacities_positive}
use Rattle.ratio_certificate.specs.Weighting.{IsWeighting}
use Rattle.ratio_certificate.proofs.Offered.{offer_weighed}
use Rattle.ratio_certificate.proofs.RoundMetrics.{chosen, lesser_is}
use Rattle.ratio_certificate.proofs.offers.take_offer.Goals as goal

pub returns-clause-link : goal.returns-clause-link
returns-clause-link c =
    lesser_is (λ w. w.link ≡ c.args.shared.now.link) c.args.best.now c.in_ok-found.found c.keep_lesser.new.best c.keep_lesser.ensures.same c.keep_lesser.ensures.lesser
    c.requires.link c.in_ok-found.ensures.link

pub returns-clause-best : goal.returns-clause-best
returns-clause-best c =
    let p = c.args.problem.now in
    lesser_is (IsWeighting p.net.now p.routing.now.routes p.set.now) c.args.best.now c.in_ok-found.found c.keep_lesser.new.best c.keep_lesser.ensures.same
    c.keep_lesser.ensures.lesser c.requires.best c.in_ok-found.ensures.weighting

pub returns-clause-no_more : goal.returns-clause-no_more
returns-clause-no_more c =
    (chosen c.args.best.now c.in_ok-found.found c.keep_lesser.new.best c.keep_lesser.ensures.same c.keep_lesser.ensures.lesser).1

pub returns-clause-offer : goal.returns-clause-offer
returns-clause-offer c =
    let p = c.args.problem.now in
    let o = c.args.offer.now in
    let l = c.args.shared.now in
    let of_link : o.link ≡ l.link = omega (arith, c.if-offer-shared.false) in
    let weights = c.in_ok-found.ensures.weights in
    offer_weighed p.net.now p.routing.now.routes p.set.now o l.link c.args.best.now c.in_ok-found.found c.keep_lesser.new.best
    (capacities_positive p.net.now c.requires.problem.network l.link c.requires.shared.within) of_link c.in_ok-found.ensures.link (weights ∙ c.as_slice.ensures)
    c.in_ok-found.ensures.weighting c.keep_lesser.ensures.same c.keep_lesser.ensures.lesser
