use Rattle.std.proofs.Common.{◌≡◌, ◌+◌, ◌*◌, ◌^◌, arith}
use Rattle.ratio_certificate.specs.Weighting.{IsWeighting}
use Rattle.ratio_certificate.proofs.RoundMetrics.{lesser_is, lesser_small, next_least, round_weights}
use Rattle.ratio_certificate.proofs.rounds.advance.Goals as goal

pub returns : goal.returns
returns c =
    let net = c.args.problem.now.net.now in
    let routes = c.args.problem.now.routing.now.routes in
    let set = c.args.problem.now.set.now in
    let l = c.args.shared.now in
    let m = c.in_ok-metric.metric in
    let best = c.args.rounds.now.best in
    let found = c.in_ok-found.found in
    let lesser = c.keep_lesser.new.best in
    let keeps = c.keep_lesser.ensures.same in
    let takes = c.keep_lesser.ensures.lesser in
    record {
      metric = c.in_ok-metric.ensures.metric;
      link = lesser_is (λ w. w.link ≡ l.link) best found lesser keeps takes c.requires.rounds.link c.in_ok-found.ensures.link;
      weighting = lesser_is (IsWeighting net routes set) best found lesser keeps takes c.requires.rounds.weighting c.in_ok-found.ensures.weighting;
      least = next_least net routes set l c.args.round m best found lesser c.requires.problem.network c.requires.shared c.in_ok-metric.ensures.metric c.in_ok-found.ensures.weighting
          c.in_ok-found.ensures.link c.in_ok-found.ensures.weights keeps takes c.requires.rounds.least;
      small = lesser_small (1000000 * 2 ^ 42) best found lesser keeps takes c.requires.rounds.small;
      along = c.in_ok-metric.ensures.along;
    }

pub weighting_of-requires-clause-weights : goal.weighting_of-requires-clause-weights
weighting_of-requires-clause-weights c =
    round_weights c.args.problem.now.net.now c.args.problem.now.routing.now.routes c.args.shared.now (c.args.round + 1) c.in_ok-metric.metric (omega arith) c.in_ok-metric.ensures.metric
