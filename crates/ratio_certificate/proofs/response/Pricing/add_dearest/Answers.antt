use Rattle.std.proofs.Common.{List, ℕ, get_or, slice_index, arith, ap}
use Rattle.best_blocks.proofs.Scaled.{metric_scalable}
use Rattle.kept_ways.proofs.Amounts.{worth_fits}
use Rattle.ratio_certificate.proofs.Responses.{most_fits}
use Rattle.ratio_certificate.proofs.KeptAt.{ends_of_entry, entry_at, no_entry}
use Rattle.ratio_certificate.proofs.Responding.{entry_share}
use Rattle.ratio_certificate.proofs.response.Pricing.add_dearest.Goals as goal
use Rattle.ratio_certificate.proofs.response.Pricing.add_dearest.Goals.{then-above-gt0, else-above-gt0}

pub overflow_mul-worth : goal.overflow_mul-worth
overflow_mul-worth c =
    let it = c.args.self.now in
    let share =
    entry_share it.problem.net.now it.problem.routing.now.routes it.problem.set.now it.shared.now c.as_slice-entry-items.result.now c.loop-entry.entry-index c.requires.pricing.problem.routing
    c.requires.pricing.shared c.as_slice-entry-items.ensures c.loop-entry-test.true
    in
    let fits = worth_fits c.from.result c.from-in-loop-entry.result (omega (arith, c.from.ensures, share)) (omega (arith, c.requires.pricing.scale.1)) in
    omega (arith, fits)

pub nearness-above-requires-clause-worth : goal.nearness-above-requires-clause-worth
nearness-above-requires-clause-worth c =
    let it = c.args.self.now in
    let share =
    entry_share it.problem.net.now it.problem.routing.now.routes it.problem.set.now it.shared.now c.as_slice-entry-items.result.now c.loop-entry.entry-index c.requires.pricing.problem.routing
    c.requires.pricing.shared c.as_slice-entry-items.ensures c.loop-entry-test.true
    in
    worth_fits c.from.result c.from-in-loop-entry.result (omega (arith, c.from.ensures, share)) (omega (arith, c.requires.pricing.scale.1))

pub nearness-above-requires-clause-most : goal.nearness-above-requires-clause-most
nearness-above-requires-clause-most c =
    let it = c.args.self.now in
    let m = it.metric.now in
    let p = (get_or c.as_slice-entry-items.result.now c.loop-entry.entry-index (record { pair = 0; share = 0 })).pair in
    let all = metric_scalable it.problem.net.now it.problem.routing.now.routes it.problem.set.now it.shared.now m c.requires.pricing.problem.network c.requires.pricing.problem.routing
    c.requires.pricing.problem.set c.requires.pricing.shared c.requires.pricing.metric
    in
    let near = all.distances_small p in
    let read = ap (λ (xs : List ℕ). slice_index xs p) c.as_slice-distances.ensures in
    most_fits c.from-in-loop-entry-2.result c.from-in-loop-entry-3.result (omega (arith, c.requires.pricing.scale.0))
    (omega (arith, c.from-in-loop-entry-3.ensures, read, near))

pub overflow_mul-most : goal.overflow_mul-most
overflow_mul-most c =
    let it = c.args.self.now in
    let m = it.metric.now in
    let p = (get_or c.as_slice-entry-items.result.now c.loop-entry.entry-index (record { pair = 0; share = 0 })).pair in
    let all = metric_scalable it.problem.net.now it.problem.routing.now.routes it.problem.set.now it.shared.now m c.requires.pricing.problem.network c.requires.pricing.problem.routing
    c.requires.pricing.problem.set c.requires.pricing.shared c.requires.pricing.metric
    in
    let near = all.distances_small p in
    let read = ap (λ (xs : List ℕ). slice_index xs p) c.as_slice-distances.ensures in
    let fits = most_fits c.from-in-loop-entry-2.result c.from-in-loop-entry-3.result (omega (arith, c.requires.pricing.scale.0))
    (omega (arith, c.from-in-loop-entry-3.ensures, read, near))
    in
    omega (arith, fits)

pub turn-requires-clause-row : goal.turn-requires-clause-row
turn-requires-clause-row c =
    let it = c.args.self.now in
    let items = c.as_slice-entry-items.result.now in
    let entry =
    entry_at it.problem.net.now it.problem.routing.now.routes it.problem.set.now it.shared.now items c.loop-entry.entry-index c.requires.pricing.shared c.as_slice-entry-items.ensures c.loop-entry-test.true
    in
    (ends_of_entry it.problem.net.now it.problem.routing.now.routes it.problem.set.now it.shared.now it.metric.now c.as_slice-routes.result.now
    (get_or items c.loop-entry.entry-index no_entry) c.index-routes-p.result c.requires.pricing.problem.routing c.requires.pricing.shared c.requires.pricing.metric entry
    c.as_slice-routes.ensures c.index-routes-p.is).0

pub narrowest_on-capacity-requires-clause-dst : goal.narrowest_on-capacity-requires-clause-dst
narrowest_on-capacity-requires-clause-dst c =
    let it = c.args.self.now in
    let items = c.as_slice-entry-items.result.now in
    let entry =
    entry_at it.problem.net.now it.problem.routing.now.routes it.problem.set.now it.shared.now items c.loop-entry.entry-index c.requires.pricing.shared c.as_slice-entry-items.ensures c.loop-entry-test.true
    in
    (ends_of_entry it.problem.net.now it.problem.routing.now.routes it.problem.set.now it.shared.now it.metric.now c.as_slice-routes.result.now
    (get_or items c.loop-entry.entry-index no_entry) c.index-routes-p.result c.requires.pricing.problem.routing c.requires.pricing.shared c.requires.pricing.metric entry
    c.as_slice-routes.ensures c.index-routes-p.is).1

pub add_load_along-requires-clause-dst : goal.add_load_along-requires-clause-dst
add_load_along-requires-clause-dst c =
    let it = c.args.self.now in
    let items = c.as_slice-entry-items.result.now in
    let entry =
    entry_at it.problem.net.now it.problem.routing.now.routes it.problem.set.now it.shared.now items c.loop-entry.entry-index c.requires.pricing.shared c.as_slice-entry-items.ensures c.loop-entry-test.true
    in
    (ends_of_entry it.problem.net.now it.problem.routing.now.routes it.problem.set.now it.shared.now it.metric.now c.as_slice-routes.result.now
    (get_or items c.loop-entry.entry-index no_entry) c.index-routes-p.result c.requires.pricing.problem.routing c.requires.pricing.shared c.requires.pricing.metric entry
    c.as_slice-routes.ensures c.index-routes-p.is).1

pub loop-entry-preserved : goal.loop-entry-preserved
loop-entry-preserved c =
    elim c.if-above-gt0.branch [
      | then-above-gt0 w ↦ rw (w.ways-is, w.loads-is) (w.turn.ensures, w.add_load_along.ensures.small)
      | else-above-gt0 w ↦ rw (w.ways-is, w.loads-is) c.loop-entry.invariant
    ]
