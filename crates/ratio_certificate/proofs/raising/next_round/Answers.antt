use Rattle.std.proofs.Common.{ℕ, ◌^◌, ◌≤◌, Some, None, arith, refl, sym, subst, ◌∙◌}
use Rattle.std.specs.Prelude.{All}
use Rattle.std.proofs.lemmas.List.Elements.{All-from_get_or}
use Rattle.best_blocks.proofs.Scaled.{shares_listed, some_share}
use Rattle.ratio_certificate.specs.Weighting.{AreWeights}
use Rattle.ratio_certificate.proofs.NextRounds.{dearest_nodes, dearest_path, links_read, no_round_after, raised_read, round_after, shared_far}
use Rattle.ratio_certificate.proofs.raising.next_round.Goals as goal

pub dearest_pair-dearest-requires-clause-apart : goal.dearest_pair-dearest-requires-clause-apart
dearest_pair-dearest-requires-clause-apart c =
    rw c.as_slice.ensures
    (shared_far c.args.problem.now.net.now c.args.problem.now.routing.now.routes c.args.problem.now.set.now c.args.shared.now c.args.metric.now c.requires.problem.routing c.requires.shared c.requires.metric c.requires.weights)

pub raise-requires-clause-links : goal.raise-requires-clause-links
raise-requires-clause-links c =
    (links_read c.args.problem.now.net.now c.args.problem.now.routing.now.routes c.as_slice-2.result.now c.args.shared.now c.args.metric.now c.args.shared.now.shares
    c.as_slice.result.now c.as_slice-weights.result.now c.as_slice-in-Some.result.now c.dearest_pair-dearest.result c.index-as_slice-dearest.result c.in_ok-path.field-0
    c.in-Some.path refl c.as_slice.ensures c.as_slice-weights.ensures c.as_slice-in-Some.ensures c.as_slice-2.ensures c.in-Some.is
    c.requires.shared.shares_are.count c.dearest_pair-dearest.ensures c.in_ok-path.ensures c.requires.problem.routing).0

pub raise-requires-clause-some : goal.raise-requires-clause-some
raise-requires-clause-some c =
    (links_read c.args.problem.now.net.now c.args.problem.now.routing.now.routes c.as_slice-2.result.now c.args.shared.now c.args.metric.now c.args.shared.now.shares
    c.as_slice.result.now c.as_slice-weights.result.now c.as_slice-in-Some.result.now c.dearest_pair-dearest.result c.index-as_slice-dearest.result c.in_ok-path.field-0
    c.in-Some.path refl c.as_slice.ensures c.as_slice-weights.ensures c.as_slice-in-Some.ensures c.as_slice-2.ensures c.in-Some.is
    c.requires.shared.shares_are.count c.dearest_pair-dearest.ensures c.in_ok-path.ensures c.requires.problem.routing).1

pub returns-in_ok-next-in-Some : goal.returns-in_ok-next-in-Some
returns-in_ok-next-in-Some c =
    let net = c.args.problem.now.net.now in
    let routes = c.args.problem.now.routing.now.routes in
    let l = c.args.shared.now in
    let m = c.args.metric.now in
    let d = c.dearest_pair-dearest.result in
    let is = dearest_path net routes c.as_slice-2.result.now l m c.args.shared.now.shares c.as_slice.result.now c.as_slice-weights.result.now d
    c.index-as_slice-dearest.result c.in_ok-path.field-0 (Some c.in-Some.path) refl c.as_slice.ensures c.as_slice-weights.ensures c.as_slice-2.ensures
    c.in-Some.is c.requires.shared.shares_are.count c.dearest_pair-dearest.ensures c.in_ok-path.ensures
    in
    let raised = raised_read net c.as_slice-in-Some.result.now c.in-Some.path.links c.as_slice-weights.result.now m.weights c.in_ok-next-in-Some.next.items c.new.result
    c.as_slice-in-Some.ensures c.as_slice-weights.ensures c.new.ensures c.in_ok-next-in-Some.ensures.raised
    in
    round_after net routes c.args.problem.now.set.now l m c.new.result c.in-Some.path d c.requires.problem.network c.requires.problem.routing c.requires.shared c.requires.metric is raised

pub returns-in_ok-same-in-None : goal.returns-in_ok-same-in-None
returns-in_ok-same-in-None c =
    let net = c.args.problem.now.net.now in
    let routes = c.args.problem.now.routing.now.routes in
    let l = c.args.shared.now in
    let m = c.args.metric.now in
    let d = c.dearest_pair-dearest.result in
    let is = dearest_path net routes c.as_slice-2.result.now l m c.args.shared.now.shares c.as_slice.result.now c.as_slice-weights.result.now d
    c.index-as_slice-dearest.result c.in_ok-path.field-0 None refl c.as_slice.ensures c.as_slice-weights.ensures c.as_slice-2.ensures
    c.in-None.is c.requires.shared.shares_are.count c.dearest_pair-dearest.ensures c.in_ok-path.ensures
    in
    no_round_after net routes c.args.problem.now.set.now l m c.new-in-None.result c.new-in-None-3.result d c.requires.problem.routing c.requires.shared c.requires.metric is
    (c.new-in-None.ensures ∙ c.in_ok-same-in-None.ensures.items ∙ c.as_slice-weights.ensures) (c.new-in-None-3.ensures ∙ c.new-in-None-2.ensures.items)

pub dearest_pair-dearest-requires-clause-some : goal.dearest_pair-dearest-requires-clause-some
dearest_pair-dearest-requires-clause-some c =
    some_share c.args.problem.now.net.now c.args.problem.now.routing.now.routes c.args.problem.now.set.now c.args.shared.now c.requires.shared

pub raise-requires-clause-weights : goal.raise-requires-clause-weights
raise-requires-clause-weights c = subst (AreWeights c.args.problem.now.net.now) (sym c.as_slice-weights.ensures) c.requires.weights

pub least_path-requires-clause-limit : goal.least_path-requires-clause-limit
least_path-requires-clause-limit c = subst (All (λ (w : ℕ). w ≤ 2 ^ 28)) (sym c.as_slice-weights.ensures) c.requires.metric.small

pub least_path-requires-clause-positive : goal.least_path-requires-clause-positive
least_path-requires-clause-positive c =
    let weights = c.requires.weights in
    subst (All (λ (w : ℕ). 1 ≤ w)) (sym c.as_slice-weights.ensures)
    (All-from_get_or (λ (w : ℕ). 1 ≤ w) c.args.metric.now.weights 0 (λ h below. weights.some h (omega (arith, below, weights.count))))

pub least_path-requires-clause-src : goal.least_path-requires-clause-src
least_path-requires-clause-src c =
    (dearest_nodes c.args.problem.now.net.now c.args.problem.now.routing.now.routes c.as_slice-2.result.now c.args.shared.now.shares c.as_slice.result.now
    c.dearest_pair-dearest.result c.index-as_slice-dearest.result c.requires.shared.shares_are.count
    c.as_slice-2.ensures c.requires.problem.routing c.dearest_pair-dearest.ensures).0

pub least_path-requires-clause-dst : goal.least_path-requires-clause-dst
least_path-requires-clause-dst c =
    (dearest_nodes c.args.problem.now.net.now c.args.problem.now.routing.now.routes c.as_slice-2.result.now c.args.shared.now.shares c.as_slice.result.now
    c.dearest_pair-dearest.result c.index-as_slice-dearest.result c.requires.shared.shares_are.count
    c.as_slice-2.ensures c.requires.problem.routing c.dearest_pair-dearest.ensures).1

pub least_path-requires-clause-apart : goal.least_path-requires-clause-apart
least_path-requires-clause-apart c =
    (dearest_nodes c.args.problem.now.net.now c.args.problem.now.routing.now.routes c.as_slice-2.result.now c.args.shared.now.shares c.as_slice.result.now
    c.dearest_pair-dearest.result c.index-as_slice-dearest.result c.requires.shared.shares_are.count
    c.as_slice-2.ensures c.requires.problem.routing c.dearest_pair-dearest.ensures).2

pub dearest_pair-dearest-requires-clause-listed : goal.dearest_pair-dearest-requires-clause-listed
dearest_pair-dearest-requires-clause-listed c =
    shares_listed c.args.problem.now.net.now c.args.problem.now.routing.now.routes c.args.problem.now.set.now c.args.shared.now c.requires.shared
