use Rattle.std.proofs.Common.{ℕ, ◌^◌, ◌≤◌, List, All, length, map, arith, ap, sym, ◌∙◌, subst}
use Rattle.std.proofs.lemmas.List.{length-map}
use Rattle.te_model.specs.declared.route.Path.{Path}
use Rattle.te_model.specs.Pairs.{AreDemands}
use Rattle.routing.proofs.InOrder.{routes_count}
use Rattle.rate_sweeps.specs.Sweeps.{AreOnLinks, links_in}
use Rattle.centred_steps.specs.Weights.{AreWeightsUpTo}
use Rattle.centred_steps.proofs.Weights.{weights_positive, weights_small}
use Rattle.mcf_lengths.proofs.Sweeping.{least_on_links, least_ways}
use Rattle.mcf_lengths.proofs.sweeps.Commodities.least_turn.Goals as goal

pub next_lengths-requires-clause-pairs : goal.next_lengths-requires-clause-pairs
next_lengths-requires-clause-pairs c =
    omega (arith, routes_count c.args.self.now.pairs.now.list c.args.descent.now.routing.routes c.requires.routing.in_order, c.requires.commodities.ends.few)

pub next_lengths-requires-clause-demands : goal.next_lengths-requires-clause-demands
next_lengths-requires-clause-demands c =
    let count = routes_count c.args.self.now.pairs.now.list c.args.descent.now.routing.routes c.requires.routing.in_order in
    subst (λ n. AreDemands n c.args.self.now.matrix.now.demand) (sym count) c.requires.commodities.demands

pub least_paths-requires-clause-lengths : goal.least_paths-requires-clause-lengths
least_paths-requires-clause-lengths c = ap (λ (l : List ℕ). length l) c.deref.ensures.value ∙ c.in_ok-lengths.ensures.count

pub least_paths-requires-clause-limit : goal.least_paths-requires-clause-limit
least_paths-requires-clause-limit c =
    subst (All (λ (l : ℕ). l ≤ 2 ^ 28)) (sym c.deref.ensures.value) (weights_small c.in_ok-lengths.lengths.items c.in_ok-lengths.ensures.lengths)

pub least_paths-requires-clause-positive : goal.least_paths-requires-clause-positive
least_paths-requires-clause-positive c =
    subst (All (λ (l : ℕ). 1 ≤ l)) (sym c.deref.ensures.value) (weights_positive c.in_ok-lengths.lengths.items c.in_ok-lengths.ensures.lengths)

pub offer-requires-clause-demands : goal.offer-requires-clause-demands
offer-requires-clause-demands c =
    let paths = c.in_ok-paths.paths.items in
    let count = sym c.in_ok-paths.ensures.count ∙ (length-map paths links_in ∙ ap (λ (l : List Path). length l) (sym c.deref-2.ensures.value)) in
    subst (λ n. AreDemands n c.args.self.now.matrix.now.demand) count c.requires.commodities.demands

pub offer-requires-clause-count : goal.offer-requires-clause-count
offer-requires-clause-count c = ap (λ (l : List ℕ). length l) c.deref-3.ensures.value ∙ c.in_ok-lengths.ensures.count

pub offer-requires-clause-lengths : goal.offer-requires-clause-lengths
offer-requires-clause-lengths c = subst (AreWeightsUpTo (2 ^ 27)) (sym c.deref-3.ensures.value) c.in_ok-lengths.ensures.lengths

pub offer-requires-clause-paths : goal.offer-requires-clause-paths
offer-requires-clause-paths c =
    let net = c.args.self.now.net.now in
    subst (λ (l : List Path). AreOnLinks net (map links_in l)) (sym c.deref-2.ensures.value)
    (least_on_links net c.deref.result.now c.args.self.now.pairs.now.list (map links_in c.in_ok-paths.paths.items) c.in_ok-paths.ensures)

pub returns-clause-paths : goal.returns-clause-paths
returns-clause-paths c =
    least_ways c.args.self.now.net.now c.args.self.now.pairs.now.list c.args.descent.now.routing.routes c.deref.result.now (map links_in c.in_ok-paths.paths.items) c.requires.routing
    c.in_ok-paths.ensures
