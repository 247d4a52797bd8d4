use Rattle.std.proofs.Common.{ℕ, ◌^◌, ◌≤◌, List, All, length, map, arith, ap, sym, ◌∙◌, subst}
use Rattle.std.proofs.lemmas.List.{length-map}
use Rattle.std.proofs.lemmas.Result.{IfOk-weaker}
use Rattle.te_model.specs.declared.route.Path.{Path}
use Rattle.te_model.specs.Pairs.{AreDemands}
use Rattle.routing.proofs.InOrder.{same_count}
use Rattle.centred_steps.specs.Weights.{AreWeightsUpTo}
use Rattle.rate_sweeps.specs.Descents.{BothKeep, IsTurn}
use Rattle.rate_sweeps.specs.Sweeps.{AreAmong, AreOnLinks, ArePathsOfPairs, links_in}
use Rattle.centred_steps.proofs.Weights.{weights_small}
use Rattle.rate_sweeps.proofs.PathLinks.{ways_on_links}
use Rattle.semi_oblivious.specs.Semi.{KeepsTo}
use Rattle.semi_oblivious.proofs.Sweeping.{turn_keeps, ways_same}
use Rattle.semi_oblivious.proofs.sweeps.turn.Goals as goal

pub next_lengths-requires-clause-pairs : goal.next_lengths-requires-clause-pairs
next_lengths-requires-clause-pairs c =
    omega (arith, same_count c.args.descent.routing.routes c.args.fixed.now.routes c.requires.descent.routing_pairs, c.requires.pairs)

pub next_lengths-requires-clause-demands : goal.next_lengths-requires-clause-demands
next_lengths-requires-clause-demands c =
    subst (λ n. AreDemands n c.args.matrix.now.demand) (sym (same_count c.args.descent.routing.routes c.args.fixed.now.routes c.requires.descent.routing_pairs))
    c.requires.demands

pub cheapest_paths-requires-clause-lengths : goal.cheapest_paths-requires-clause-lengths
cheapest_paths-requires-clause-lengths c = ap (λ (l : List ℕ). length l) c.deref.ensures.value ∙ c.in_ok-lengths.ensures.count

pub cheapest_paths-requires-clause-limit : goal.cheapest_paths-requires-clause-limit
cheapest_paths-requires-clause-limit c =
    subst (All (λ (l : ℕ). l ≤ 2 ^ 28)) (sym c.deref.ensures.value) (weights_small c.in_ok-lengths.lengths.items c.in_ok-lengths.ensures.lengths)

pub offer-requires-clause-demands : goal.offer-requires-clause-demands
offer-requires-clause-demands c =
    let paths = c.in_ok-paths.paths.items in
    let count = sym c.in_ok-paths.ensures.ways.count ∙ (length-map paths links_in ∙ ap (λ (l : List Path). length l) (sym c.deref-2.ensures.value)) in
    subst (λ n. AreDemands n c.args.matrix.now.demand) count c.requires.demands

pub offer-requires-clause-count : goal.offer-requires-clause-count
offer-requires-clause-count c = ap (λ (l : List ℕ). length l) c.deref-3.ensures.value ∙ c.in_ok-lengths.ensures.count

pub offer-requires-clause-lengths : goal.offer-requires-clause-lengths
offer-requires-clause-lengths c = subst (AreWeightsUpTo (2 ^ 27)) (sym c.deref-3.ensures.value) c.in_ok-lengths.ensures.lengths

pub offer-requires-clause-paths : goal.offer-requires-clause-paths
offer-requires-clause-paths c =
    let net = c.args.net.now in
    subst (λ (l : List Path). AreOnLinks net (map links_in l)) (sym c.deref-2.ensures.value)
    (ways_on_links net c.args.fixed.now.routes (map links_in c.in_ok-paths.paths.items) c.in_ok-paths.ensures.ways)

pub take_turn-requires-clause-descent : goal.take_turn-requires-clause-descent
take_turn-requires-clause-descent c = (c.args.fixed.now.routes, c.requires.pairs, c.requires.demands, c.requires.descent)

pub take_turn-requires-clause-count : goal.take_turn-requires-clause-count
take_turn-requires-clause-count c = ap (λ (l : List ℕ). length l) c.deref-5.ensures.value ∙ c.in_ok-lengths.ensures.count

pub take_turn-requires-clause-offered : goal.take_turn-requires-clause-offered
take_turn-requires-clause-offered c =
    let net = c.args.net.now in
    let routes = c.args.descent.routing.routes in
    subst (λ (l : List Path). ArePathsOfPairs net routes (map links_in l)) (sym c.deref-4.ensures.value)
    (ways_same net c.args.fixed.now.routes routes (map links_in c.in_ok-paths.paths.items) c.requires.descent.routing_pairs c.in_ok-paths.ensures.ways)

pub take_turn-requires-clause-lengths : goal.take_turn-requires-clause-lengths
take_turn-requires-clause-lengths c =
    subst (All (λ (l : ℕ). l ≤ 2 ^ 28)) (sym c.deref-5.ensures.value) (weights_small c.in_ok-lengths.lengths.items c.in_ok-lengths.ensures.lengths)

pub returns-clause-descent : goal.returns-clause-descent
returns-clause-descent c = c.take_turn.ensures.descent c.args.fixed.now.routes c.requires.descent

pub returns-clause-keeps : goal.returns-clause-keeps
returns-clause-keeps c =
    let fixed = c.args.fixed.now.routes in
    let offered = map links_in c.deref-4.result.now in
    let among = subst (λ (l : List Path). AreAmong fixed (map links_in l)) (sym c.deref-4.ensures.value) c.in_ok-paths.ensures.among in
    IfOk-weaker c.take_turn.result (IsTurn 33 offered c.args.descent) (BothKeep (KeepsTo fixed))
    (λ d made. turn_keeps 33 fixed offered c.args.descent d among made c.requires.keeps) c.take_turn.ensures.turn
