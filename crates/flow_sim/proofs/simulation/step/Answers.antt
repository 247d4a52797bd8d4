use Rattle.std.proofs.Common.{◌≡◌, ◌*◌, ◌<◌, ◌≤◌, ◌-◌, ◌^◌, ℕ, Bool, List, All, map, length, sum_by, slice_index, arith, sym, ap, subst, ◌∙◌}
use Rattle.std.specs.List.{range_with_len}
use Rattle.te_model.specs.declared.limits.TheConstants.{FORMAT_2}
use Rattle.te_model.specs.declared.network.Network.{Network}
use Rattle.te_model.specs.declared.route.PairRoutes.{PairRoutes}
use Rattle.te_model.specs.Network.{link_count, capacity_of}
use Rattle.flow_sim.specs.declared.state.State.{State}
use Rattle.flow_sim.specs.declared.result.PairResult.{PairResult}
use Rattle.flow_sim.specs.State.{IsState}
use Rattle.flow_sim.specs.Tables.{total_at}
use Rattle.flow_sim.specs.Traffic.{step_setting, longest, flow_paths, flow_pairs, paths_of, CanSplit}
use Rattle.flow_sim.specs.Result.{IsConserved, pair_result_of, pair_results}
use Rattle.flow_sim.proofs.PairLaws.{pairs-length}
use Rattle.flow_sim.proofs.StartLaws.{starts_fit}
use Rattle.flow_sim.proofs.RatesLaws.{few_pairs, can_split, links_stand}
use Rattle.flow_sim.proofs.ResultLaws.{results_are, carried_are, ends_fit, left_within, offered_are, results_conserved, total_conserved, sums_fit, offered_fits}
use Rattle.flow_sim.proofs.simulation.step.Goals as goal

pub run-requires-clause-links : goal.run-requires-clause-links
run-requires-clause-links c = λ p inside. links_stand c.args.net.now c.args.rates.now.routes c.requires.rates p inside

pub run-requires-clause-pairs : goal.run-requires-clause-pairs
run-requires-clause-pairs c = few_pairs c.args.net.now c.args.rates.now.routes c.requires.network c.requires.rates

pub run-requires-clause-paths : goal.run-requires-clause-paths
run-requires-clause-paths c = can_split c.args.net.now c.args.rates.now.routes c.requires.rates c.args.rates.now.rates

pub results-requires-clause-pairs : goal.results-requires-clause-pairs
results-requires-clause-pairs c = few_pairs c.args.net.now c.args.rates.now.routes c.requires.network c.requires.rates

pub results-requires-clause-flows : goal.results-requires-clause-flows
results-requires-clause-flows c =
    let size = sym (pairs-length c.args.rates.now.routes) in
    let end' = c.in_ok-end.ensures in
    (end'.flows ∙ size, end'.full_flows ∙ size, end'.failed_flows ∙ size)

pub results-requires-clause-fits : goal.results-requires-clause-fits
results-requires-clause-fits c =
    let net = c.args.net.now in
    let rates = c.args.rates.now.routes in
    let demand = c.args.matrix.now.demand in
    ends_fit net c.args.failed.now rates demand (longest (flow_paths rates)) c.in_ok-end.end c.in_ok-end.ensures
    (starts_fit rates demand (few_pairs net rates c.requires.network c.requires.rates) c.requires.demands c.requires.small
    (can_split net rates c.requires.rates c.args.rates.now.rates))

pub carried_units-requires-clause-within : goal.carried_units-requires-clause-within
carried_units-requires-clause-within c = λ e inside.
    let lent = c.as_slice.ensures.value in
    let within = left_within c.args.net.now c.args.failed.now c.args.rates.now.routes c.args.matrix.now.demand (longest (flow_paths c.args.rates.now.routes))
    c.in_ok-end.end c.in_ok-end.ensures e (omega (arith, ap length lent)) in
    omega (arith, within, ap (λ xs. slice_index xs e) lent)

-- the results as the code holds them
named : (net : Network) (failed : List Bool) (rates : List PairRoutes) (demand : List ℕ) (end' : State) (list held : List PairResult) →
    IsState (step_setting net failed rates demand) (longest (flow_paths rates)) end' → list ≡ held →
    held ≡ map (pair_result_of rates demand (total_at (flow_pairs rates) end'.units.items) (total_at (flow_pairs rates) end'.lost_full.items)
    (total_at (flow_pairs rates) end'.lost_failed.items)) (range_with_len 0 (length rates)) → list ≡ pair_results net failed rates demand
named net failed rates demand end' list held known same made = same ∙ (made ∙ results_are net failed rates demand end' known)

conserved : (net : Network) (failed : List Bool) (rates : List PairRoutes) (demand : List ℕ) (list : List PairResult) →
    list ≡ pair_results net failed rates demand → ((p : ℕ) → p < length rates → CanSplit (paths_of rates p)) → All IsConserved list
conserved net failed rates demand list are split = subst (All IsConserved) (sym are) (results_conserved net failed rates demand split)

fits : (net : Network) (failed : List Bool) (rates : List PairRoutes) (demand : List ℕ) (list : List PairResult) →
    list ≡ pair_results net failed rates demand → length demand ≡ length rates → length rates ≤ FORMAT_2.nodes * FORMAT_2.nodes →
    ((p : ℕ) → p < length demand → slice_index demand p ≤ 2 ^ 32) → sum_by (λ p. p.offered) list < 2 ^ 64
fits net failed rates demand list are same few small =
    offered_fits list demand (ap (map (λ (p : PairResult). p.offered)) are ∙ offered_are net failed rates demand same) (omega arith) small

parts_fit : (net : Network) (failed : List Bool) (rates : List PairRoutes) (demand : List ℕ) (list : List PairResult) →
    list ≡ pair_results net failed rates demand → length demand ≡ length rates → length rates ≤ FORMAT_2.nodes * FORMAT_2.nodes →
    ((p : ℕ) → p < length demand → slice_index demand p ≤ 2 ^ 32) → ((p : ℕ) → p < length rates → CanSplit (paths_of rates p)) →
    (sum_by (λ p. p.delivered) list < 2 ^ 64) × (sum_by (λ p. p.lost_full) list < 2 ^ 64)
    × (sum_by (λ p. p.lost_failed) list < 2 ^ 64) × (sum_by (λ p. p.lost_no_path) list < 2 ^ 64)
parts_fit net failed rates demand list are same few small split =
    sums_fit list (conserved net failed rates demand list are split) (fits net failed rates demand list are same few small)

pub step_result-result-requires-clause-offered : goal.step_result-result-requires-clause-offered
step_result-result-requires-clause-offered c =
    let net = c.args.net.now in
    let failed = c.args.failed.now in
    let rates = c.args.rates.now.routes in
    let demand = c.args.matrix.now.demand in
    fits net failed rates demand c.new-2.result
    (named net failed rates demand c.in_ok-end.end c.new-2.result c.in_ok-per_pair.per_pair.items c.in_ok-end.ensures c.new-2.ensures c.in_ok-per_pair.ensures)
    c.requires.demands (few_pairs net rates c.requires.network c.requires.rates) c.requires.small

pub step_result-result-requires-clause-delivered : goal.step_result-result-requires-clause-delivered
step_result-result-requires-clause-delivered c =
    let net = c.args.net.now in
    let failed = c.args.failed.now in
    let rates = c.args.rates.now.routes in
    let demand = c.args.matrix.now.demand in
    (parts_fit net failed rates demand c.new-2.result
    (named net failed rates demand c.in_ok-end.end c.new-2.result c.in_ok-per_pair.per_pair.items c.in_ok-end.ensures c.new-2.ensures c.in_ok-per_pair.ensures)
    c.requires.demands (few_pairs net rates c.requires.network c.requires.rates) c.requires.small (can_split net rates c.requires.rates c.args.rates.now.rates)).0

pub step_result-result-requires-clause-lost_full : goal.step_result-result-requires-clause-lost_full
step_result-result-requires-clause-lost_full c =
    let net = c.args.net.now in
    let failed = c.args.failed.now in
    let rates = c.args.rates.now.routes in
    let demand = c.args.matrix.now.demand in
    (parts_fit net failed rates demand c.new-2.result
    (named net failed rates demand c.in_ok-end.end c.new-2.result c.in_ok-per_pair.per_pair.items c.in_ok-end.ensures c.new-2.ensures c.in_ok-per_pair.ensures)
    c.requires.demands (few_pairs net rates c.requires.network c.requires.rates) c.requires.small (can_split net rates c.requires.rates c.args.rates.now.rates)).1

pub step_result-result-requires-clause-lost_failed : goal.step_result-result-requires-clause-lost_failed
step_result-result-requires-clause-lost_failed c =
    let net = c.args.net.now in
    let failed = c.args.failed.now in
    let rates = c.args.rates.now.routes in
    let demand = c.args.matrix.now.demand in
    (parts_fit net failed rates demand c.new-2.result
    (named net failed rates demand c.in_ok-end.end c.new-2.result c.in_ok-per_pair.per_pair.items c.in_ok-end.ensures c.new-2.ensures c.in_ok-per_pair.ensures)
    c.requires.demands (few_pairs net rates c.requires.network c.requires.rates) c.requires.small (can_split net rates c.requires.rates c.args.rates.now.rates)).2

pub step_result-result-requires-clause-lost_no_path : goal.step_result-result-requires-clause-lost_no_path
step_result-result-requires-clause-lost_no_path c =
    let net = c.args.net.now in
    let failed = c.args.failed.now in
    let rates = c.args.rates.now.routes in
    let demand = c.args.matrix.now.demand in
    (parts_fit net failed rates demand c.new-2.result
    (named net failed rates demand c.in_ok-end.end c.new-2.result c.in_ok-per_pair.per_pair.items c.in_ok-end.ensures c.new-2.ensures c.in_ok-per_pair.ensures)
    c.requires.demands (few_pairs net rates c.requires.network c.requires.rates) c.requires.small (can_split net rates c.requires.rates c.args.rates.now.rates)).3

pub returns-clause-pairs : goal.returns-clause-pairs
returns-clause-pairs c =
    c.step_result-result.ensures.per_pair
    ∙ named c.args.net.now c.args.failed.now c.args.rates.now.routes c.args.matrix.now.demand c.in_ok-end.end c.new-2.result c.in_ok-per_pair.per_pair.items
    c.in_ok-end.ensures c.new-2.ensures c.in_ok-per_pair.ensures

pub returns-clause-carried : goal.returns-clause-carried
returns-clause-carried c =
    c.step_result-result.ensures.carried
    ∙ (c.new.ensures
    ∙ (c.in_ok-carried.ensures
    ∙ (ap (λ xs. map (λ e. capacity_of c.args.net.now e - slice_index xs e) (range_with_len 0 (link_count c.args.net.now))) c.as_slice.ensures.value
    ∙ carried_are c.args.net.now c.args.failed.now c.args.rates.now.routes c.args.matrix.now.demand c.in_ok-end.end c.in_ok-end.ensures)))

pub returns-clause-offered : goal.returns-clause-offered
returns-clause-offered c =
    let net = c.args.net.now in
    let failed = c.args.failed.now in
    let rates = c.args.rates.now.routes in
    let demand = c.args.matrix.now.demand in
    ap (map (λ (p : PairResult). p.offered)) (c.step_result-result.ensures.per_pair
    ∙ named net failed rates demand c.in_ok-end.end c.new-2.result c.in_ok-per_pair.per_pair.items
    c.in_ok-end.ensures c.new-2.ensures c.in_ok-per_pair.ensures) ∙ offered_are net failed rates demand c.requires.demands

pub returns-clause-pairs_conserved : goal.returns-clause-pairs_conserved
returns-clause-pairs_conserved c =
    let net = c.args.net.now in
    let failed = c.args.failed.now in
    let rates = c.args.rates.now.routes in
    let demand = c.args.matrix.now.demand in
    conserved net failed rates demand c.step_result-result.result.per_pair
    (c.step_result-result.ensures.per_pair ∙ named net failed rates demand c.in_ok-end.end c.new-2.result c.in_ok-per_pair.per_pair.items
    c.in_ok-end.ensures c.new-2.ensures c.in_ok-per_pair.ensures) (can_split net rates c.requires.rates c.args.rates.now.rates)

pub returns-clause-conserved : goal.returns-clause-conserved
returns-clause-conserved c =
    let net = c.args.net.now in
    let failed = c.args.failed.now in
    let rates = c.args.rates.now.routes in
    let demand = c.args.matrix.now.demand in
    total_conserved c.new.result c.new-2.result c.step_result-result.result c.step_result-result.ensures
    (conserved net failed rates demand c.new-2.result
    (named net failed rates demand c.in_ok-end.end c.new-2.result c.in_ok-per_pair.per_pair.items c.in_ok-end.ensures c.new-2.ensures c.in_ok-per_pair.ensures)
    (can_split net rates c.requires.rates c.args.rates.now.rates))
