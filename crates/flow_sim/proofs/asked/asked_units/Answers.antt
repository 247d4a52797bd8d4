use Rattle.std.proofs.Common.{◌≡◌, ◌<◌, ℕ, List, All, true, length, slice_index, arith, ap, sym, subst, ◌∙◌}
use Rattle.std.proofs.lemmas.List.FromFn.{fill_by_all, length-map-range_with_len}
use Rattle.te_model.specs.declared.network.Link.{Link}
use Rattle.te_model.specs.declared.route.PairRoutes.{PairRoutes}
use Rattle.te_model.specs.declared.route.PathShare.{PathShare}
use Rattle.te_model.specs.Network.{link_count}
use Rattle.te_model.specs.Path.{is_distinct}
use Rattle.te_model.proofs.Lists.{written_whole}
use Rattle.te_model.proofs.LentRoutes.{below_pairs, lent_paths}
use Rattle.flow_sim.specs.Asked.{asked_units_on}
use Rattle.flow_sim.specs.Traffic.{paths_of}
use Rattle.flow_sim.proofs.AskedLaws.{asked_done, asked_next, asked_none, asked_room, flows_more, flows_none, lent_within, links_distinct}
use Rattle.flow_sim.proofs.RatesLaws.{can_split, few_pairs, links_stand}
use Rattle.flow_sim.proofs.StartLaws.{starts_fit}
use Rattle.flow_sim.proofs.TableLaws.{zero_read}
use Rattle.flow_sim.proofs.asked.asked_units.Goals as goal

pub starts-requires-clause-paths : goal.starts-requires-clause-paths
starts-requires-clause-paths c = can_split c.args.net.now c.args.rates.now.routes c.requires.rates c.args.rates.now.rates

pub loop-p-init : goal.loop-p-init
loop-p-init c =
    let rates = c.args.rates.now.routes in
    let count = length c.as_slice-count.result.now in
    let made = c.in_ok-asked.ensures in
    record {
      first = flows_none rates;
      count = ap length made ∙ (length-map-range_with_len (λ i. 0) 0 count ∙ ap (λ (ls : List Link). length ls) c.as_slice-count.ensures);
      asked = λ e. zero_read count e c.in_ok-asked.asked.items made ∙ sym (asked_none rates c.in_ok-units.units.items e);
    }

pub add_flows-requires-clause-flows : goal.add_flows-requires-clause-flows
add_flows-requires-clause-flows c =
    let within = lent_within c.args.rates.now.routes c.as_slice-routes.result.now c.args.matrix.now.demand c.loop-p.p c.loop-p.first c.index-routes-p.result
    c.as_slice-paths.result.now c.as_slice-routes.ensures c.loop-p-test.true c.as_slice-paths.ensures c.loop-p.invariant.first in
    omega (arith, within, ap (λ (l : List ℕ). length l) c.as_slice.ensures.value, ap (λ (l : List ℕ). length l) c.in_ok-units.ensures)

pub overflow_add-first : goal.overflow_add-first
overflow_add-first c =
    let within = lent_within c.args.rates.now.routes c.as_slice-routes.result.now c.args.matrix.now.demand c.loop-p.p c.loop-p.first c.index-routes-p.result
    c.as_slice-paths.result.now c.as_slice-routes.ensures c.loop-p-test.true c.as_slice-paths.ensures c.loop-p.invariant.first in
    omega (arith, within, ap (λ (l : List ℕ). length l) c.in_ok-units.ensures, c.in_ok-units.units.ok.0)

pub add_flows-requires-clause-links : goal.add_flows-requires-clause-links
add_flows-requires-clause-links c =
    let net = c.args.net.now in
    let rates = c.args.rates.now.routes in
    let p = c.loop-p.p in
    let inside = below_pairs rates c.as_slice-routes.result.now p c.as_slice-routes.ensures c.loop-p-test.true in
    let paths : c.as_slice-paths.result.now ≡ paths_of rates p =
    lent_paths rates c.as_slice-routes.result.now p c.index-routes-p.result c.as_slice-paths.result.now c.as_slice-routes.ensures c.loop-p-test.true c.as_slice-paths.ensures
    in
    let size : link_count net ≡ length c.deref_mut.result.now = sym (ap (λ (l : List ℕ). length l) c.deref_mut.ensures.value ∙ c.loop-p.invariant.count) in
    subst (λ (ss : List PathShare). All (λ (s : PathShare). All (λ e. e < length c.deref_mut.result.now) s.links) ss) (sym paths)
    (subst (λ n. All (λ (s : PathShare). All (λ e. e < n) s.links) (paths_of rates p)) size (links_stand net rates c.requires.rates p inside))

pub add_flows-requires-clause-distinct : goal.add_flows-requires-clause-distinct
add_flows-requires-clause-distinct c =
    let net = c.args.net.now in
    let rates = c.args.rates.now.routes in
    let p = c.loop-p.p in
    let inside = below_pairs rates c.as_slice-routes.result.now p c.as_slice-routes.ensures c.loop-p-test.true in
    let paths : c.as_slice-paths.result.now ≡ paths_of rates p =
    lent_paths rates c.as_slice-routes.result.now p c.index-routes-p.result c.as_slice-paths.result.now c.as_slice-routes.ensures c.loop-p-test.true c.as_slice-paths.ensures
    in
    subst (λ (ss : List PathShare). All (λ (s : PathShare). is_distinct s.links ≡ true) ss) (sym paths) (links_distinct net rates c.requires.rates p inside)

pub add_flows-requires-clause-room : goal.add_flows-requires-clause-room
add_flows-requires-clause-room c = λ e.
    let net = c.args.net.now in
    let rates = c.args.rates.now.routes in
    let demand = c.args.matrix.now.demand in
    let p = c.loop-p.p in
    let inside = below_pairs rates c.as_slice-routes.result.now p c.as_slice-routes.ensures c.loop-p-test.true in
    let paths : c.as_slice-paths.result.now ≡ paths_of rates p =
    lent_paths rates c.as_slice-routes.result.now p c.index-routes-p.result c.as_slice-paths.result.now c.as_slice-routes.ensures c.loop-p-test.true c.as_slice-paths.ensures
    in
    asked_room rates demand c.in_ok-units.units.items c.as_slice.result.now c.deref_mut.result.now c.as_slice-paths.result.now c.loop-p.first p e paths
    c.as_slice.ensures.value c.in_ok-units.ensures c.loop-p.invariant.first
    (ap (λ (l : List ℕ). slice_index l e) c.deref_mut.ensures.value ∙ c.loop-p.invariant.asked e) inside
    (starts_fit rates demand (few_pairs net rates c.requires.network c.requires.rates) c.requires.demands c.requires.small
    (can_split net rates c.requires.rates c.args.rates.now.rates))

pub loop-p-preserved : goal.loop-p-preserved
loop-p-preserved c =
    let rates = c.args.rates.now.routes in
    let units = c.in_ok-units.units.items in
    let p = c.loop-p.p in
    let inside = below_pairs rates c.as_slice-routes.result.now p c.as_slice-routes.ensures c.loop-p-test.true in
    let paths : c.as_slice-paths.result.now ≡ paths_of rates p =
    lent_paths rates c.as_slice-routes.result.now p c.index-routes-p.result c.as_slice-paths.result.now c.as_slice-routes.ensures c.loop-p-test.true c.as_slice-paths.ensures
    in
    let old = c.loop-p.asked.items in
    let new = c.add_flows.new.asked in
    let lent : c.deref_mut.result.now ≡ old = c.deref_mut.ensures.value in
    let kept : length new ≡ length old = c.add_flows.auto.asked ∙ ap (λ (l : List ℕ). length l) lent in
    rw (written_whole c.loop-p.asked.len new old kept c.loop-p.asked.ok.0) (record {
      first = omega (arith, c.loop-p.invariant.first, ap (λ (ss : List PathShare). length ss) paths, flows_more rates p);
      count = kept ∙ c.loop-p.invariant.count;
      asked = λ e.
          asked_next rates units c.as_slice.result.now c.deref_mut.result.now new c.as_slice-paths.result.now c.loop-p.first p e paths
          c.as_slice.ensures.value c.loop-p.invariant.first (ap (λ (l : List ℕ). slice_index l e) lent ∙ c.loop-p.invariant.asked e) inside
          (c.add_flows.ensures e);
    })

pub returns : goal.returns
returns c =
    let net = c.args.net.now in
    let rates = c.args.rates.now.routes in
    let demand = c.args.matrix.now.demand in
    let done : c.loop-p.p ≡ length rates =
    omega (arith, c.loop-p-test.false, c.loop-p.auto.p-end, ap (λ (l : List PairRoutes). length l) c.as_slice-routes.ensures)
    in
    c.new.ensures
    ∙ fill_by_all (asked_units_on rates demand) c.loop-p.asked.items (link_count net) 0 c.loop-p.invariant.count
    (λ k below. c.loop-p.invariant.asked k ∙ asked_done rates demand c.in_ok-units.units.items k c.loop-p.p c.in_ok-units.ensures done)
