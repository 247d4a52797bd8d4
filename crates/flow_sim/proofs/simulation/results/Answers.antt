use Rattle.std.proofs.Common.{◌≡◌, ℕ, List, map, length, ap, ◌∙◌}
use Rattle.std.specs.List.{range_with_len}
use Rattle.std.proofs.lemmas.List.FromFn.{length-map-range_with_len}
use Rattle.te_model.specs.declared.route.PairRoutes.{PairRoutes}
use Rattle.flow_sim.specs.Tables.{total_at}
use Rattle.flow_sim.specs.Traffic.{flow_pairs}
use Rattle.flow_sim.proofs.ResultLaws.{totals_are, results_read}
use Rattle.flow_sim.proofs.simulation.results.Goals as goal

-- as many totals as pairs
totals_length : (rates : List PairRoutes) (table totals : List ℕ) →
    totals ≡ map (total_at (flow_pairs rates) table) (range_with_len 0 (length rates)) → length totals ≡ length rates
totals_length rates table totals made = ap length made ∙ length-map-range_with_len (total_at (flow_pairs rates) table) 0 (length rates)

pub per_pair-requires : goal.per_pair-requires
per_pair-requires c =
    let rates = c.args.rates.now in
    let keys = c.in_ok-keys.keys.items in
    record {
      lengths = (
        c.requires.demands,
        totals_length rates c.args.end.now.units.items c.as_slice-7.result.now
            (totals_are rates c.as_slice-count.result.now keys c.as_slice.result.now c.args.end.now.units.items c.as_slice-2.result.now
            c.in_ok-delivered.delivered.items c.as_slice-7.result.now c.as_slice-count.ensures c.as_slice.ensures.value c.in_ok-keys.ensures
            c.as_slice-2.ensures.value c.as_slice-7.ensures.value c.in_ok-delivered.ensures),
        totals_length rates c.args.end.now.lost_full.items c.as_slice-8.result.now
            (totals_are rates c.as_slice-count.result.now keys c.as_slice-3.result.now c.args.end.now.lost_full.items c.as_slice-4.result.now
            c.in_ok-lost_full.lost_full.items c.as_slice-8.result.now c.as_slice-count.ensures c.as_slice-3.ensures.value c.in_ok-keys.ensures
            c.as_slice-4.ensures.value c.as_slice-8.ensures.value c.in_ok-lost_full.ensures),
        totals_length rates c.args.end.now.lost_failed.items c.as_slice-9.result.now
            (totals_are rates c.as_slice-count.result.now keys c.as_slice-5.result.now c.args.end.now.lost_failed.items c.as_slice-6.result.now
            c.in_ok-lost_failed.lost_failed.items c.as_slice-9.result.now c.as_slice-count.ensures c.as_slice-5.ensures.value c.in_ok-keys.ensures
            c.as_slice-6.ensures.value c.as_slice-9.ensures.value c.in_ok-lost_failed.ensures),
      );
    }

pub returns : goal.returns
returns c =
    let rates = c.args.rates.now in
    let keys = c.in_ok-keys.keys.items in
    let of_pairs = flow_pairs rates in
    c.in_ok-list.ensures
    ∙ results_read rates c.args.matrix.now.demand c.as_slice-7.result.now c.as_slice-8.result.now c.as_slice-9.result.now
    (total_at of_pairs c.args.end.now.units.items) (total_at of_pairs c.args.end.now.lost_full.items) (total_at of_pairs c.args.end.now.lost_failed.items)
    (totals_are rates c.as_slice-count.result.now keys c.as_slice.result.now c.args.end.now.units.items c.as_slice-2.result.now
    c.in_ok-delivered.delivered.items c.as_slice-7.result.now c.as_slice-count.ensures c.as_slice.ensures.value c.in_ok-keys.ensures
    c.as_slice-2.ensures.value c.as_slice-7.ensures.value c.in_ok-delivered.ensures)
    (totals_are rates c.as_slice-count.result.now keys c.as_slice-3.result.now c.args.end.now.lost_full.items c.as_slice-4.result.now
    c.in_ok-lost_full.lost_full.items c.as_slice-8.result.now c.as_slice-count.ensures c.as_slice-3.ensures.value c.in_ok-keys.ensures
    c.as_slice-4.ensures.value c.as_slice-8.ensures.value c.in_ok-lost_full.ensures)
    (totals_are rates c.as_slice-count.result.now keys c.as_slice-5.result.now c.args.end.now.lost_failed.items c.as_slice-6.result.now
    c.in_ok-lost_failed.lost_failed.items c.as_slice-9.result.now c.as_slice-count.ensures c.as_slice-5.ensures.value c.in_ok-keys.ensures
    c.as_slice-6.ensures.value c.as_slice-9.ensures.value c.in_ok-lost_failed.ensures)
