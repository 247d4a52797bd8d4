-- The columns of a step's lines give its row, which stands in a report.
use Rattle.std.proofs.Common.{◌∙◌, length, ap, sym}
use Rattle.std.proofs.lemmas.List.FromFn.{length-map-range_with_len}
use Rattle.failure.specs.Series.{marks_of}
use Rattle.flow_sim.specs.Result.{pair_result}
use Rattle.flow_sim.proofs.AskedLaws.{asked_near_load}
use Rattle.traffic_matrix.specs.Traffic.{sent_in}
use Rattle.series_simulation.proofs.Standing.{steps_stand_in_rows}
use Rattle.experiment.specs.Schemes.{meaning_of}
use Rattle.experiment.proofs.SchemePlans.{name_routings}
use Rattle.step_detail.specs.Laws.{StepsAgreeWithRows, StepsStandInReports}

pub agree : StepsAgreeWithRows
agree name plan net traffic failures k range formed is below step at =
    let of = at.is_step.simulated in
    let failed = marks_of net failures k in
    let demand = sent_in traffic k in
    record {
      pairs = of.spread.pairs_are;
      results = ap length of.per_pair ∙ length-map-range_with_len (pair_result net failed step.rates.routes demand) 0 (length step.rates.routes);
      offered = sym of.totals.offered;
      delivered = sym of.totals.delivered;
      lost_full = sym of.totals.lost_full;
      lost_failed = sym of.totals.lost_failed;
      lost_no_path = sym of.totals.lost_no_path;
      peak = sym at.is_step.peak_is;
      asked = asked_near_load step.rates.routes demand step.rates.rates;
    }

pub stand : StepsStandInReports
stand name plan net traffic failures k range formed is below step at =
    let scheme = meaning_of name plan in
    let can = name_routings plan range name in
    steps_stand_in_rows scheme.limit scheme.is_plan scheme.relates scheme.low scheme.path_set scheme.adapts can.plans can.routings can.adaptations can.few net formed traffic is failures
    plan.recovery k below
    step at
