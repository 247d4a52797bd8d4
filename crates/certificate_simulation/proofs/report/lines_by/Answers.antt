use Rattle.std.proofs.Common.{◌≡◌, ℕ, ◌≤◌, ◌*◌, ◌^◌, ◌∙◌, Bool, List, [], ◌∷◌, ◌++◌, length, ap, sym, subst, arith, refl}
use Rattle.std.specs.Prelude.{codes}
use Rattle.traffic_matrix.specs.Traffic.{demands_in, known_traffic}
use Rattle.series_simulation.specs.KeptRouting.{IsKept, IsKeptRow, IsNeverAdapted, IsNoPlan, no_bound, no_path_set, without_rerouting}
use Rattle.series_simulation.proofs.Marking.{marks_count, series_count}
use Rattle.series_simulation.proofs.Rowing.{rows_begin, rows_next, rows_end}
use Rattle.experiment.specs.Text.{AmountsAtMost, figures_of}
use Rattle.experiment.proofs.SchemeLines.{lines_end, lines_next, total_next}
use Rattle.certificate_simulation.proofs.ReportLines.{at_most_more, lent_marks}
use Rattle.certificate_simulation.proofs.report.lines_by.Goals as goal

pub loop-step-init : goal.loop-step-init
loop-step-init c = record {
  written = (
    [],
    rows_begin 4096 IsNoPlan (IsKept c.args.routing.now.routes) no_bound no_path_set IsNeverAdapted c.args.network.now (known_traffic c.args.whole.now) c.args.failures.now
        (without_rerouting c.args.recovery) tt,
    c.new-text.ensures.items,
    c.none-total.ensures,
  );
  small = subst (AmountsAtMost 0) (sym c.none-total.ensures)
      (record { offered = omega arith; delivered = omega arith; lost_full = omega arith; lost_failed = omega arith; lost_no_path = omega arith });
}

pub index-requires : goal.index-requires
index-requires c =
    omega (
      arith,
      c.loop-step-test.true,
      c.in_ok-marks.marks.ok.0,
      series_count c.args.network.now c.args.failures.now (length c.as_slice-steps.result.now) c.in_ok-marks.marks.items c.in_ok-marks.ensures,
    )

pub kept_row-requires-clause-marks : goal.kept_row-requires-clause-marks
kept_row-requires-clause-marks c =
    let net = c.args.network.now in
    let failures = c.args.failures.now in
    let step = c.loop-step.step in
    let failed = lent_marks net failures (length c.as_slice-steps.result.now) step c.in_ok-marks.marks.items c.index.result.now c.as_slice-failed.result.now
    c.as_slice-failed.ensures c.in_ok-marks.ensures c.loop-step-test.true c.index.ensures in
    ap (λ (marks : List Bool). length marks) failed ∙ marks_count net failures step

pub add_row-requires : goal.add_row-requires
add_row-requires c =
    let few : c.loop-step.step ≤ 1024 = omega (arith, c.loop-step-test.true, ap length c.as_slice-steps.ensures, c.requires.whole.few) in
    record { room = at_most_more (c.loop-step.step * 2 ^ 64) (2 ^ 127) c.loop-step.total (omega (arith, few)) c.loop-step.invariant.small }

pub loop-step-preserved : goal.loop-step-preserved
loop-step-preserved c =
    let net = c.args.network.now in
    let series = c.args.whole.now in
    let routes = c.args.routing.now.routes in
    let failures = c.args.failures.now in
    let step = c.loop-step.step in
    let row = c.in_ok-row.row in
    let so_far = c.loop-step.invariant in
    let rows = so_far.written.0 in
    let failed = lent_marks net failures (length c.as_slice-steps.result.now) step c.in_ok-marks.marks.items c.index.result.now c.as_slice-failed.result.now
    c.as_slice-failed.ensures c.in_ok-marks.ensures c.loop-step-test.true c.index.ensures in
    record {
      written = (
        rows ++ row ∷ [],
        rows_next 4096 IsNoPlan (IsKept routes) no_bound no_path_set IsNeverAdapted net (known_traffic series) failures (without_rerouting c.args.recovery) tt step rows row so_far.written.1
            (record {
              step = c.in_ok-row.ensures.number;
              row = subst (λ (marks : List Bool). IsKeptRow routes net marks series.pairs.list (demands_in series step) c.args.recovery row) failed c.in_ok-row.ensures.row;
              conserved = c.in_ok-row.ensures.conserved;
            }),
        lines_next (codes "certificate") c.loop-step.text.items c.add_row.new.text.items rows row so_far.written.2 c.in_ok-add_row.ensures.line,
        total_next c.loop-step.total (figures_of row) c.add_row.new.total rows row so_far.written.3 refl c.in_ok-add_row.ensures.total,
      );
      small = subst (λ (n : ℕ). AmountsAtMost n c.add_row.new.total) (omega arith) (c.in_ok-add_row.ensures.small (step * 2 ^ 64) so_far.small);
    }

pub returns : goal.returns
returns c =
    let so_far = c.loop-step.invariant in
    let rows = so_far.written.0 in
    let every : c.loop-step.step ≡ length c.args.whole.now.steps =
    omega (arith, c.loop-step-test.false, c.loop-step.auto.step-end, ap length c.as_slice-steps.ensures)
    in (
      rows,
      rows_end 4096 IsNoPlan (IsKept c.args.routing.now.routes) no_bound no_path_set IsNeverAdapted c.args.network.now (known_traffic c.args.whole.now) c.args.failures.now
          (without_rerouting c.args.recovery) tt c.loop-step.step rows every so_far.written.1,
      lines_end (codes "certificate") c.loop-step.text.items c.print_total.new.text.items c.loop-step.total rows so_far.written.2 so_far.written.3
          c.in_ok-print_total.ensures,
    )
