use Rattle.std.proofs.Common.{◌≡◌, ℕ, ◌+◌, ◌<◌, Bool, List, length, arith, ap, sym, subst, ◌∙◌}
use Rattle.failure.specs.Series.{marks_of}
use Rattle.traffic_matrix.specs.Traffic.{predicted_in, sent_in}
use Rattle.series_simulation.specs.declared.step_row.StepRow.{StepRow}
use Rattle.series_simulation.specs.Rows.{AreStepRows, IsStepRow, step_row_at}
use Rattle.series_simulation.specs.Simulation.{IsConservedStep}
use Rattle.series_simulation.proofs.Marking.{marks_at, marks_count, series_count}
use Rattle.series_simulation.proofs.Rowing.{AreRowsBefore, rows_begin, rows_next, rows_end}
use Rattle.series_simulation.proofs.SeriesLemmas.{series_pairs}
use Rattle.series_simulation.proofs.series_rows.drive.Goals as goal

pub prepare_connected-requires-clause-pairs : goal.prepare_connected-requires-clause-pairs
prepare_connected-requires-clause-pairs g c = series_pairs c.args.net.now c.args.traffic.now.sent c.requires.network c.requires.traffic.sent

pub loop-step-init : goal.loop-step-init
loop-step-init g c =
    subst (AreRowsBefore g.S.Scheme.PATHS (g.S.Scheme.is_plan c.args.scheme.now) (g.S.Scheme.relates c.args.scheme.now) g.S.Note.LowNote.low
    (g.S.Adaptive.path_set_routes c.args.scheme.now) (g.S.Adaptive.adapts c.args.scheme.now) c.args.net.now
    c.args.traffic.now c.args.failures.now c.args.recovery c.in_ok-prepared.prepared.plan 0) (sym c.new-rows.ensures.items)
    (rows_begin g.S.Scheme.PATHS (g.S.Scheme.is_plan c.args.scheme.now) (g.S.Scheme.relates c.args.scheme.now) g.S.Note.LowNote.low
    (g.S.Adaptive.path_set_routes c.args.scheme.now) (g.S.Adaptive.adapts c.args.scheme.now) c.args.net.now
    c.args.traffic.now c.args.failures.now c.args.recovery c.in_ok-prepared.prepared.plan)

pub index-requires : goal.index-requires
index-requires g c =
    omega (
      arith,
      c.loop-step-test.true,
      c.in_ok-marks.marks.ok.0,
      series_count c.args.net.now c.args.failures.now (length c.as_slice-steps.result.now) c.in_ok-marks.marks.items c.in_ok-marks.ensures,
    )

pub step_of-requires-clause-tells : goal.step_of-requires-clause-tells
step_of-requires-clause-tells g c = c.in_ok-prepared.ensures.tells

pub step_of-requires-clause-marks : goal.step_of-requires-clause-marks
step_of-requires-clause-marks g c =
    let net = c.args.net.now in
    let failed : c.as_slice-failed.result.now ≡ marks_of net c.args.failures.now c.loop-step.step =
    c.as_slice-failed.ensures ∙ marks_at net c.args.failures.now (length c.as_slice-steps.result.now) c.loop-step.step c.in_ok-marks.marks.items
    c.index.result.now c.in_ok-marks.ensures c.loop-step-test.true c.index.ensures in
    ap (λ (marks : List Bool). length marks) failed ∙ marks_count net c.args.failures.now c.loop-step.step

pub loop-step-preserved : goal.loop-step-preserved
loop-step-preserved g c =
    let net = c.args.net.now in
    let traffic = c.args.traffic.now in
    let failures = c.args.failures.now in
    let step = c.loop-step.step in
    let rows = c.loop-step.rows.items in
    let row = c.in_ok-simulated.simulated.row in
    let plan = c.in_ok-prepared.prepared.plan in
    let failed : c.as_slice-failed.result.now ≡ marks_of net failures step =
    c.as_slice-failed.ensures ∙ marks_at net failures (length c.as_slice-steps.result.now) step c.in_ok-marks.marks.items
    c.index.result.now c.in_ok-marks.ensures c.loop-step-test.true c.index.ensures in
    subst (AreRowsBefore g.S.Scheme.PATHS (g.S.Scheme.is_plan c.args.scheme.now) (g.S.Scheme.relates c.args.scheme.now) g.S.Note.LowNote.low
    (g.S.Adaptive.path_set_routes c.args.scheme.now) (g.S.Adaptive.adapts c.args.scheme.now) net traffic
    failures c.args.recovery plan (step + 1)) (sym c.in_ok-push.ensures.items)
    (rows_next g.S.Scheme.PATHS (g.S.Scheme.is_plan c.args.scheme.now) (g.S.Scheme.relates c.args.scheme.now) g.S.Note.LowNote.low
    (g.S.Adaptive.path_set_routes c.args.scheme.now) (g.S.Adaptive.adapts c.args.scheme.now) net traffic
    failures c.args.recovery plan step rows row c.loop-step.invariant
    (record {
      step = c.in_ok-simulated.ensures.number;
      row = subst (λ (marks : List Bool). IsStepRow g.S.Scheme.PATHS (g.S.Scheme.is_plan c.args.scheme.now) (g.S.Scheme.relates c.args.scheme.now)
          g.S.Note.LowNote.low
          (g.S.Adaptive.path_set_routes c.args.scheme.now) (g.S.Adaptive.adapts c.args.scheme.now) net marks traffic.sent.pairs.list (predicted_in traffic step) (sent_in traffic step) c.args.recovery plan row) failed (c.in_ok-simulated.simulated.rates.routes, c.in_ok-simulated.ensures.step);
      conserved = c.in_ok-simulated.ensures.conserved;
    }))

pub returns-clause-rows : goal.returns-clause-rows
returns-clause-rows g c =
    let every : c.loop-step.step ≡ length c.args.traffic.now.sent.steps =
    omega (arith, c.loop-step-test.false, c.loop-step.auto.step-end, ap length c.as_slice-steps.ensures)
    in
    subst (AreStepRows g.S.Scheme.PATHS (g.S.Scheme.is_plan c.args.scheme.now) (g.S.Scheme.relates c.args.scheme.now) g.S.Note.LowNote.low
    (g.S.Adaptive.path_set_routes c.args.scheme.now) (g.S.Adaptive.adapts c.args.scheme.now) c.args.net.now c.args.traffic.now
    c.args.failures.now c.args.recovery) (sym c.new.ensures)
    (rows_end g.S.Scheme.PATHS (g.S.Scheme.is_plan c.args.scheme.now) (g.S.Scheme.relates c.args.scheme.now) g.S.Note.LowNote.low
    (g.S.Adaptive.path_set_routes c.args.scheme.now) (g.S.Adaptive.adapts c.args.scheme.now) c.args.net.now c.args.traffic.now
    c.args.failures.now c.args.recovery c.in_ok-prepared.prepared.plan c.loop-step.step c.loop-step.rows.items every c.loop-step.invariant)

pub returns-clause-conserved : goal.returns-clause-conserved
returns-clause-conserved g c =
    let so_far = c.loop-step.invariant in
    subst (λ (rs : List StepRow). (k : ℕ) → k < length rs → IsConservedStep (sent_in c.args.traffic.now k) (step_row_at rs k).result) (sym c.new.ensures)
    (λ k below. (so_far.each k (omega (arith, below, so_far.count))).conserved)
