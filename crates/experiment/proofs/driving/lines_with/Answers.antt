use Rattle.std.proofs.Common.{◌≡◌, ℕ, ◌≤◌, ◌*◌, ◌^◌, ◌∙◌, All, Bool, List, [], ◌∷◌, ◌++◌, length, ap, sym, subst, arith, refl}
use Rattle.std.specs.Option.{IfSome}
use Rattle.te_model.specs.Network.{link_count}
use Rattle.failure.specs.Series.{marks_of_steps}
use Rattle.series_simulation.specs.declared.step_row.StepRow.{StepRow}
use Rattle.series_simulation.specs.Repeated.{IsRowIn}
use Rattle.series_simulation.specs.SurvivorPreparation.{AreKept}
use Rattle.series_simulation.proofs.KeptPreparations.{none_kept}
use Rattle.series_simulation.proofs.Marking.{marks_sized, series_count}
use Rattle.series_simulation.proofs.Repeating.{row_at}
use Rattle.series_simulation.proofs.Rowing.{rows_begin, rows_next, rows_end}
use Rattle.experiment.specs.Text.{AmountsAtMost, figures_of}
use Rattle.experiment.proofs.SchemeLines.{lines_end, lines_next, total_next}
use Rattle.experiment.proofs.driving.lines_with.Goals as goal

pub loop-step-init : goal.loop-step-init
loop-step-init g c = record {
  written = (
    [],
    rows_begin g.S.Scheme.PATHS (g.S.Scheme.is_plan c.args.scheme.now) (g.S.Scheme.relates c.args.scheme.now) g.S.Note.LowNote.low
        (g.S.Adaptive.path_set_routes c.args.scheme.now) (g.S.Adaptive.adapts c.args.scheme.now)
        c.args.input.now.network.now c.args.input.now.traffic.now c.args.input.now.failures.now c.args.input.now.plan.now.recovery c.args.prepared.now.plan,
    c.new-text.ensures.items,
    c.none-total.ensures,
  );
  small = subst (AmountsAtMost 0) (sym c.none-total.ensures)
      (record { offered = omega arith; delivered = omega arith; lost_full = omega arith; lost_failed = omega arith; lost_no_path = omega arith });
  last = tt;
  kept = subst (AreKept (g.S.Scheme.is_plan c.args.scheme.now) c.args.input.now.network.now c.args.input.now.traffic.now.sent.pairs.list) (sym c.new-kept.ensures.items)
      (none_kept (g.S.Scheme.is_plan c.args.scheme.now) c.args.input.now.network.now c.args.input.now.traffic.now.sent.pairs.list);
}

pub row_after-requires-clause-count : goal.row_after-requires-clause-count
row_after-requires-clause-count g c =
    omega (
      arith,
      ap length c.as_slice-steps.ensures,
      ap length c.as_slice.ensures.value,
      series_count c.args.input.now.network.now c.args.input.now.failures.now (length c.as_slice-steps.result.now) c.in_ok-marks.marks.items c.in_ok-marks.ensures,
    )

pub row_after-requires-clause-marks : goal.row_after-requires-clause-marks
row_after-requires-clause-marks g c =
    let net = c.args.input.now.network.now in
    subst (λ (series : List (List Bool)). All (λ m. length m ≡ link_count net) series) (sym c.as_slice.ensures.value)
    (marks_sized net c.args.input.now.failures.now (length c.as_slice-steps.result.now) c.in_ok-marks.marks.items c.in_ok-marks.ensures)

pub row_after-requires-clause-last : goal.row_after-requires-clause-last
row_after-requires-clause-last g c =
    let input = c.args.input.now in
    let is : List (List Bool) → StepRow → Type 0 = λ marks row. IsRowIn g.S.Scheme.PATHS (g.S.Scheme.is_plan c.args.scheme.now)
    (g.S.Scheme.relates c.args.scheme.now) g.S.Note.LowNote.low (g.S.Adaptive.path_set_routes c.args.scheme.now) (g.S.Adaptive.adapts c.args.scheme.now)
    input.network.now marks input.traffic.now input.plan.now.recovery c.args.prepared.now.plan row in
    subst (λ (marks : List (List Bool)). IfSome c.take.result (is marks)) (sym c.as_slice.ensures.value)
    (subst (λ o. IfSome o (is c.in_ok-marks.marks.items)) (sym c.take.ensures.value) c.loop-step.invariant.last)

pub row_after-requires-clause-kept : goal.row_after-requires-clause-kept
row_after-requires-clause-kept g c = c.loop-step.invariant.kept

pub row_after-requires-clause-network : goal.row_after-requires-clause-network
row_after-requires-clause-network g c = c.requires.input.network

pub row_after-requires-clause-traffic : goal.row_after-requires-clause-traffic
row_after-requires-clause-traffic g c = c.requires.input.traffic

pub add_row-requires : goal.add_row-requires
add_row-requires g c =
    let few : c.loop-step.step ≤ 1024 = omega (arith, c.loop-step-test.true, ap length c.as_slice-steps.ensures, c.requires.input.traffic.sent.few) in
    let small = c.loop-step.invariant.small in
    record {
      room = record {
        offered = omega (arith, few, small.offered);
        delivered = omega (arith, few, small.delivered);
        lost_full = omega (arith, few, small.lost_full);
        lost_failed = omega (arith, few, small.lost_failed);
        lost_no_path = omega (arith, few, small.lost_no_path);
      };
    }

pub loop-step-preserved : goal.loop-step-preserved
loop-step-preserved g c =
    let net = c.args.input.now.network.now in
    let traffic = c.args.input.now.traffic.now in
    let failures = c.args.input.now.failures.now in
    let plan = c.args.prepared.now.plan in
    let step = c.loop-step.step in
    let row = c.in_ok-row.row in
    let so_far = c.loop-step.invariant in
    let rows = so_far.written.0 in
    let count = ap length c.as_slice-steps.ensures in
    let all = c.in_ok-marks.ensures ∙ ap (marks_of_steps net failures) count in
    let here = subst (λ (marks : List (List Bool)). IsRowIn g.S.Scheme.PATHS (g.S.Scheme.is_plan c.args.scheme.now) (g.S.Scheme.relates c.args.scheme.now)
    g.S.Note.LowNote.low (g.S.Adaptive.path_set_routes c.args.scheme.now) (g.S.Adaptive.adapts c.args.scheme.now) net marks traffic c.args.input.now.plan.now.recovery plan row)
    c.as_slice.ensures.value c.in_ok-row.ensures.row in
    record {
      written = (
        rows ++ row ∷ [],
        rows_next g.S.Scheme.PATHS (g.S.Scheme.is_plan c.args.scheme.now) (g.S.Scheme.relates c.args.scheme.now) g.S.Note.LowNote.low
            (g.S.Adaptive.path_set_routes c.args.scheme.now) (g.S.Adaptive.adapts c.args.scheme.now)
            net traffic failures c.args.input.now.plan.now.recovery plan step rows row so_far.written.1
            (row_at g.S.Scheme.PATHS (g.S.Scheme.is_plan c.args.scheme.now) (g.S.Scheme.relates c.args.scheme.now) g.S.Note.LowNote.low
            (g.S.Adaptive.path_set_routes c.args.scheme.now) (g.S.Adaptive.adapts c.args.scheme.now)
            net traffic failures c.args.input.now.plan.now.recovery plan c.in_ok-marks.marks.items row step c.in_ok-row.ensures.step all here),
        lines_next c.args.word.now c.loop-step.text.items c.add_row.new.text.items rows row so_far.written.2 c.in_ok-add_row.ensures.line,
        total_next c.loop-step.total (figures_of row) c.add_row.new.total rows row so_far.written.3 refl c.in_ok-add_row.ensures.total,
      );
      small = subst (λ (n : ℕ). AmountsAtMost n c.add_row.new.total) (omega arith) (c.in_ok-add_row.ensures.small (step * 2 ^ 64) so_far.small);
      last = here;
      kept = c.in_ok-row.ensures.kept;
    }

pub returns : goal.returns
returns g c =
    let so_far = c.loop-step.invariant in
    let rows = so_far.written.0 in
    let every : c.loop-step.step ≡ length c.args.input.now.traffic.now.sent.steps =
    omega (arith, c.loop-step-test.false, c.loop-step.auto.step-end, ap length c.as_slice-steps.ensures)
    in (
      rows,
      rows_end g.S.Scheme.PATHS (g.S.Scheme.is_plan c.args.scheme.now) (g.S.Scheme.relates c.args.scheme.now) g.S.Note.LowNote.low
          (g.S.Adaptive.path_set_routes c.args.scheme.now) (g.S.Adaptive.adapts c.args.scheme.now)
          c.args.input.now.network.now c.args.input.now.traffic.now c.args.input.now.failures.now c.args.input.now.plan.now.recovery c.args.prepared.now.plan c.loop-step.step rows every
          so_far.written.1,
      lines_end c.args.word.now c.loop-step.text.items c.print_total.new.text.items c.loop-step.total rows so_far.written.2 so_far.written.3
          c.in_ok-print_total.ensures,
    )
