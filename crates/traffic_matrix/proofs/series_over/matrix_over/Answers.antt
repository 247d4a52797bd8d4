use Rattle.std.proofs.Common.{◌≡◌, ◌<◌, ◌≤◌, List, ℕ, length, get_or, map, ap, sym, subst, ◌∙◌, arith}
use Rattle.te_model.specs.declared.demand.Matrix.{Matrix}
use Rattle.te_model.specs.declared.route.Pair.{Pair}
use Rattle.traffic_matrix.specs.Traffic.{demand_for, matrix_over}
use Rattle.traffic_matrix.proofs.PairDemands.{matrix-none, matrix-there}
use Rattle.traffic_matrix.proofs.series_over.matrix_over.Goals as goal
use Rattle.traffic_matrix.proofs.series_over.matrix_over.Goals.{then-step-steps+in_ok-demand, else-step-steps+in_ok-demand-2}

pub returns : goal.returns
returns c =
    let pairs = c.args.pairs.now in
    let series = c.args.series.now in
    let step = c.args.step in
    let count : length c.as_slice-steps.result.now ≡ length series.steps = ap length c.as_slice-steps.ensures in
    let demand : c.if-step-steps.demand.items ≡ (matrix_over pairs series step).demand =
    elim c.if-step-steps.branch [
      | then-step-steps+in_ok-demand w ↦
          let read = w.index-steps-step.result in
          let m = get_or c.as_slice-steps.result.now step read in
          rw w.demand-is
          (matrix-there pairs series step m read w.in_ok-demand.demand.items (omega (arith, w.if-step-steps.true, count))
          (ap (λ (ms : List Matrix). get_or ms step read) c.as_slice-steps.ensures)
          (w.in_ok-demand.ensures
          ∙ (ap (λ (os : List Pair). map (demand_for os w.as_slice.result.now) pairs) c.as_slice-own.ensures
          ∙ ap (λ (ds : List ℕ). map (demand_for series.pairs.list ds) pairs) w.as_slice.ensures)))
      | else-step-steps+in_ok-demand-2 w ↦
          rw w.demand-is
          (matrix-none pairs series step w.in_ok-demand-2.demand.items (omega (arith, w.if-step-steps.false, count))
          (w.in_ok-demand-2.ensures.items_if_clones_equal (λ y same. same)))
    ]
    in
    ap (λ (ds : List ℕ). let m : Matrix = record { demand = ds } in m) (c.new.ensures ∙ demand)
