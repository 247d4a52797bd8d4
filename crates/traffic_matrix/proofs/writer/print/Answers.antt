use Rattle.std.proofs.Common.{ℕ, List, ◌≡◌, ◌∙◌, ◌++◌, ap, length, codes, get_or, arith}
use Rattle.std.specs.List.{flat_map, range_with_len}
use Rattle.std.proofs.lemmas.List.{get_or_default}
use Rattle.te_model.specs.declared.demand.Matrix.{Matrix}
use Rattle.traffic_matrix.specs.Text.{step_text, series_text, no_matrix}
use Rattle.traffic_matrix.proofs.TextLemmas.{step-more}
use Rattle.traffic_matrix.proofs.ReadBack.{reads-back}
use Rattle.traffic_matrix.proofs.writer.print.Goals as goal

pub loop-step-preserved : goal.loop-step-preserved
loop-step-preserved c =
    let series = c.args.series.now in
    let k = c.loop-step.step in
    let matrix = get_or_default c.as_slice-steps.result.now k c.index-steps-step.result no_matrix c.loop-step-test.true ∙ ap (λ (xs : List Matrix). get_or xs k no_matrix) c.as_slice-steps.ensures in
    step-more (codes "step,source,target,demand\n") c.loop-step.text.items c.print_step.new.text.items c.as_slice.result.now c.as_slice-names.result.now c.args.net.now.names
    c.as_slice-pairs.result.now series.pairs.list series.steps k c.in_ok-print_step.ensures c.loop-step.invariant c.as_slice-names.ensures c.as_slice-pairs.ensures
    (c.as_slice.ensures ∙ ap (λ (m : Matrix). m.demand) matrix)

pub returns-clause-reads_back : goal.returns-clause-reads_back
returns-clause-reads_back c = λ some pair.
    let net = c.args.net.now in
    let series = c.args.series.now in
    let count : length c.as_slice-steps.result.now ≡ length series.steps = ap length c.as_slice-steps.ensures in
    let past = c.loop-step-test.false in
    let total : c.loop-step.step ≡ length series.steps = omega arith in
    let is : c.loop-step.text.items ≡ series_text net series =
    c.loop-step.invariant ∙ ap (λ (k : ℕ). codes "step,source,target,demand\n" ++ flat_map (step_text net.names series.pairs.list series.steps) (range_with_len 0 k)) total in
    rw is (reads-back net series c.requires.network c.requires.series some pair)
