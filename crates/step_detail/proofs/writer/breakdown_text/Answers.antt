use Rattle.std.proofs.Common.{◌≡◌, ◌∙◌, ◌<◌, Bool, ℕ, List, [], ◌∷◌, ◌++◌, Option, arith, refl, ap, sym, subst, get_or, take, length}
use Rattle.std.proofs.lemmas.List.{take_all, take_more}
use Rattle.te_model.specs.declared.route.Pair.{Pair}
use Rattle.te_model.specs.Pairs.{AreDemands}
use Rattle.failure.specs.Series.{marks_of}
use Rattle.plan.specs.declared.scheme_name.SchemeName.{SchemeName}
use Rattle.plan.specs.declared.scheme_name.SchemeName.TheVariants.{Spf}
use Rattle.series_simulation.proofs.Marking.{marks_count}
use Rattle.step_detail.specs.Pairs.{AreLeastCosts}
use Rattle.step_detail.proofs.Steps.{AreLinesOf, lines_none, lines_of_scheme_more, step_fits}
use Rattle.step_detail.proofs.writer.breakdown_text.Goals as goal

pub matrix_of-matrix-requires-clause-demands : goal.matrix_of-matrix-requires-clause-demands
matrix_of-matrix-requires-clause-demands c = c.requires.traffic.sent.matrices

pub loop-name-init : goal.loop-name-init
loop-name-init c =
    lines_none c.args.breakdown c.args.plan.now c.args.network.now c.args.traffic.now c.args.failures.now c.args.step c.as_slice-costs.result.now
    c.in_ok-text.text.items (c.in_ok-text.ensures.items ∙ (c.as_bytes.ensures.value ∙ c.header-header.ensures))

pub add_lines-requires-clause-marks : goal.add_lines-requires-clause-marks
add_lines-requires-clause-marks c =
    let net = c.args.network.now in
    let failed : c.as_slice-marks.result.now ≡ marks_of net c.args.failures.now c.args.step = c.as_slice-marks.ensures.value ∙ c.in_ok-failed.ensures in
    ap (λ (marks : List Bool). length marks) failed ∙ marks_count net c.args.failures.now c.args.step

pub add_lines-requires-clause-rates : goal.add_lines-requires-clause-rates
add_lines-requires-clause-rates c = c.in_ok-simulated.ensures.rates

pub add_lines-requires-clause-carried : goal.add_lines-requires-clause-carried
add_lines-requires-clause-carried c =
    (step_fits (get_or c.as_slice-name-items.result.now c.loop-name.name-index Spf) c.args.plan.now c.args.network.now c.args.traffic.now c.args.failures.now c.args.step
    c.in_ok-simulated.simulated c.in_ok-simulated.ensures.step).carried

pub add_lines-requires-clause-results : goal.add_lines-requires-clause-results
add_lines-requires-clause-results c =
    (step_fits (get_or c.as_slice-name-items.result.now c.loop-name.name-index Spf) c.args.plan.now c.args.network.now c.args.traffic.now c.args.failures.now c.args.step
    c.in_ok-simulated.simulated c.in_ok-simulated.ensures.step).results

pub add_lines-requires-clause-demands : goal.add_lines-requires-clause-demands
add_lines-requires-clause-demands c =
    let fits = step_fits (get_or c.as_slice-name-items.result.now c.loop-name.name-index Spf) c.args.plan.now c.args.network.now c.args.traffic.now c.args.failures.now
    c.args.step c.in_ok-simulated.simulated c.in_ok-simulated.ensures.step in
    subst (λ n. AreDemands n c.matrix_of-matrix.result.now.demand) (sym fits.pairs) c.matrix_of-matrix.ensures.demands

pub add_lines-requires-clause-least : goal.add_lines-requires-clause-least
add_lines-requires-clause-least c = λ by_pairs.
    let fits = step_fits (get_or c.as_slice-name-items.result.now c.loop-name.name-index Spf) c.args.plan.now c.args.network.now c.args.traffic.now c.args.failures.now
    c.args.step c.in_ok-simulated.simulated c.in_ok-simulated.ensures.step in
    omega (
      arith,
      (c.in_ok-least.ensures by_pairs).count,
      ap (λ (l : List (Option ℕ)). length l) c.as_slice-costs.ensures.value,
      ap (λ (l : List Pair). length l) c.as_slice-pairs.ensures,
      fits.pairs,
    )

pub loop-name-preserved : goal.loop-name-preserved
loop-name-preserved c =
    let plan = c.args.plan.now in
    let net = c.args.network.now in
    let traffic = c.args.traffic.now in
    let failures = c.args.failures.now in
    let step = c.args.step in
    let names = plan.schemes in
    let i = c.loop-name.name-index in
    let least = c.as_slice-costs.result.now in
    let same = c.as_slice-name-items.ensures in
    let name = get_or c.as_slice-name-items.result.now i Spf in
    let inside : i < length names = subst (λ (ns : List SchemeName). i < length ns) same c.loop-name-test.true in
    let one_more = ap (λ (ns : List SchemeName). take i names ++ get_or ns i Spf ∷ []) same ∙ sym (take_more names i Spf inside) in
    subst (λ (ns : List SchemeName). AreLinesOf ns c.args.breakdown plan net traffic failures step least c.add_lines.new.text.items) one_more
    (lines_of_scheme_more (take i names) name c.args.breakdown plan net traffic failures step least c.as_slice-costs.result.now c.as_slice-marks.result.now
    c.matrix_of-matrix.result.now.demand c.word-word.result.now c.loop-name.text.items c.add_lines.new.text.items c.in_ok-simulated.simulated
    c.loop-name.invariant c.in_ok-simulated.ensures.step (c.as_slice-marks.ensures.value ∙ c.in_ok-failed.ensures) c.matrix_of-matrix.ensures.matrix refl
    c.word-word.ensures.word c.in_ok-add_lines.ensures)

pub returns : goal.returns
returns c =
    let plan = c.args.plan.now in
    let least = c.as_slice-costs.result.now in
    let every : take c.loop-name.name-index plan.schemes ≡ plan.schemes =
    take_all c.loop-name.name-index plan.schemes (omega (arith, c.loop-name-test.false, ap (λ (ns : List SchemeName). length ns) c.as_slice-name-items.ensures))
    in
    let lines = subst (λ (ns : List SchemeName). AreLinesOf ns c.args.breakdown plan c.args.network.now c.args.traffic.now c.args.failures.now c.args.step least
    c.loop-name.text.items) every c.loop-name.invariant in
    record {
      steps = lines.steps;
      are_steps = lines.are_steps;
      least = least;
      are_least = λ by_pairs.
          subst (λ (ls : List (Option ℕ)). AreLeastCosts c.args.network.now c.args.traffic.now.sent.pairs.list ls) (sym c.as_slice-costs.ensures.value)
          (subst (λ (ps : List Pair). AreLeastCosts c.args.network.now ps c.in_ok-least.least.items) c.as_slice-pairs.ensures (c.in_ok-least.ensures by_pairs));
      text_is = lines.text_is;
    }
