use Rattle.std.proofs.Common.{◌≡◌, ℕ, ◌<◌, List, length, get_or, ap, sym, subst, ◌∙◌}
use Rattle.std.proofs.lemmas.List.{get_or_default}
use Rattle.std.proofs.lemmas.List.Elements.{All-get_or}
use Rattle.te_model.specs.declared.demand.Matrix.{Matrix}
use Rattle.te_model.specs.Pairs.{AreDemands}
use Rattle.traffic_matrix.specs.declared.series.Series.{Series}
use Rattle.traffic_matrix.specs.Text.{no_matrix}
use Rattle.traffic_matrix.specs.Traffic.{demands_in}
use Rattle.series_simulation.proofs.step_matrices.matrix_of.Goals as goal

-- the demands of the matrix that was read are those of the step
demands_read : (series : Series) (step : ℕ) {matrix : Matrix} → step < length series.steps → matrix ≡ get_or series.steps step matrix →
    matrix.demand ≡ demands_in series step
demands_read series step {matrix} below is = ap (λ (m : Matrix). m.demand) (is ∙ get_or_default series.steps step matrix no_matrix below)

pub returns-clause-matrix : goal.returns-clause-matrix
returns-clause-matrix c = demands_read c.args.series.now c.args.step c.requires.step cc

pub returns-clause-demands : goal.returns-clause-demands
returns-clause-demands c =
    let series = c.args.series.now in
    let count = length series.pairs.list in
    subst (λ (ds : List ℕ). AreDemands count ds) (sym (demands_read series c.args.step c.requires.step cc))
    (All-get_or (λ (m : Matrix). AreDemands count m.demand) series.steps c.args.step no_matrix c.requires.step c.requires.demands)
