use Rattle.std.proofs.Common.{◌≡◌, ◌∙◌, ℕ, List, length, ap, subst, sym}
use Rattle.std.proofs.lemmas.Result.{IfOk-weaker}
use Rattle.te_model.specs.declared.demand.Matrix.{Matrix}
use Rattle.traffic_matrix.specs.declared.series.Series.{Series}
use Rattle.traffic_matrix.specs.Limits.{IsSeries}
use Rattle.traffic_matrix.specs.Traffic.{series_over, with_pairs}
use Rattle.traffic_matrix.proofs.OutsideRows.{own-among}
use Rattle.traffic_matrix.proofs.PairUnion.{node-pairs}
use Rattle.traffic_matrix.proofs.TrafficLemmas.{over-limits}
use Rattle.traffic_matrix.proofs.series_over.with_pairs.Goals as goal

pub series_over-requires-clause-own : goal.series_over-requires-clause-own
series_over-requires-clause-own c =
    let own = c.args.series.now.pairs.list in
    let pairs = c.args.pairs.now in
    let (n, is, all) = c.requires.series in
    own-among n own pairs (node-pairs n own is.pairs) is.ascending (node-pairs n pairs all) c.requires.ascending c.requires.among

pub returns-clause-series : goal.returns-clause-series
returns-clause-series c =
    let pairs = c.args.pairs.now in
    let series = c.args.series.now in
    IfOk-weaker c.series_over.result _ _
    (λ s is. is ∙ ap (λ (steps : List Matrix). series_over pairs (length steps) series) c.as_slice-count.ensures) c.series_over.ensures

pub returns-clause-in_range : goal.returns-clause-in_range
returns-clause-in_range c = λ n is all.
    let pairs = c.args.pairs.now in
    let series = c.args.series.now in
    IfOk-weaker c.series_over.result _ _
    (λ s made. subst (IsSeries n)
    (sym (made ∙ ap (λ (steps : List Matrix). series_over pairs (length steps) series) c.as_slice-count.ensures))
    (over-limits n pairs (length series.steps) series all c.requires.ascending is.few is)) c.series_over.ensures
