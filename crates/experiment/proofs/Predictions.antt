-- Oblivious schemes have just the rows that they have without predictions: their relation takes no demands, they state no bound, and they
-- choose no rates anew.
use Rattle.std.proofs.Common.{refl}
use Rattle.std.proofs.lemmas.Bool.{false≢true}
use Rattle.plan.specs.declared.scheme_name.SchemeName.TheVariants.{Spf, Ecmp, Ksp, Mcf, Racke, Smore, Valiant, Robust}
use Rattle.series_simulation.proofs.Predictions.{predictions_change_nothing}
use Rattle.experiment.specs.Laws.{PredictionsChangeNoOblivious}
use Rattle.experiment.specs.Schemes.{meaning_of}

pub predictions_change_no_oblivious : PredictionsChangeNoOblivious
predictions_change_no_oblivious Mcf plan net traffic failures rows is = absurd (false≢true is)
predictions_change_no_oblivious Smore plan net traffic failures rows is = absurd (false≢true is)
predictions_change_no_oblivious Spf plan net traffic failures rows is =
    let scheme = meaning_of Spf plan in
    predictions_change_nothing scheme.limit scheme.is_plan scheme.relates scheme.low scheme.path_set scheme.adapts (λ at pairs p one other routes note related. related)
    (λ note. refl) (λ p. refl) net traffic failures plan.recovery rows
predictions_change_no_oblivious Ecmp plan net traffic failures rows is =
    let scheme = meaning_of Ecmp plan in
    predictions_change_nothing scheme.limit scheme.is_plan scheme.relates scheme.low scheme.path_set scheme.adapts (λ at pairs p one other routes note related. related)
    (λ note. refl) (λ p. refl) net traffic failures plan.recovery rows
predictions_change_no_oblivious Ksp plan net traffic failures rows is =
    let scheme = meaning_of Ksp plan in
    predictions_change_nothing scheme.limit scheme.is_plan scheme.relates scheme.low scheme.path_set scheme.adapts (λ at pairs p one other routes note related. related)
    (λ note. refl) (λ p. refl) net traffic failures plan.recovery rows
predictions_change_no_oblivious Racke plan net traffic failures rows is =
    let scheme = meaning_of Racke plan in
    predictions_change_nothing scheme.limit scheme.is_plan scheme.relates scheme.low scheme.path_set scheme.adapts (λ at pairs p one other routes note related. related)
    (λ note. refl) (λ p. refl) net traffic failures plan.recovery rows
predictions_change_no_oblivious Valiant plan net traffic failures rows is =
    let scheme = meaning_of Valiant plan in
    predictions_change_nothing scheme.limit scheme.is_plan scheme.relates scheme.low scheme.path_set scheme.adapts (λ at pairs p one other routes note related. related)
    (λ note. refl) (λ p. refl) net traffic failures plan.recovery rows
predictions_change_no_oblivious Robust plan net traffic failures rows is =
    let scheme = meaning_of Robust plan in
    predictions_change_nothing scheme.limit scheme.is_plan scheme.relates scheme.low scheme.path_set scheme.adapts (λ at pairs p one other routes note related. related)
    (λ note. refl) (λ p. refl) net traffic failures plan.recovery rows
