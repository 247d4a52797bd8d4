-- Published files are accepted.
use Rattle.std.proofs.Common.{ℕ, List}
use Rattle.te_model.specs.declared.network.Network.{Network}
use Rattle.te_model.specs.Text.{Spells}
use Rattle.te_model.proofs.Failures.{none_from_holds}
use Rattle.te_model.proofs.Oblivious.{holds_is_oblivious}
use Rattle.traffic_matrix.specs.declared.series.Series.{Series}
use Rattle.plan.specs.declared.experiment.Experiment.{Experiment}
use Rattle.text_size.proofs.ValidSizes.{fits_file}
use Rattle.experiment.specs.Published.{IsAccepted, IsPublished, seed_count}
use Rattle.experiment.proofs.Seeds.{best_is_made}

pub published_accepted : (plan : Experiment) (network : Network) (series : Series) (bytes : List ℕ) →
    IsPublished plan network series bytes → IsAccepted bytes
published_accepted plan network series bytes is =
    let by = best_is_made plan network series (seed_count plan) is.best.certificates is.certificate is.best.made is.best.best in
    let made = by.1.made in
    let spelled : Spells bytes is.certificate = (made.valid, is.text_is) in
    record {
      fits = fits_file bytes is.certificate spelled;
      certificate = is.certificate;
      spelled = spelled;
      holds = made.holds;
      no_failure = none_from_holds is.certificate made.holds;
      ratio = holds_is_oblivious is.certificate made.valid made.holds;
    }
