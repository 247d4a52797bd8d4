-- What `publish` answers: a file to which `check` says yes, or the first pair without a path.
use Rattle.std.proofs.Common.{◌≡◌, ◌≤◌, ◌⊎◌, ℕ, List, [], None, true, inl, inr, refl, sym, ◌∙◌, arith}
use Rattle.te_model.specs.declared.network.Network.{Network}
use Rattle.te_model.specs.Network.{is_well_formed, link_count, node_count}
use Rattle.te_model.specs.Pairs.{pair_at}
use Rattle.scheme.specs.Reach.{AllReached, IsFirstWithout}
use Rattle.scheme.proofs.Reaching.{reached_or_first}
use Rattle.traffic_matrix.specs.declared.series.Series.{Series}
use Rattle.traffic_matrix.specs.Limits.{IsSeries}
use Rattle.traffic_matrix.specs.Traffic.{traffic_of}
use Rattle.traffic_matrix.proofs.TrafficLemmas.{traffic_limits}
use Rattle.plan.specs.declared.experiment.Experiment.{Experiment}
use Rattle.plan.specs.Plan.{InRange}
use Rattle.experiment.specs.Published.{IsPublished}
use Rattle.experiment.proofs.Accepted.{published_accepted}
use Rattle.experiment.proofs.Existence.{publications_exist}
use Rattle.command_frame.specs.Sound.{IsSound, HasText}
use Rattle.command_frame.specs.Table.{IsSoundEntry}
use Rattle.command_files.specs.Check.{IsAnsweredYes}
use Rattle.plan_commands.specs.Publish.{IsPublicationStatus, IsPublication, IsProvedFile, no_path_line, publication_of, publish_entry}
use Rattle.plan_commands.proofs.InputReads.{behind_matrices, publication_reading}
use Rattle.command_files.proofs.PlanFiles.{at_end_of_predictions, inputs_in_range, plan_regular, predictions_regular}

-- what is published is short enough to be checked, and is answered yes
published_answered : (plan : Experiment) (n : Network) (series : Series) (text : List ℕ) → IsPublished plan n series text → IsAnsweredYes text
published_answered plan n series text published =
    let is = published_accepted plan n series text published in
    record {
      fits = is.fits;
      certificate = is.certificate;
      spelled = is.spelled;
      proof = record { holds = is.holds; ratio = is.ratio };
      answer = λ file. inr (is.certificate, [], (text, refl, is.fits, is.spelled), (inl (refl, record { holds = is.no_failure; line_is = refl }), tt));
    }

published_proves : (plan : Experiment) (n : Network) (series : Series) (text : List ℕ) → IsPublication plan n series 0 text → IsProvedFile plan n series text
published_proves plan n series text (inl x) =
    let is = published_answered plan n series text x.2 in
    record { reached = x.1; published = x.2; certificate = is.certificate; spelled = is.spelled; proof = is.proof }
published_proves plan n series text (inr x) = absurd (omega (arith, x.0))

publication_status : (plan : Experiment) (n : Network) (series : Series) (s : ℕ) (text : List ℕ) → IsPublication plan n series s text → IsPublicationStatus n series s
publication_status plan n series s text (inl x) = inl (x.0, x.1)
publication_status plan n series s text (inr x) = inr (x.0, (text, x.1))

-- a pair has a path or has none
not_without : (n : Network) (series : Series) (p : ℕ) → AllReached n series.pairs.list → IsFirstWithout n series.pairs.list p → ⊥
not_without n series p all first = first.without (all p first.inside)

publication_once : (n : Network) (series : Series) (s t : ℕ) → IsPublicationStatus n series s → IsPublicationStatus n series t → s ≡ t
publication_once n series s t (inl x) (inl y) = x.0 ∙ sym y.0
publication_once n series s t (inl x) (inr y) = absurd (not_without n series y.1.1.place x.1 y.1.1.first)
publication_once n series s t (inr x) (inl y) = absurd (not_without n series x.1.1.place y.1 x.1.1.first)
publication_once n series s t (inr x) (inr y) = x.0 ∙ sym y.0

publication_some : (n : Network) (series : Series) → (s : ℕ) × IsPublicationStatus n series s
publication_some n series = go (reached_or_first n series.pairs.list)
  where
    go : AllReached n series.pairs.list ⊎ ((p : ℕ) × IsFirstWithout n series.pairs.list p) → (s : ℕ) × IsPublicationStatus n series s
    go (inl reached) = (0, inl (refl, reached))
    go (inr x) = (7, inr (refl, (no_path_line n (pair_at series.pairs.list x.0), record { place = x.0; first = x.1; line_is = refl })))

publication_form : (plan : Experiment) (n : Network) (series : Series) (s : ℕ) (text : List ℕ) → IsPublication plan n series s text →
    ((s ≡ 0) × IsAnsweredYes text) ⊎ (s ≡ 7)
publication_form plan n series s text (inl x) = inl (x.0, published_answered plan n series text x.2)
publication_form plan n series s text (inr x) = inr x.0

publication_three : (plan : Experiment) (n : Network) (series : Series) (text : List ℕ) → IsPublication plan n series 3 text → ⊥
publication_three plan n series text (inl x) = omega (arith, x.0)
publication_three plan n series text (inr x) = omega (arith, x.0)

publication_sound : (plan : Experiment) (n : Network) (series : Series) → IsSound (λ s text. ((s ≡ 0) × IsAnsweredYes text) ⊎ (s ≡ 7)) (publication_of plan n series)
publication_sound plan n series = record {
  once = publication_once n series;
  some = publication_some n series;
  of_text = publication_status plan n series;
  proves = published_proves plan n series;
  form = publication_form plan n series;
  accepted = publication_three plan n series;
}

-- there is a text
publication_text : (plan : Experiment) (n : Network) (series : Series) → InRange plan → is_well_formed n ≡ true → 1 ≤ link_count n →
    IsSeries (node_count n) series → HasText (publication_of plan n series)
publication_text plan n series range formed some is = go (reached_or_first n series.pairs.list)
  where
    go : AllReached n series.pairs.list ⊎ ((p : ℕ) × IsFirstWithout n series.pairs.list p) → HasText (publication_of plan n series)
    go (inl reached) =
        let (text, published) = publications_exist plan n series range formed some is reached in
        (0, text, inl (refl, reached, published))
    go (inr x) = (7, no_path_line n (pair_at series.pairs.list x.0), inr (refl, record { place = x.0; first = x.1; line_is = refl }))

pub publish_is_sound : (file : List ℕ) → IsSoundEntry (publish_entry file)
publish_is_sound file = record {
  regular = plan_regular None file (behind_matrices publication_reading)
      (λ plan n series. predictions_regular n plan.predictions (publication_reading plan n series) (λ predictions. tt));
  sound = λ bytes plan says rows n makes demands series reads.
      at_end_of_predictions (IsSound (λ s text. ((s ≡ 0) × IsAnsweredYes text) ⊎ (s ≡ 7))) n plan.predictions (publication_reading plan n series)
      (inputs_in_range None bytes rows demands plan n series says makes reads).1
      (λ predictions are. publication_sound plan n (traffic_of (node_count n) series predictions).sent);
  one_text = λ is. absurd is;
  some_text = λ is bytes plan says rows n makes demands series reads.
      let within = inputs_in_range None bytes rows demands plan n series says makes reads in
      at_end_of_predictions HasText n plan.predictions (publication_reading plan n series) within.1 (λ predictions are.
      publication_text plan n (traffic_of (node_count n) series predictions).sent within.0 within.1 within.2
      (traffic_limits (node_count n) series predictions within.3 are).sent);
}
