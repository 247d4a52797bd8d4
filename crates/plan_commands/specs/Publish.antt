-- What `publish` answers of a plan on its network and its series: the file of a certificate, or which pair has no path.
use Rattle.std.specs.Prelude.{◌≡◌, ◌⊎◌, ℕ, List, [], ◌∷◌, ◌++◌, codes, None}
use Rattle.te_model.specs.declared.certificate.Certificate.{Certificate}
use Rattle.te_model.specs.declared.network.Network.{Network}
use Rattle.te_model.specs.declared.route.Pair.{Pair}
use Rattle.te_model.specs.Network.{name_at, node_count}
use Rattle.te_model.specs.Text.{Spells}
use Rattle.te_model.specs.Pairs.{pair_at}
use Rattle.scheme.specs.Reach.{AllReached, IsFirstWithout}
use Rattle.traffic_matrix.specs.declared.series.Series.{Series}
use Rattle.traffic_matrix.specs.Traffic.{traffic_of}
use Rattle.plan.specs.declared.experiment.Experiment.{Experiment}
use Rattle.experiment.specs.Published.{IsPublished}
use Rattle.command_frame.specs.Reading.{Answers, answers}
use Rattle.command_frame.specs.Table.{Entry}
use Rattle.command_files.specs.Check.{IsProof, IsAnsweredYes}
use Rattle.command_files.specs.PlanReading.{with_plan, with_predictions}

-- the line of a pair that has no path, by the names of its nodes
abbrev pub no_path_line : Network → Pair → List ℕ
no_path_line network pair =
    codes "no path: " ++ (name_at network pair.src ++ (codes " " ++ (name_at network pair.dst ++ 10 ∷ [])))

-- the line names the first pair that has no path
pub record SaysNoPath (network : Network) (pairs : List Pair) (line : List ℕ) : Type 0 where
  pub place : ℕ
  pub first : IsFirstWithout network pairs place
  pub line_is : line ≡ no_path_line network (pair_at pairs place)

-- each declared pair has a path, and a certificate is published, or the first that has none is named
abbrev pub IsPublication : Experiment → Network → Series → ℕ → List ℕ → Type 0
IsPublication plan network series status text =
    ((status ≡ 0) × AllReached network series.pairs.list × IsPublished plan network series text)
    ⊎ ((status ≡ 7) × SaysNoPath network series.pairs.list text)

-- its status alone
abbrev pub IsPublicationStatus : Network → Series → ℕ → Type 0
IsPublicationStatus network series status =
    ((status ≡ 0) × AllReached network series.pairs.list)
    ⊎ ((status ≡ 7) × ((line : List ℕ) × SaysNoPath network series.pairs.list line))

-- the text is the file of a certificate that is made of the plan, its network and its series, and this file proves its ratio
pub record IsProvedFile (plan : Experiment) (network : Network) (series : Series) (text : List ℕ) : Type 0 where
  pub reached : AllReached network series.pairs.list
  pub published : IsPublished plan network series text
  pub certificate : Certificate
  pub spelled : Spells text certificate
  pub proof : IsProof certificate

abbrev pub publication_of : Experiment → Network → Series → Answers
publication_of plan network series = record {
  status = IsPublicationStatus network series;
  text = IsPublication plan network series;
  proves = IsProvedFile plan network series;
}

-- `publish PLAN` writes a file to which `check` says yes, or names a pair without a path. Predictions declare their pairs, and say
-- nothing else of what is published.
abbrev pub publish_entry : List ℕ → Entry
publish_entry plan = record {
  reading = with_plan None plan (λ named network series. with_predictions network named.predictions (λ predictions.
      answers (publication_of named network (traffic_of (node_count network) series predictions).sent)));
  may_answer = λ status text. ((status ≡ 0) × IsAnsweredYes text) ⊎ (status ≡ 7);
  has_one_text = ⊥;
  in_range = Unit {0};
}
