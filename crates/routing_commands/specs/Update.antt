-- What `update` answers of two certificates and the matrices of the older one's network.
use Rattle.std.specs.Prelude.{◌≡◌, ◌⊎◌, ◌≤◌, ℕ, List}
use Rattle.te_model.specs.declared.certificate.Certificate.{Certificate}
use Rattle.te_model.specs.declared.certificate.Head.{Head}
use Rattle.te_model.specs.declared.route.Pair.{Pair}
use Rattle.traffic_matrix.specs.First.{first_matrix}
use Rattle.traffic_matrix.specs.declared.series.Series.{Series}
use Rattle.update_plan.specs.declared.path.TheConstants.{MAX_STEPS}
use Rattle.update_plan.specs.declared.path.UpdatePlan.{UpdatePlan}
use Rattle.update_plan.specs.Answer.{HavePairs, IsUpdateText}
use Rattle.update_plan.specs.Plan.{IsPlanOf}
use Rattle.update_plan.specs.Text.{plan_text}
use Rattle.command_frame.specs.Reading.{Answers, Reading, answers, reads}
use Rattle.command_frame.specs.Table.{Entry}
use Rattle.command_files.specs.CertificateFile.{certificates}
use Rattle.command_files.specs.MatrixFile.{matrices}

-- The networks are one and the pairs are one, and the text is that of a plan from the one routing to the other: of 1 to 1000 steps, which
-- are safe for these demands, as no fewer steps are.
pub record IsSafeUpdate (old new : Head) (pairs : List Pair) (demand : List ℕ) (text : List ℕ) : Type 0 where
  pub networks_agree : old.network ≡ new.network
  pub pairs_agree : HavePairs old new pairs
  pub plan : UpdatePlan
  pub is_plan : IsPlanOf old.network old.routes new.routes demand plan
  pub text_is : text ≡ plan_text plan

-- a text at status 0 is that of a safe plan
abbrev pub update_between : Head → Head → Series → Answers
update_between old new series = record {
  status = λ status. (text : List ℕ) × IsUpdateText old new series.pairs.list (first_matrix series).demand status text;
  text = IsUpdateText old new series.pairs.list (first_matrix series).demand;
  proves = IsSafeUpdate old new series.pairs.list (first_matrix series).demand;
}

-- the matrices of the older certificate's network are read
abbrev pub matrices_reading : List ℕ → Head → Head → Reading
matrices_reading file old new = reads Series (matrices old.network) file (λ series. answers (update_between old new series))

-- and before them the newer certificate
abbrev pub newer_reading : List ℕ → List ℕ → Head → Reading
newer_reading certificate file old = reads Certificate certificates certificate (λ spelled. matrices_reading file old spelled.head)

-- the text of some plan of 1 to 1000 steps
pub record IsTextOfPlan (text : List ℕ) : Type 0 where
  pub plan : UpdatePlan
  pub some : 1 ≤ plan.steps
  pub few : plan.steps ≤ MAX_STEPS
  pub text_is : text ≡ plan_text plan

-- `update OLD NEW MATRICES` writes a plan or says why there is none, in one text
abbrev pub update_entry : List ℕ → List ℕ → List ℕ → Entry
update_entry old new file = record {
  reading = reads Certificate certificates old (λ spelled. newer_reading new file spelled.head);
  may_answer = λ status text. (status ≡ 1) ⊎ ((status ≡ 0) × IsTextOfPlan text);
  has_one_text = Unit {0};
  in_range = Unit {0};
}
