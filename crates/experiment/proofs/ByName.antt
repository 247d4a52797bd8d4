-- What a scheme gives is what the table of schemes says of its name.
use Rattle.std.proofs.Common.{◌≡◌, ℕ, List, sym, subst, Some, Result}
use Rattle.std.specs.Prelude.{IfOk}
use Rattle.std.proofs.lemmas.Result.{IfOk-weaker}
use Rattle.te_model.specs.declared.network.Network.{Network}
use Rattle.te_model.specs.declared.route.PairRoutes.{PairRoutes}
use Rattle.te_model.specs.declared.certificate.Certificate.{Certificate}
use Rattle.te_model.specs.declared.demand.DemandSet.{DemandSet}
use Rattle.path_budget.specs.Budget.{trimmed_routes}
use Rattle.failure.specs.declared.outage.Failures.{Failures}
use Rattle.traffic_matrix.specs.declared.series.Series.{Series}
use Rattle.traffic_matrix.specs.declared.traffic.Traffic.{Traffic}
use Rattle.plan.specs.declared.experiment.Experiment.{Experiment}
use Rattle.plan.specs.declared.scheme_name.SchemeName.{SchemeName}
use Rattle.plan.specs.Words.{scheme_word}
use Rattle.series_simulation.specs.declared.step_row.StepRow.{StepRow}
use Rattle.ratio_certificate.specs.Offers.{IsMadeWithinAll}
use Rattle.experiment.specs.Published.{published_set, IsMadeByPlan}
use Rattle.experiment.specs.Schemes.{AreSchemeRows, IsSchemeRouting, meaning_of}
use Rattle.experiment.specs.Text.{scheme_lines}

-- a certificate of the scheme that the plan names is made by the plan
pub made_by_name : {E : Type 0} (name : SchemeName) (plan : Experiment) (net : Network) (series : Series) (set : DemandSet)
    (kept : (meaning_of name plan).Plan → List PairRoutes) → ((p : (meaning_of name plan).Plan) → (meaning_of name plan).fixed p ≡ Some (kept p)) →
    plan.publish ≡ name → set ≡ published_set plan series → (r : Result Certificate E) →
    IfOk r (λ c. (p : (meaning_of name plan).Plan) × (meaning_of name plan).is_plan net series.pairs.list p
    × IsMadeWithinAll net (trimmed_routes plan.budget (kept p)) set c) →
    IfOk r (IsMadeByPlan plan net series)
made_by_name name plan net series set kept fixed named same r =
    IfOk-weaker r
    (λ c. (p : (meaning_of name plan).Plan) × (meaning_of name plan).is_plan net series.pairs.list p
    × IsMadeWithinAll net (trimmed_routes plan.budget (kept p)) set c)
    (IsMadeByPlan plan net series)
    (λ c is.
    let within = subst (λ (s : DemandSet). IsMadeWithinAll net (trimmed_routes plan.budget (kept is.0)) s c) same is.2 in
    record {
      routes = kept is.0;
      routing = subst (λ (n : SchemeName). IsSchemeRouting n plan net series.pairs.list (kept is.0)) (sym named)
          (record { plan = is.0; planned = is.1; kept = fixed is.0 });
      made = within.made;
      all_matrices = within.all_matrices;
    })

-- the lines of a scheme are those of its name
pub lines_by_word : {F E : Type 0} (name scheme : SchemeName) (plan : Experiment) (net : Network) (traffic : Traffic) (failures : Failures)
    (word : List ℕ) → name ≡ scheme → word ≡ scheme_word name → (items : F → List ℕ) (r : Result F E) →
    IfOk r (λ text. (rows : List StepRow) × AreSchemeRows scheme plan net traffic failures rows × (items text ≡ scheme_lines word rows)) →
    IfOk r (λ text. (rows : List StepRow) × AreSchemeRows name plan net traffic failures rows × (items text ≡ scheme_lines (scheme_word name) rows))
lines_by_word name scheme plan net traffic failures word named spelled items r are =
    subst (λ (n : SchemeName).
    IfOk r (λ text. (rows : List StepRow) × AreSchemeRows n plan net traffic failures rows × (items text ≡ scheme_lines (scheme_word name) rows))) (sym named)
    (subst (λ (w : List ℕ).
    IfOk r (λ text. (rows : List StepRow) × AreSchemeRows scheme plan net traffic failures rows × (items text ≡ scheme_lines w rows))) spelled are)
