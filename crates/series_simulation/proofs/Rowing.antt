-- The rows so far, with one row more.
use Rattle.std.proofs.Common.{◌≡◌, ℕ, ◌+◌, ◌<◌, List, [], ◌∷◌, ◌++◌, length, Option, arith, ap, sym, subst, ◌∙◌, inl, inr}
use Rattle.std.proofs.lemmas.Bool.{cases_lt}
use Rattle.std.proofs.lemmas.List.{get_or_append_left, get_or_push, length_push}
use Rattle.te_model.specs.declared.network.Network.{Network}
use Rattle.te_model.specs.declared.route.Pair.{Pair}
use Rattle.te_model.specs.declared.route.PairRoutes.{PairRoutes}
use Rattle.failure.specs.declared.outage.Failures.{Failures}
use Rattle.failure.specs.Series.{marks_of}
use Rattle.traffic_matrix.specs.declared.traffic.Traffic.{Traffic}
use Rattle.traffic_matrix.specs.Traffic.{predicted_in, sent_in}
use Rattle.plan.specs.declared.recovery.Recovery.{Recovery}
use Rattle.series_simulation.specs.declared.step_row.StepRow.{StepRow}
use Rattle.series_simulation.specs.Rows.{AreStepRows, IsStepRow, no_row, step_row_at}
use Rattle.series_simulation.specs.Simulation.{IsConservedStep}

-- what holds of each row so far and of the next holds of each
rows_more : (P : ℕ → StepRow → Type 0) (rows : List StepRow) (row : StepRow) (n : ℕ) → length rows ≡ n →
    ((k : ℕ) → k < n → P k (step_row_at rows k)) → P n row → (k : ℕ) → k < n + 1 → P k (step_row_at (rows ++ row ∷ []) k)
rows_more P rows row n count before here k below = elim (cases_lt k n) [
  | inl lt ↦ subst (P k) (sym (get_or_append_left rows (row ∷ []) no_row k (omega (arith, lt, count)))) (before k lt)
  | inr ge ↦
      let last : n ≡ k = omega (arith, ge, below) in
      subst (λ (i : ℕ). P i (step_row_at (rows ++ row ∷ []) i)) last
      (subst (P n) (sym (get_or_push rows row no_row n count)) here)
]

module _ {Plan Note : Type 0} (limit : ℕ) (is_plan : Network → List Pair → Plan → Type 0)
    (relates : Network → List Pair → Plan → List ℕ → List PairRoutes → Note → Type 0) (low : Note → Option ℕ)
    (path_set : Plan → Option (List PairRoutes)) (adapts : Network → List PairRoutes → List ℕ → List PairRoutes → Option ℕ → Type 0)
    (net : Network) (traffic : Traffic) (failures : Failures) (recovery : Recovery) (plan : Plan) where
  -- the row of step k, by the plan
  pub record IsRowOf (k : ℕ) (r : StepRow) : Type 0 where
    pub step : r.step ≡ k
    pub row : IsStepRow limit is_plan relates low path_set adapts net (marks_of net failures k) traffic.sent.pairs.list (predicted_in traffic k) (sent_in traffic k) recovery plan r
    pub conserved : IsConservedStep (sent_in traffic k) r.result

  -- the rows of the first n steps
  pub record AreRowsBefore (n : ℕ) (rows : List StepRow) : Type 0 where
    pub count : length rows ≡ n
    pub each : (k : ℕ) → k < n → IsRowOf k (step_row_at rows k)

  pub rows_begin : AreRowsBefore 0 []
  rows_begin = record { count = omega arith; each = λ k below. absurd (omega arith) }

  pub rows_next : (n : ℕ) (rows : List StepRow) (row : StepRow) → AreRowsBefore n rows → IsRowOf n row → AreRowsBefore (n + 1) (rows ++ row ∷ [])
  rows_next n rows row before here = record {
    count = length_push rows row ∙ ap (λ m. m + 1) before.count;
    each = rows_more IsRowOf rows row n before.count before.each here;
  }

  pub rows_end : (n : ℕ) (rows : List StepRow) → n ≡ length traffic.sent.steps → AreRowsBefore n rows →
      AreStepRows limit is_plan relates low path_set adapts net traffic failures recovery rows
  rows_end n rows all before = record {
    plan = plan;
    count = before.count ∙ all;
    steps = λ k below. (before.each k (omega (arith, below, before.count))).step;
    each = λ k below. (before.each k (omega (arith, below, before.count))).row;
  }
