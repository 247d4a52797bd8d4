-- Reports grow by a scheme.
use Rattle.std.proofs.Common.{ℕ, ◌≡◌, ◌∙◌, sym, ap, List, [], ◌∷◌, ◌++◌, append_assoc, append-nil}
use Rattle.std.specs.List.{AllZip}
use Rattle.te_model.specs.declared.network.Network.{Network}
use Rattle.failure.specs.declared.outage.Failures.{Failures}
use Rattle.traffic_matrix.specs.declared.traffic.Traffic.{Traffic}
use Rattle.plan.specs.declared.experiment.Experiment.{Experiment}
use Rattle.plan.specs.declared.scheme_name.SchemeName.{SchemeName}
use Rattle.plan.specs.Words.{scheme_word}
use Rattle.series_simulation.specs.declared.step_row.StepRow.{StepRow}
use Rattle.experiment.specs.Schemes.{AreSchemeRows}
use Rattle.experiment.specs.Text.{header, scheme_lines}
use Rattle.experiment.specs.Report.{IsReportOfSchemes, lines_of_schemes}

module _ {A B : Type 0} (R : A → B → Type 0) (x : A) (y : B) (is : R x y) where
  zip_more : (xs : List A) (ys : List B) → AllZip R xs ys → AllZip R (xs ++ x ∷ []) (ys ++ y ∷ [])
  zip_more [] [] all = (is, tt)
  zip_more [] (b ∷ ys) all = absurd all
  zip_more (a ∷ xs) [] all = absurd all
  zip_more (a ∷ xs) (b ∷ ys) all = (all.0, zip_more xs ys all.1)

module _ (R : SchemeName → List StepRow → Type 0) (name : SchemeName) (part : List StepRow) where
  lines_more : (names : List SchemeName) (rows : List (List StepRow)) → AllZip R names rows →
      lines_of_schemes (names ++ name ∷ []) (rows ++ part ∷ []) ≡ lines_of_schemes names rows ++ scheme_lines (scheme_word name) part
  lines_more [] [] all = append-nil (scheme_lines (scheme_word name) part)
  lines_more [] (r ∷ rows) all = absurd all
  lines_more (n ∷ names) [] all = absurd all
  lines_more (n ∷ names) (r ∷ rows) all =
      let first = scheme_lines (scheme_word n) r in
      ap (λ (l : List ℕ). first ++ l) (lines_more names rows all.1)
      ∙ sym (append_assoc first (lines_of_schemes names rows) (scheme_lines (scheme_word name) part))

-- one scheme more
pub report_more : (plan : Experiment) (net : Network) (traffic : Traffic) (failures : Failures) (names : List SchemeName) (name : SchemeName)
    (bytes more : List ℕ) (part : List StepRow) → IsReportOfSchemes names plan net traffic failures bytes →
    AreSchemeRows name plan net traffic failures part → more ≡ bytes ++ scheme_lines (scheme_word name) part →
    IsReportOfSchemes (names ++ name ∷ []) plan net traffic failures more
report_more plan net traffic failures names name bytes more part so_far are grown =
    let R : SchemeName → List StepRow → Type 0 = λ n p. AreSchemeRows n plan net traffic failures p in
    record {
      rows = so_far.rows ++ part ∷ [];
      are_rows = zip_more R name part are names so_far.rows so_far.are_rows;
      text_is =
          grown ∙ (ap (λ (t : List ℕ). t ++ scheme_lines (scheme_word name) part) so_far.text_is
          ∙ (append_assoc header (lines_of_schemes names so_far.rows) (scheme_lines (scheme_word name) part)
          ∙ ap (λ (l : List ℕ). header ++ l) (sym (lines_more R name part names so_far.rows so_far.are_rows))));
    }
