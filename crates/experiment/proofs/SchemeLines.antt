-- The lines and the total of the rows so far, with one row more, and the lines of all of them.
use Rattle.std.proofs.Common.{ℕ, ◌≡◌, ◌∙◌, ap, sym, List, [], ◌∷◌, ◌++◌, append-nil}
use Rattle.std.specs.Prelude.{None, codes, flat_map}
use Rattle.std.proofs.lemmas.List.Concat.{flat_map-append}
use Rattle.std.proofs.lemmas.List.Sums.{fold_push}
use Rattle.series_simulation.specs.declared.step_row.StepRow.{StepRow}
use Rattle.experiment.specs.declared.figures.Figures.{Figures}
use Rattle.experiment.specs.Text.{figures_of, line, no_figures, step_line, scheme_lines, total_of, with_step}

pub lines_next : (word text more : List ℕ) (rows : List StepRow) (row : StepRow) → text ≡ flat_map (step_line word) rows →
    more ≡ text ++ step_line word row → more ≡ flat_map (step_line word) (rows ++ row ∷ [])
lines_next word text more rows row so_far grown =
    let before = flat_map (step_line word) rows in
    let last : flat_map (step_line word) (row ∷ []) ≡ step_line word row = append-nil (step_line word row) in
    grown ∙ (ap (λ (t : List ℕ). t ++ step_line word row) so_far
    ∙ sym (flat_map-append (step_line word) rows (row ∷ []) ∙ ap (λ (l : List ℕ). before ++ l) last))

pub total_next : (total step more : Figures) (rows : List StepRow) (row : StepRow) → total ≡ total_of rows → step ≡ figures_of row →
    more ≡ with_step total step → more ≡ total_of (rows ++ row ∷ [])
total_next total step more rows row so_far of grown =
    grown ∙ (ap (λ (s : Figures). with_step total s) of
    ∙ (ap (λ (f : Figures). with_step f (figures_of row)) so_far
    ∙ sym (fold_push (λ (f : Figures) (r : StepRow). with_step f (figures_of r)) no_figures rows row)))

pub lines_end : (word text more : List ℕ) (total : Figures) (rows : List StepRow) → text ≡ flat_map (step_line word) rows → total ≡ total_of rows →
    more ≡ text ++ line word (codes "total") total None → more ≡ scheme_lines word rows
lines_end word text more total rows so_far counted grown =
    grown ∙ (ap (λ (t : List ℕ). t ++ line word (codes "total") total None) so_far
    ∙ ap (λ (f : Figures). flat_map (step_line word) rows ++ line word (codes "total") f None) counted)
