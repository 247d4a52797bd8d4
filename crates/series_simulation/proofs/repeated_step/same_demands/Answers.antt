use Rattle.std.proofs.Common.{◌∙◌, sym}
use Rattle.std.proofs.lemmas.Bool.Decides.{Decides-eqb, Decides-like}
use Rattle.std.proofs.lemmas.Slice.Eq.{slice_eq-Decides}
use Rattle.series_simulation.proofs.repeated_step.same_demands.Goals as goal

pub returns : goal.returns
returns c =
    let first = c.matrix_of-first.ensures.matrix in
    let second = c.matrix_of-second.ensures.matrix in
    Decides-like c.eq.result (λ e. sym first ∙ e ∙ second) (λ e. first ∙ e ∙ sym second) (slice_eq-Decides Decides-eqb _ _ _ c.eq.ensures)
