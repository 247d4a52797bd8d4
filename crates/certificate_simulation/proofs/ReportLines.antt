-- What a line of the report is made from.
use Rattle.std.proofs.Common.{◌≡◌, ℕ, ◌<◌, ◌≤◌, ◌∙◌, Bool, List, get_or, arith}
use Rattle.te_model.specs.declared.network.Network.{Network}
use Rattle.failure.specs.declared.outage.Failures.{Failures}
use Rattle.failure.specs.Series.{marks_of, marks_of_steps}
use Rattle.series_simulation.proofs.Marking.{marks_at}
use Rattle.experiment.specs.declared.figures.Figures.{Figures}
use Rattle.experiment.specs.Text.{AmountsAtMost}

-- amounts below a bound are below a greater one
pub at_most_more : (bound greater : ℕ) (f : Figures) → bound ≤ greater → AmountsAtMost bound f → AmountsAtMost greater f
at_most_more bound greater f le is = record {
  offered = omega (arith, le, is.offered);
  delivered = omega (arith, le, is.delivered);
  lost_full = omega (arith, le, is.lost_full);
  lost_failed = omega (arith, le, is.lost_failed);
  lost_no_path = omega (arith, le, is.lost_no_path);
}

-- the marks of a step that are lent from those of so many steps
pub lent_marks : (net : Network) (failures : Failures) (steps k : ℕ) (series : List (List Bool)) (marks lent : List Bool) → lent ≡ marks →
    series ≡ marks_of_steps net failures steps → k < steps → marks ≡ get_or series k marks → lent ≡ marks_of net failures k
lent_marks net failures steps k series marks lent same all below read = same ∙ marks_at net failures steps k series marks all below read
