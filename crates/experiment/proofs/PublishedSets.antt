-- The demand set that a plan publishes is within the limits.
use Rattle.std.proofs.Common.{ℕ, ◌≤◌, Bool, true, false, cond, length, Option, Some, None, arith}
use Rattle.std.specs.Prelude.{IfSome}
use Rattle.std.proofs.lemmas.Bool.Decides.{nat_tests}
use Rattle.best_blocks.specs.Conditions.{IsSetWithin}
use Rattle.traffic_matrix.specs.declared.series.Series.{Series}
use Rattle.traffic_matrix.specs.Limits.{IsSeries}
use Rattle.traffic_matrix.proofs.FirstMatrix.{first_demands}
use Rattle.plan.specs.declared.experiment.Experiment.{Experiment}
use Rattle.plan.specs.Plan.{InRange}
use Rattle.experiment.specs.Envelope.{envelope_of}
use Rattle.experiment.specs.Published.{margin_set, published_set}
use Rattle.experiment.proofs.Envelopes.{envelope_within}

pub set_within : (n : ℕ) (plan : Experiment) (series : Series) → InRange plan → IsSeries n series →
    IsSetWithin (length series.pairs.list) (published_set plan series)
set_within n plan series range is = either plan.envelope
  where
    pairs : ℕ
    pairs = length series.pairs.list

    go : (margin : Option (ℕ × ℕ)) → IfSome margin (λ m. (1 ≤ m.1) × (m.1 ≤ m.0) × (m.0 ≤ 1000)) →
        IsSetWithin pairs (margin_set margin series)
    go None range = tt
    go (Some m) range = (
      grind (arith, nat_tests),
      first_demands n series is,
    )

    either : (asked : Bool) → IsSetWithin pairs (cond asked (envelope_of series) (margin_set plan.margin series))
    either true = envelope_within n series is
    either false = go plan.margin range.margin
