use Rattle.std.proofs.Common.{refl}
use Rattle.plan.specs.Plan.{plan_of_object}
use Rattle.plan.proofs.reader.read_object.Goals as goal

pub returns-clause-plan : goal.returns-clause-plan
unfolding plan_of_object
returns-clause-plan c =
    rw (c.in_ok-topology.ensures.value, c.in_ok-matrices.ensures.value, c.in_ok-files.ensures.files, c.in_ok-choices.ensures.choices, c.in_ok-counts.ensures.counts, ← c.in_ok-envelope.ensures.envelope) refl
