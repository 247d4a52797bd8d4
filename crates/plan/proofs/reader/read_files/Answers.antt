use Rattle.std.proofs.Common.{refl}
use Rattle.plan.specs.Plan.{files_of}
use Rattle.plan.proofs.reader.read_files.Goals as goal

pub returns-clause-files : goal.returns-clause-files
unfolding files_of
returns-clause-files c =
    rw (c.in_ok-topology.ensures.text, c.in_ok-matrices.ensures.text, c.in_ok-failures.ensures.name, c.in_ok-predictions.ensures.name) refl
