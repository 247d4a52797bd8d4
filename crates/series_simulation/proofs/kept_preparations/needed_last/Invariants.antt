use Rattle.series_simulation.proofs.KeptPreparations.{IsNeededLast}
use Rattle.series_simulation.proofs.kept_preparations.needed_last.Given as goal

abbrev pub invariant-loop-place : goal.invariant-loop-place
invariant-loop-place g l = IsNeededLast l.later l.kept l.place l.last l.greatest
