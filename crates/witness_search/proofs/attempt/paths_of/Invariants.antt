use Rattle.std.proofs.Common.{◌≡◌}
use Rattle.witness_search.specs.Candidates.{paths_by}
use Rattle.witness_search.proofs.attempt.paths_of.Given as goal

abbrev pub invariant-loop-route : goal.invariant-loop-route
invariant-loop-route l = l.rival.items ≡ paths_by l.yielded
