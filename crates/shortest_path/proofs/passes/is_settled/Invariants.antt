use Rattle.shortest_path.specs.Passes.{NoneIsNearer}
use Rattle.shortest_path.proofs.passes.is_settled.Given as goal

abbrev pub invariant-loop-v : goal.invariant-loop-v
invariant-loop-v l = NoneIsNearer l.v l.distances l.scans
