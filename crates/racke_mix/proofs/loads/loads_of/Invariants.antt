use Rattle.racke_mix.proofs.Loading.{TreeLoadsSoFar}
use Rattle.racke_mix.proofs.loads.loads_of.Given as goal

abbrev pub invariant-loop-h : goal.invariant-loop-h
invariant-loop-h l = TreeLoadsSoFar l.net l.tree l.h l.loads.items
